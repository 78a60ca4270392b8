-- How many rounds, answers, throttles and copies there are at most.
use Rattle.std.proofs.Common.{◌≡◌, ℕ, zero, suc, ◌+◌, ◌*◌, ◌<◌, ◌≤◌, Bool, true, false, cond, List, [], ◌∷◌, length, length-append, Option, None, Some, is_some, refl, ap, sym, ◌∙◌, arith}
use Rattle.std.specs.Prelude.{◌==◌, ◌&&◌, not, nat_le, nat_lt}
use Rattle.std.specs.List.{list_any, slice_get}
use Rattle.std.proofs.lemmas.Bool.{and_parts, eqb-true, eq-eqb, false≢true}
use Rattle.std.proofs.lemmas.Bool.Decides.{nat_tests}
use Rattle.std.proofs.lemmas.List.Sums.{length-filter, count_by-le-length}
use Rattle.dr_types.specs.declared.guest.Guest.{Guest}
use Rattle.dr_types.specs.Pages.{page_count}
use Rattle.dr_types.specs.Scripts.{vcpu_count}
use Rattle.dr_history.specs.declared.event.Event.{Event}
use Rattle.dr_history.specs.declared.event.Event.TheVariants.{Asked, Synced, Copied, Throttled}
use Rattle.dr_history.specs.Kinds.{is_asked, is_stopped, is_copied}
use Rattle.dr_history.specs.Lookback.{count, since, below, is_number}
use Rattle.dr_history.specs.Dirty.{dirty, dirty_pages}
use Rattle.dr_history.specs.Rounds.{asks, unanswered, last_synced}
use Rattle.dr_history.specs.Throttles.{next_throttled, one_after, throttle_due, if_below}
use Rattle.dr_history.specs.Vcpus.{stopped}
use Rattle.dr_history.specs.Rules.{throttles_due, is_due}
use Rattle.dr_history.specs.Legality.{IsLegalSoFar, broken}
use Rattle.dr_history_law.specs.Copies.{copies, pages_of}
use Rattle.dr_history_law.proofs.Kept.{keeps, syncs_facts}
use Rattle.dr_history_law.proofs.Switch.{number_some}
use Rattle.dr_history_law.proofs.Listing.{same_list}
use Rattle.dr_history_law.proofs.Copies.{next_copy, copy_facts}
use Rattle.dr_event_law.proofs.Rounds.{asks_few}
use Rattle.dr_schedule_law.specs.Bound.{most_rounds}
use Rattle.dr_schedule_law.specs.Counts.{flag, answers, throttles}
use Rattle.dr_schedule_law.proofs.Sums.{flag_few}

-- no more rounds are asked than those before the stop and one after it
pub rounds_few : (guest : Guest) (past : List Event) → IsLegalSoFar guest past
    → asks past ≤ most_rounds guest
rounds_few guest past legal =
    omega (
      arith,
      asks_few guest past legal,
      flag_few (stopped past && list_any is_asked (since is_stopped past)),
    )

answer_case : (asked : Bool) (s a : ℕ) → asked ≡ true → s + flag asked ≤ a → (s + 1) + 0 ≤ a
answer_case true s a is h = omega arith
answer_case false s a is h = absurd (false≢true is)

-- each answer is to a round of its own
pub answers_few : (guest : Guest) (past : List Event) → IsLegalSoFar guest past
    → answers past + flag (is_some (unanswered past)) ≤ asks past
answers_few guest [] legal = omega arith
answers_few guest (Synced r at pages ∷ past) legal =
    answer_case (is_some (unanswered past)) (answers past) (asks past)
    (number_some r (unanswered past) (syncs_facts guest past r at pages legal.0).asked)
    (answers_few guest past legal.1)
answers_few guest (Asked r ∷ past) legal = omega (arith, answers_few guest past legal.1)
answers_few guest (e ∷ past) legal = answers_few guest past legal.1

-- a throttle of the vCPU is still to come after the last answer
abbrev is_pending : ℕ → Option ℕ → Bool
is_pending v None = false
is_pending v (Some w) = nat_le w v

some_where : (b : Bool) (o : Option ℕ) (v : ℕ) → cond b o None ≡ Some v → o ≡ Some v
some_where true o v h = h
some_where false o v h = cc

below_some : (n v : ℕ) (o : Option ℕ) → if_below n o ≡ Some v → o ≡ Some v
below_some n v None h = h
below_some n v (Some w) h = some_where (nat_lt w n) (Some w) v h

due_here : (guest : Guest) (past : List Event) (w us : ℕ) (due : Option ℕ)
    → is_due guest past due (Throttled w us) ≡ true → due ≡ Some w
due_here guest past w us None h = absurd (false≢true h)
due_here guest past w us (Some v) h = ap (λ (u : ℕ). Some u) (sym (eqb-true w v (and_parts (w == v) _ h).0))

-- a throttle is of the vCPU whose turn it is
throttle_next : (guest : Guest) (past : List Event) (w us : ℕ) → broken guest past (Throttled w us) ≡ None
    → next_throttled past ≡ Some w
unfolding throttles_due
throttle_next guest past w us h =
    let due : throttle_due guest past ≡ Some w =
    due_here guest past w us (throttle_due guest past)
    (keeps guest past (Throttled w us) h).throttles_due_holds in
    below_some (vcpu_count guest) w (next_throttled past)
    (some_where (nat_le 1 guest.settings.quota && not (stopped past))
    (if_below (vcpu_count guest) (next_throttled past)) w due)

turn_case : (v w t s : ℕ) → t + flag (nat_le w v) ≤ s
    → cond (w == v) (t + 1) t + flag (nat_le (w + 1) v) ≤ s
turn_case v w t s h = grind (arith, nat_tests)

throttle_case : (v w t s : ℕ) (o : Option ℕ) → o ≡ Some w → t + flag (is_pending v o) ≤ s
    → cond (w == v) (t + 1) t + flag (is_pending v (one_after w o)) ≤ s
throttle_case v w t s o is h = rw (is, eq-eqb w w refl) (turn_case v w t s (rw is at h))

-- each vCPU is throttled once after an answer
pub throttles_few : (guest : Guest) (past : List Event) (v : ℕ) → IsLegalSoFar guest past
    → throttles v past + flag (is_pending v (next_throttled past)) ≤ answers past
throttles_few guest [] v legal = omega arith
throttles_few guest (Throttled w us ∷ past) v legal =
    throttle_case v w (throttles v past) (answers past) (next_throttled past)
    (throttle_next guest past w us legal.0) (throttles_few guest past v legal.1)
throttles_few guest (Synced r at pages ∷ past) v legal =
    omega (arith, throttles_few guest past v legal.1, flag_few (nat_le 0 v))
throttles_few guest (e ∷ past) v legal = omega (arith, throttles_few guest past v legal.1)

length_below : (n : ℕ) → length (below n) ≡ n
length_below zero = refl
length_below (suc n) = omega (arith, length-append (below n) (n ∷ []), length_below n)

dirty_few : (guest : Guest) (past : List Event) → length (dirty_pages guest past) ≤ page_count guest
dirty_few guest past =
    omega (
      arith,
      length-filter (λ page. dirty page past) (below (page_count guest)),
      count_by-le-length (λ page. dirty page past) (below (page_count guest)),
      length_below (page_count guest),
    )

-- an answer has no more pages than the guest
answered_few : (guest : Guest) (past : List Event) → IsLegalSoFar guest past
    → length (pages_of (last_synced past)) ≤ page_count guest
answered_few guest [] legal = omega arith
answered_few guest (Synced r at pages ∷ past) legal =
    let exact : pages ≡ dirty_pages guest past =
    same_list pages (dirty_pages guest past) (syncs_facts guest past r at pages legal.0).exact in
    omega (arith, ap (λ (xs : List ℕ). length xs) exact, dirty_few guest past)
answered_few guest (e ∷ past) legal = answered_few guest past legal.1

-- the number at a place of a list shows that the list goes so far
number_within : (page i : ℕ) (pages : List ℕ) → is_number page (slice_get pages i) ≡ true → i < length pages
number_within page i [] h = cc
number_within page zero (x ∷ xs) h = omega arith
number_within page (suc i) (x ∷ xs) h = omega (arith, number_within page i xs h)

-- a page of the last answer is copied that is not copied yet
copy_within : (guest : Guest) (past : List Event) (r page : ℕ) → IsLegalSoFar guest past
    → broken guest past (Copied r page) ≡ None → copies past < length (pages_of (last_synced past))
copy_within guest past r page legal h =
    number_within page (copies past) (pages_of (last_synced past))
    (sym (next_copy guest past page legal) ∙ copy_facts guest past r page h)

-- no more copies come after an answer than it has pages
copies_few : (guest : Guest) (past : List Event) → IsLegalSoFar guest past
    → copies past ≤ length (pages_of (last_synced past))
copies_few guest [] legal = omega arith
copies_few guest (Copied r page ∷ past) legal = omega (arith, copy_within guest past r page legal.1 legal.0)
copies_few guest (Synced r at pages ∷ past) legal = omega arith
copies_few guest (e ∷ past) legal = copies_few guest past legal.1

pages_some : (o : Option (Event × List Event)) → 0 < length (pages_of o) → is_some o ≡ true
pages_some None h = absurd (omega arith)
pages_some (Some synced) h = refl

synced_case : (some : Bool) (c k s pages : ℕ) → k ≤ pages → c + pages ≤ pages * s + cond some k pages
    → c + pages ≤ pages * (s + 1) + 0
synced_case true c k s pages le h = omega arith
synced_case false c k s pages le h = omega arith

copied_case : (some : Bool) (c k s pages : ℕ) → some ≡ true → c + pages ≤ pages * s + cond some k pages
    → (c + 1) + pages ≤ pages * s + cond some (k + 1) pages
copied_case true c k s pages is h = omega arith
copied_case false c k s pages is h = absurd (false≢true is)

-- all copies: those since the last answer, and for each answer before it as many as the guest has pages
copied_after : (guest : Guest) (past : List Event) → IsLegalSoFar guest past
    → count is_copied past + page_count guest
    ≤ page_count guest * answers past + cond (is_some (last_synced past)) (copies past) (page_count guest)
copied_after guest [] legal = omega arith
copied_after guest (Synced r at pages ∷ past) legal =
    synced_case (is_some (last_synced past)) (count is_copied past) (copies past) (answers past)
    (page_count guest)
    (omega (arith, copies_few guest past legal.1, answered_few guest past legal.1))
    (copied_after guest past legal.1)
copied_after guest (Copied r page ∷ past) legal =
    copied_case (is_some (last_synced past)) (count is_copied past) (copies past) (answers past)
    (page_count guest)
    (pages_some (last_synced past) (omega (arith, copy_within guest past r page legal.1 legal.0)))
    (copied_after guest past legal.1)
copied_after guest (e ∷ past) legal = copied_after guest past legal.1

copied_few_case : (some : Bool) (c k s pages : ℕ) → k ≤ pages → c + pages ≤ pages * s + cond some k pages
    → c ≤ pages * s
copied_few_case true c k s pages le h = omega arith
copied_few_case false c k s pages le h = omega arith

-- each page is copied once at most after each answer
pub copied_few : (guest : Guest) (past : List Event) → IsLegalSoFar guest past
    → count is_copied past ≤ page_count guest * answers past
copied_few guest past legal =
    copied_few_case (is_some (last_synced past)) (count is_copied past) (copies past) (answers past)
    (page_count guest)
    (omega (arith, copies_few guest past legal, answered_few guest past legal))
    (copied_after guest past legal)
