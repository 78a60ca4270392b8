-- Each part of a history stands where it may.
use Rattle.std.proofs.Common.{◌≡◌, ℕ, zero, suc, ◌+◌, ◌<◌, ◌≤◌, Bool, true, false, cond, List, [], ◌∷◌, Option, Some, None, is_some, refl, ap, sym, ◌∙◌, arith, subst, add-one}
use Rattle.std.specs.Prelude.{◌&&◌, nat_lt, nat_le}
use Rattle.std.specs.List.{list_any, slice_get}
use Rattle.std.proofs.lemmas.Bool.{and_parts, eqb-true, ltb-true, lt-ltb, le-leb, false≢true}
use Rattle.dr_types.specs.declared.guest.Guest.{Guest}
use Rattle.dr_types.specs.Pages.{page_count}
use Rattle.dr_history.specs.declared.event.Event.{Event}
use Rattle.dr_history.specs.declared.event.Event.TheVariants.{Asked, Synced, Copied}
use Rattle.dr_history.specs.Lookback.{since, is_number}
use Rattle.dr_history.specs.Kinds.{is_asked, is_synced, is_stopped}
use Rattle.dr_history.specs.Vcpus.{stopped}
use Rattle.dr_history.specs.Rounds.{asks, unanswered, last_synced, is_next_copy, opens_round}
use Rattle.dr_history.specs.Rules.{names_exist}
use Rattle.dr_history.specs.Legality.{IsLegalSoFar, broken}
use Rattle.dr_history.proofs.Pages.{whole_page}
use Rattle.dr_history_law.specs.Copies.{copies, pages_of, IsRising, AllAbove}
use Rattle.dr_history_law.proofs.Kept.{keeps, syncs_facts}
use Rattle.dr_history_law.proofs.Answer.{asked_number}
use Rattle.dr_history_law.proofs.Copies.{answer_rises, copy_facts, next_copy}
use Rattle.dr_history_law.proofs.Switch.{number_some}
use Rattle.dr_event_law.proofs.Rounds.{asks_few}
use Rattle.dr_history.specs.Memory.{page_bytes, zero_page}
use Rattle.dr_history.specs.Parts.{Part, Round, Page, Zeros}
use Rattle.dr_history.specs.Stream.{follows_zero, lengthened, written_version}
use Rattle.dr_stream_law.specs.Grammar.{last_round, page_rises, AreParts}
use Rattle.dr_stream_law.proofs.Sent.{records_of, copy_next}
use Rattle.dr_stream_law.proofs.Zeros.{ends_in_zeros, zero_ends}

owed : (some : Bool) (last n : ℕ) → some ≡ true → last + cond some 1 0 ≤ n → last < n
owed true last n s h = omega arith
owed false last n s h = absurd (false≢true s)

round_answered : (opens : Bool) (r n : ℕ) (parts : List Part) → r ≡ n → last_round parts < n → last_round (cond opens (Round r ∷ parts) parts) + 0 ≤ n
round_answered true r n parts e l = omega arith
round_answered false r n parts e l = omega arith

same_round : (parts : List Part) → last_round (lengthened parts) ≡ last_round parts
same_round [] = refl
same_round (Zeros first n ∷ parts) = refl
same_round (part ∷ parts) = refl

-- a copy begins no round
copy_round : (zero goes : Bool) (page : ℕ) (bytes : List ℕ) (parts : List Part) → last_round (cond zero (cond goes (lengthened parts) (Zeros page 1 ∷ parts)) (Page page bytes ∷ parts)) ≡ last_round parts
copy_round true true page bytes parts = same_round parts
copy_round true false page bytes parts = refl
copy_round false goes page bytes parts = refl

-- the last round is one of those asked, and while the last of them has no answer it is an earlier one
rounds_rise : (guest : Guest) (past : List Event) → IsLegalSoFar guest past → last_round (records_of guest past) + cond (is_some (unanswered past)) 1 0 ≤ asks past
rounds_rise guest [] legal = omega arith
rounds_rise guest (Asked r ∷ past) legal =
    let old : last_round (records_of guest past) + cond (is_some (unanswered past)) 1 0 ≤ asks past = rounds_rise guest past legal.1 in
    omega arith
rounds_rise guest (Synced r at pages ∷ past) legal =
    let asked = (syncs_facts guest past r at pages legal.0).asked in
    round_answered (opens_round guest (Synced r at pages) past) r (asks past) (records_of guest past) (asked_number guest past r legal.1 asked)
    (owed (is_some (unanswered past)) (last_round (records_of guest past)) (asks past) (number_some r (unanswered past) asked) (rounds_rise guest past legal.1))
rounds_rise guest (Copied r page ∷ past) legal =
    subst (λ (n : ℕ). n + cond (is_some (unanswered past)) 1 0 ≤ asks past)
    (sym (copy_round (zero_page guest page past) (follows_zero guest r page past) page (page_bytes guest page past) (records_of guest past))) (rounds_rise guest past legal.1)
rounds_rise guest (e ∷ past) legal = rounds_rise guest past legal.1

-- the last answer opened a round
abbrev has_opened : Guest → Option (Event × List Event) → Bool
has_opened guest None = false
has_opened guest (Some synced) = opens_round guest synced.0 synced.1

next_opened : (guest : Guest) (r page : ℕ) (synced : Option (Event × List Event)) (later : List Event) → is_next_copy guest r page synced later ≡ true → has_opened guest synced ≡ true
next_opened guest r page None later h = h
next_opened guest r page (Some synced) later h = (and_parts _ _ (and_parts _ _ h).0).1

round_opened : (opens : Bool) (r page : ℕ) (parts : List Part) → opens ≡ true → page_rises page (cond opens (Round r ∷ parts) parts) ≡ true
round_opened true r page parts h = refl
round_opened false r page parts h = absurd (false≢true h)

above_at : (x p i : ℕ) (xs : List ℕ) → AllAbove x xs → is_number p (slice_get xs i) ≡ true → x < p
above_at x p i [] above h = absurd (false≢true h)
above_at x p zero (y ∷ ys) above h = subst (λ (n : ℕ). x < n) (eqb-true y p h) above.0
above_at x p (suc i) (y ∷ ys) above h = above_at x p i ys above.1 h

-- in a rising list the next number is greater
next_above : (q p i : ℕ) (xs : List ℕ) → IsRising xs → is_number q (slice_get xs i) ≡ true → is_number p (slice_get xs (suc i)) ≡ true → q < p
next_above q p i [] rises a b = absurd (false≢true a)
next_above q p zero (x ∷ xs) rises a b = subst (λ (n : ℕ). n < p) (eqb-true x q a) (above_at x p zero xs rises.0 b)
next_above q p (suc i) (x ∷ xs) rises a b = next_above q p i xs rises.1 a b

-- a page above the one that was copied last rises above its record
copied_rises : (zero : Bool) (guest : Guest) (r q page : ℕ) (past : List Event) → zero_page guest q past ≡ zero → q < page → page_rises page (records_of guest (Copied r q ∷ past)) ≡ true
copied_rises false guest r q page past is lt = rw is (lt-ltb q page lt)
copied_rises true guest r q page past is lt =
    let ends = zero_ends guest r q past is in
    let upto : ends.first + ends.count ≡ q + 1 = ends.up_to in
    ap (page_rises page) ends.is ∙ le-leb (ends.first + ends.count) page (omega (arith, upto, lt))

-- the page to be copied next rises in its round
copy_rises : (guest : Guest) (past : List Event) (page : ℕ) → IsLegalSoFar guest past → has_opened guest (last_synced past) ≡ true → is_number page (slice_get (pages_of (last_synced past)) (copies past)) ≡ true → page_rises page (records_of guest past) ≡ true
copy_rises guest [] page legal opened next = absurd (false≢true opened)
copy_rises guest (Synced r at pages ∷ past) page legal opened next =
    round_opened (opens_round guest (Synced r at pages) past) r page (records_of guest past) opened
copy_rises guest (Copied r q ∷ past) page legal opened next =
    copied_rises (zero_page guest q past) guest r q page past refl (next_above q page (copies past) (pages_of (last_synced past)) (answer_rises guest past legal.1)
    (sym (next_copy guest past q legal.1) ∙ copy_facts guest past r q legal.0)
    (subst (λ (n : ℕ). is_number page (slice_get (pages_of (last_synced past)) n) ≡ true) (add-one (copies past)) next))
copy_rises guest (e ∷ past) page legal opened next = copy_rises guest past page legal.1 opened next

copied_page : (guest : Guest) (past : List Event) (r page : ℕ) → broken guest past (Copied r page) ≡ None → nat_lt page (page_count guest) ≡ true
unfolding names_exist
copied_page guest past r page h = (keeps guest past (Copied r page) h).names_exist_holds

both_hold : (a b : Bool) → a ≡ true → b ≡ true → (a && b) ≡ true
both_hold a b is so = rw (is, so) refl

round_placed : (opens : Bool) (version pages r : ℕ) (parts : List Part) → last_round parts < r → r ≤ 65 → AreParts version pages parts → AreParts version pages (cond opens (Round r ∷ parts) parts)
round_placed true version pages r parts l m are = (both_hold _ _ (lt-ltb (last_round parts) r l) (le-leb r 65 m), are)
round_placed false version pages r parts l m are = are

-- a record of zeros that stands where it may has a page more where there is one
copy_placed : (zero goes : Bool) (guest : Guest) (r page pages : ℕ) (past : List Event) → zero_page guest page past ≡ zero → follows_zero guest r page past ≡ goes → nat_lt page pages ≡ true → page_rises page (records_of guest past) ≡ true → AreParts written_version pages (records_of guest past) → AreParts written_version pages (records_of guest (Copied r page ∷ past))
copy_placed false goes guest r page pages past none is within rises are =
    rw none ((both_hold _ _ within rises, whole_page guest page past), are)
copy_placed true false guest r page pages past here is within rises are =
    let lt : page < pages = ltb-true page pages within in
    rw (here, is) ((refl, both_hold _ _ within rises, le-leb (page + 1) pages (omega (arith, lt))), are)
copy_placed true true guest r page pages past here is within rises are =
    let ends = ends_in_zeros guest r page past is in
    let upto : ends.first + ends.count ≡ page = ends.up_to in
    let lt : page < pages = ltb-true page pages within in
    let old : AreParts written_version pages (Zeros ends.first ends.count ∷ ends.rest) = subst (AreParts written_version pages) ends.is are in
    let some : nat_le 1 (ends.count + 1) ≡ true = le-leb 1 (ends.count + 1) (omega arith) in
    let fits : nat_le (ends.first + (ends.count + 1)) pages ≡ true = le-leb (ends.first + (ends.count + 1)) pages (omega (arith, upto, lt)) in
    let new : AreParts written_version pages (Zeros ends.first (ends.count + 1) ∷ ends.rest) = ((refl, old.0.1, both_hold _ _ some fits), old.1) in
    rw (here, is) (subst (AreParts written_version pages) (sym (ap lengthened ends.is)) new)

few_rounds : (some : Bool) (n rounds : ℕ) → n ≤ rounds + cond some 1 0 → rounds ≤ 64 → n ≤ 65
few_rounds true n rounds h l = omega arith
few_rounds false n rounds h l = omega arith

pub placed : (guest : Guest) (past : List Event) → guest.settings.rounds ≤ 64 → IsLegalSoFar guest past → AreParts written_version (page_count guest) (records_of guest past)
placed guest [] few legal = tt
placed guest (Synced r at pages ∷ past) few legal =
    let asked = (syncs_facts guest past r at pages legal.0).asked in
    let number : r ≡ asks past = asked_number guest past r legal.1 asked in
    let above : last_round (records_of guest past) < asks past = owed (is_some (unanswered past)) (last_round (records_of guest past)) (asks past) (number_some r (unanswered past) asked) (rounds_rise guest past legal.1) in
    let most : asks past ≤ 65 = few_rounds (stopped past && list_any is_asked (since is_stopped past)) (asks past) guest.settings.rounds (asks_few guest past legal.1) few in
    round_placed (opens_round guest (Synced r at pages) past) written_version (page_count guest) r (records_of guest past) (omega (arith, number, above)) (omega (arith, number, most)) (placed guest past few legal.1)
placed guest (Copied r page ∷ past) few legal =
    let next : is_number page (slice_get (pages_of (last_synced past)) (copies past)) ≡ true = sym (next_copy guest past page legal.1) ∙ copy_facts guest past r page legal.0 in
    let rises : page_rises page (records_of guest past) ≡ true =
    copy_rises guest past page legal.1 (next_opened guest r page (last_synced past) (since is_synced past) (copy_next guest past r page legal.0)) next in
    copy_placed (zero_page guest page past) (follows_zero guest r page past) guest r page (page_count guest) past refl refl (copied_page guest past r page legal.0) rises (placed guest past few legal.1)
placed guest (e ∷ past) few legal = placed guest past few legal.1
