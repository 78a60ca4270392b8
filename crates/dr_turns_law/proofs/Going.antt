-- A round is asked, the guest is stopped, and it switches over.
use Rattle.std.proofs.Common.{◌≡◌, ℕ, zero, suc, ◌+◌, ◌<◌, ◌≤◌, Bool, true, false, cond, List, [], ◌∷◌, Option, Some, None, is_some, refl, ap, sym, ◌∙◌, arith, inl, inr, length, slice_get}
use Rattle.std.specs.Prelude.{◌&&◌, ◌||◌, ◌==◌, not, nat_le, nat_lt}
use Rattle.std.specs.List.{list_any, list_all}
use Rattle.std.proofs.lemmas.Bool.{le-leb, lt-ltb, leb-false, eq-eqb, cases_lt, false≢true, true≢false}
use Rattle.dr_types.specs.declared.guest.Guest.{Guest}
use Rattle.dr_types.specs.Scripts.{vcpu_count}
use Rattle.dr_types.specs.Validity.{IsValid}
use Rattle.dr_history.specs.declared.event.Event.{Event}
use Rattle.dr_history.specs.declared.event.Event.TheVariants.{Asked, Stopped, Switched}
use Rattle.dr_history.specs.Lookback.{count, since}
use Rattle.dr_history.specs.Kinds.{is_op_of, is_asked, is_stopped, is_switched, is_synced}
use Rattle.dr_history.specs.Legality.{IsLegalSoFar}
use Rattle.dr_history.specs.Protection.{started}
use Rattle.dr_history.specs.Rounds.{asks, unanswered, last_synced, answered_pages, opens_round, few_answered, round_copied, copied_in}
use Rattle.dr_history.specs.Vcpus.{stopped, all_paced}
use Rattle.dr_history_law.specs.Copies.{copies, pages_of}
use Rattle.dr_history_law.proofs.Copies.{all_copied}
use Rattle.dr_event_law.specs.May.{MayFollow}
use Rattle.dr_event_law.proofs.Legally.{asks_legally, stops_legally, switches_legally}
use Rattle.dr_event_law.proofs.Rest.{settles, unowed}
use Rattle.dr_event_law.proofs.Rounds.{stopped_started, opened_stop, open_stop, answered_since, asked_synced, asks_few}
use Rattle.dr_turns.specs.Between.{AtTurnsEnd}
use Rattle.dr_turns.specs.Due.{page_to_copy, page_to_copy_of}
use Rattle.dr_turns.specs.Firsts.{first_unpaced}
use Rattle.dr_turns_law.proofs.Starting.{few_ops, none_unpaced}

-- where an open round has no page left, all of it is copied

abbrev is_open : Guest → Option (Event × List Event) → Bool
is_open guest None = false
is_open guest (Some synced) = opens_round guest synced.0 synced.1

past_end : (xs : List ℕ) (n : ℕ) → slice_get xs n ≡ None → length xs ≤ n
past_end [] n h = omega arith
past_end (x ∷ xs) zero h = cc
past_end (x ∷ xs) (suc n) h = let le : length xs ≤ n = past_end xs n h in omega arith

open_left : (opens : Bool) (place : Option ℕ) → opens ≡ true → cond opens place None ≡ None → place ≡ None
open_left true place o h = h
open_left false place o h = absurd (false≢true o)

left_none : (guest : Guest) (past : List Event) (o : Option (Event × List Event)) → is_open guest o ≡ true → list_all (copied_in (since is_synced past)) (pages_of o) ≡ nat_le (length (pages_of o)) (copies past) → page_to_copy_of guest past o ≡ None → round_copied guest o (since is_synced past) ≡ true
left_none guest past None opening all page_to_copy = absurd (false≢true opening)
left_none guest past (Some s) opening all page_to_copy =
    let none : slice_get (answered_pages s.0) (copies past) ≡ None = open_left (opens_round guest s.0 s.1) (slice_get (answered_pages s.0) (copies past)) opening page_to_copy in
    let le : length (answered_pages s.0) ≤ copies past = past_end (answered_pages s.0) (copies past) none in
    rw (opening, all) (le-leb (length (answered_pages s.0)) (copies past) le)

or_right : (a b : Bool) → b ≡ true → (a || b) ≡ true
or_right true b h = refl
or_right false b h = h

stop_opens : (guest : Guest) (o : Option (Event × List Event)) → opened_stop o ≡ true → is_open guest o ≡ true
stop_opens guest None h = absurd (false≢true h)
stop_opens guest (Some s) h = or_right (nat_lt guest.settings.threshold (length (answered_pages s.0))) (stopped s.1) h

many_opens : (guest : Guest) (o : Option (Event × List Event)) → is_some o ≡ true → few_answered guest o ≡ false → is_open guest o ≡ true
many_opens guest None s h = absurd (false≢true s)
many_opens guest (Some p) s h = rw (lt-ltb guest.settings.threshold (length (answered_pages p.0)) (leb-false (length (answered_pages p.0)) guest.settings.threshold h)) refl

none_answered : (past : List Event) → unanswered past ≡ None → is_some (unanswered past) ≡ false
none_answered past answered = ap (λ (o : Option ℕ). is_some o) answered

-- the stop

-- the guest is stopped by the rules where the last answer has few pages
pub stop_follows : (guest : Guest) (past : List Event) → IsLegalSoFar guest past → AtTurnsEnd guest past → unanswered past ≡ None → list_any is_switched past ≡ false → stopped past ≡ false → few_answered guest (last_synced past) ≡ true → MayFollow guest past Stopped
stop_follows guest past legal end answered here runs few =
    stops_legally guest past (record { rests = end.rests; here = here }) (record { runs = runs; answered = answered; few = few })

-- after the stop nothing is owed, and no buffer is full
pub stop_ends : (guest : Guest) (past : List Event) → IsLegalSoFar guest past → AtTurnsEnd guest past → unanswered past ≡ None → list_any is_switched past ≡ false → stopped past ≡ false → few_answered guest (last_synced past) ≡ true → AtTurnsEnd guest (Stopped ∷ past)
stop_ends guest past legal end answered here runs few = record { rests = (settles guest past Stopped tt here).rests; buffers = end.buffers }

-- the switch-over

-- the guest switches over by the rules where the round that was asked after the stop is answered and copied
pub switch_follows : (guest : Guest) (past : List Event) → IsLegalSoFar guest past → AtTurnsEnd guest past → unanswered past ≡ None → page_to_copy guest past ≡ None → list_any is_switched past ≡ false → stopped past ≡ true → list_any is_asked (since is_stopped past) ≡ true → MayFollow guest past Switched
switch_follows guest past legal end answered copied here stop asked =
    let synced : list_any is_synced (since is_stopped past) ≡ true = answered_since past stop asked (none_answered past answered) in
    switches_legally guest past (record { rests = end.rests; here = here })
    (record {
      stopped = stop;
      synced = synced;
      answered = answered;
      copied = left_none guest past (last_synced past) (stop_opens guest (last_synced past) (open_stop past stop synced)) (all_copied guest past legal) copied;
    })

-- after the switch-over nothing is owed, and no buffer is full
pub switch_ends : (guest : Guest) (past : List Event) → IsLegalSoFar guest past → AtTurnsEnd guest past → unanswered past ≡ None → page_to_copy guest past ≡ None → list_any is_switched past ≡ false → stopped past ≡ true → list_any is_asked (since is_stopped past) ≡ true → AtTurnsEnd guest (Switched ∷ past)
switch_ends guest past legal end answered copied here stop asked = record { rests = unowed (nat_le 1 guest.settings.quota && not (stopped past)) None refl; buffers = end.buffers }

-- a round is asked

-- after the stop a round is asked by the rules where none was asked since
pub ask_last_follows : (guest : Guest) (past : List Event) → IsLegalSoFar guest past → AtTurnsEnd guest past → unanswered past ≡ None → list_any is_switched past ≡ false → stopped past ≡ true → list_any is_asked (since is_stopped past) ≡ false → MayFollow guest past (Asked (asks past + 1))
ask_last_follows guest past legal end answered here stop fresh =
    asks_legally guest past (record { rests = end.rests; here = here })
    (record { started = stopped_started guest past legal stop; answered = answered; turn = rw (stop, fresh) refl })

-- the first round is asked by the rules
pub ask_first_follows : (guest : Guest) (past : List Event) → IsLegalSoFar guest past → AtTurnsEnd guest past → started past ≡ true → unanswered past ≡ None → list_any is_switched past ≡ false → stopped past ≡ false → asks past ≡ 0 → asks past < guest.settings.rounds → MayFollow guest past (Asked (asks past + 1))
ask_first_follows guest past legal end begun answered here runs none more =
    asks_legally guest past (record { rests = end.rests; here = here })
    (record { started = begun; answered = answered; turn = rw (runs, le-leb (asks past + 1) guest.settings.rounds (omega (arith, more)), none) refl })

two_case : (two copied paced : Bool) → copied ≡ true → paced ≡ true → (two || (copied && paced)) ≡ true
two_case true copied paced h k = refl
two_case false copied paced h k = rw (h, k) refl

some_asked : (n : ℕ) → (n == 0) ≡ false → 0 < n
some_asked n h =
    elim (cases_lt 0 n) [
      | inl lt ↦ lt
      | inr le ↦ absurd (let is : n ≡ 0 = omega (arith, le) in true≢false (sym (eq-eqb n 0 is) ∙ h))
    ]

-- a later round is asked by the rules where the one before is copied and each vCPU is paced
pub ask_later_follows : (guest : Guest) (past : List Event) → IsLegalSoFar guest past → AtTurnsEnd guest past → started past ≡ true → unanswered past ≡ None → page_to_copy guest past ≡ None → list_any is_switched past ≡ false → stopped past ≡ false → few_answered guest (last_synced past) ≡ false → asks past < guest.settings.rounds → (asks past == 0) ≡ false → first_unpaced guest (since is_asked past) past ≡ None → MayFollow guest past (Asked (asks past + 1))
ask_later_follows guest past legal end begun answered copied here runs many more some paced =
    let synced : is_some (last_synced past) ≡ true = asked_synced past (some_asked (asks past) some) (none_answered past answered) in
    let round : round_copied guest (last_synced past) (since is_synced past) ≡ true = left_none guest past (last_synced past) (many_opens guest (last_synced past) synced many) (all_copied guest past legal) copied in
    asks_legally guest past (record { rests = end.rests; here = here })
    (record {
      started = begun;
      answered = answered;
      turn = rw (runs, le-leb (asks past + 1) guest.settings.rounds (omega (arith, more)))
          (two_case (nat_lt (asks past + 1) 2) (round_copied guest (last_synced past) (since is_synced past)) (all_paced guest (since is_asked past) past) round (none_unpaced guest (since is_asked past) past paced));
    })

-- after an Asked nothing is owed, and no buffer is full
pub ask_ends : (guest : Guest) (past : List Event) → AtTurnsEnd guest past → list_any is_switched past ≡ false → AtTurnsEnd guest (Asked (asks past + 1) ∷ past)
ask_ends guest past end here = record { rests = (settles guest past (Asked (asks past + 1)) tt here).rests; buffers = end.buffers }

few_case : (more : Bool) (n rounds : ℕ) → n ≤ rounds + cond more 1 0 → rounds ≤ 64 → n ≤ 65
few_case true n rounds h k = omega arith
few_case false n rounds h k = omega arith

-- no more rounds are asked than a valid guest may have, and one after the stop
pub asks_fit : (guest : Guest) (past : List Event) → IsValid guest → IsLegalSoFar guest past → asks past ≤ 65
asks_fit guest past valid legal =
    few_case (stopped past && list_any is_asked (since is_stopped past)) (asks past) guest.settings.rounds (asks_few guest past legal) valid.settings.rounds

add_few : (same : Bool) (a b : ℕ) → a ≤ b → cond same (a + 1) a ≤ cond same (b + 1) b
add_few true a b h = omega arith
add_few false a b h = h

cut_few : (cut : Bool) (f : Event → Bool) (e : Event) (xs ys : List Event) → count f xs ≤ count f ys → count f (cond cut [] (e ∷ xs)) ≤ cond (f e) (count f ys + 1) (count f ys)
cut_few true f e xs ys h = omega arith
cut_few false f e xs ys h = add_few (f e) (count f xs) (count f ys) h

-- since the last Asked no more pass than in all
recent_few : (f : Event → Bool) (past : List Event) → count f (since is_asked past) ≤ count f past
recent_few f [] = omega arith
recent_few f (e ∷ past) = cut_few (is_asked e) f e (since is_asked past) past (recent_few f past)

-- since the last Asked a vCPU executes no more than the operations that a valid guest may have
pub recent_fit : (guest : Guest) (past : List Event) (v : ℕ) → IsValid guest → IsLegalSoFar guest past → v < vcpu_count guest → count (is_op_of v) (since is_asked past) ≤ 200000
recent_fit guest past v valid legal lt = omega (arith, recent_few (is_op_of v) past, few_ops guest v past valid legal lt)
