-- An advance makes the events more, or appends none.
use Rattle.std.proofs.Common.{◌≡◌, ℕ, zero, suc, ◌<◌, ◌≤◌, true, false, List, ◌∷◌, refl, arith, length}
use Rattle.std.specs.Prelude.{◌&&◌, not, nat_le}
use Rattle.std.proofs.lemmas.Bool.{both_ways}
use Rattle.dr_types.specs.declared.guest.Guest.{Guest}
use Rattle.dr_types.specs.Scripts.{vcpu_count}
use Rattle.dr_history.specs.declared.event.Event.{Event}
use Rattle.dr_history.specs.declared.event.Event.TheVariants.{Synced}
use Rattle.dr_history.specs.Dirty.{dirty_pages}
use Rattle.dr_history.specs.Rounds.{last_synced}
use Rattle.dr_history.specs.Vcpus.{stopped}
use Rattle.dr_turns.specs.declared.answers.Advance.{Advance}
use Rattle.dr_turns.specs.declared.answers.Advance.TheVariants as advance
use Rattle.dr_turns.specs.Due.{advanced, throttled_after, answered_after, copies_from, round_of}
use Rattle.dr_turns_law.proofs.Cases.{IsWait, advanced_cases}
use Rattle.dr_schedule_law.specs.Schedule.{appends}
use Rattle.dr_schedule_law.proofs.Reaping.{by_test}

wait_none : (a : Advance) → IsWait a → appends a ≡ false
wait_none (advance.NotPaced v done) is = refl
wait_none (advance.NotOut v) is = refl
wait_none (advance.NotReset v k) is = refl
wait_none advance.NotFlushed is = refl
wait_none advance.Finished is = refl
wait_none advance.Budget is = refl
wait_none a is = absurd is

throttled_longer : (guest : Guest) (n : ℕ) (past : List Event)
    → length past ≤ length (throttled_after guest n past)
throttled_longer guest zero past = omega arith
throttled_longer guest (suc n) past = let before = throttled_longer guest n past in omega (arith, before)

answered_longer : (guest : Guest) (r now : ℕ) (past : List Event)
    → length past < length (answered_after guest r now past)
answered_longer guest r now past =
    by_test (λ (xs : List Event). length past < length xs)
    (nat_le 1 guest.settings.quota && not (stopped past))
    (throttled_after guest (vcpu_count guest) (Synced r now (dirty_pages guest past) ∷ past))
    (Synced r now (dirty_pages guest past) ∷ past)
    (let longer = throttled_longer guest (vcpu_count guest)
    (Synced r now (dirty_pages guest past) ∷ past) in omega (arith, longer)) (omega arith)

run_longer : (r first n : ℕ) (past : List Event) → length past < length (copies_from r first (suc n) past)
run_longer r first zero past = omega arith
run_longer r first (suc n) past = let before = run_longer r first n past in omega (arith, before)

-- what an advance appends
record AdvanceAppends (past : List Event) (a : Advance) (new : List Event) : Type 0 where
  pub more : appends a ≡ true → length past < length new
  pub none : appends a ≡ false → new ≡ past

waits_here : (past : List Event) (a : Advance) → IsWait a → AdvanceAppends past a past
waits_here past a is =
    record { more = λ h. absurd (both_ways (appends a) (wait_none a is) h); none = λ h. refl }

advance_appends : (guest : Guest) (now : ℕ) (past : List Event)
    → AdvanceAppends past (advanced guest now past).0 (advanced guest now past).1
advance_appends guest now past =
    advanced_cases (λ (p : Advance × List Event). AdvanceAppends past p.0 p.1) guest now past (record {
      waits = λ a is. waits_here past a is;
      starts = λ due. record { more = λ h. omega arith; none = λ h. cc };
      answers = λ r due. record { more = λ h. answered_longer guest r now past; none = λ h. cc };
      copies = λ page due alone. record { more = λ h. omega arith; none = λ h. cc };
      blanks = λ page n due zeros. record {
        more = λ h. run_longer (round_of (last_synced past)) page n past;
        none = λ h. cc;
      };
      asks_last = λ on stop fresh. record { more = λ h. omega arith; none = λ h. cc };
      switches = λ on stop asked. record { more = λ h. omega arith; none = λ h. cc };
      stops = λ on runs few. record { more = λ h. omega arith; none = λ h. cc };
      asks_first = λ on runs none more. record { more = λ h. omega arith; none = λ h. cc };
      asks_later = λ on runs many more some paced. record { more = λ h. omega arith; none = λ h. cc };
    })

-- an advance whose answer appends makes the events more
pub advance_more : (guest : Guest) (now : ℕ) (past : List Event) → appends (advanced guest now past).0 ≡ true
    → length past < length (advanced guest now past).1
advance_more guest now past h = (advance_appends guest now past).more h

-- another one leaves them
pub advance_none : (guest : Guest) (now : ℕ) (past : List Event) → appends (advanced guest now past).0 ≡ false
    → (advanced guest now past).1 ≡ past
advance_none guest now past h = (advance_appends guest now past).none h
