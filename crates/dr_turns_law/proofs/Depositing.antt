-- A deposit.
use Rattle.std.proofs.Common.{◌≡◌, ℕ, zero, suc, ◌+◌, ◌<◌, ◌≤◌, Bool, true, false, List, ◌∷◌, refl, ap, sym, ◌∙◌, arith}
use Rattle.std.specs.Prelude.{◌&&◌, nat_le, Some, None}
use Rattle.std.specs.List.{list_any}
use Rattle.std.proofs.lemmas.Bool.{le-leb, lt-leb}
use Rattle.dr_types.specs.declared.guest.Guest.{Guest}
use Rattle.dr_types.specs.Scripts.{vcpu_count}
use Rattle.dr_history.specs.declared.event.Event.{Event}
use Rattle.dr_history.specs.declared.event.Event.TheVariants.{Deposited}
use Rattle.dr_history.specs.Kinds.{is_switched}
use Rattle.dr_history.specs.Lookback.{below}
use Rattle.dr_history.specs.Entries.{pushes}
use Rattle.dr_history.specs.Rules.{deposits_entry}
use Rattle.dr_history_law.proofs.Entered.{some_deposited}
use Rattle.dr_history_law.proofs.Listing.{none_below}
use Rattle.dr_history.specs.Legality.{IsLegalSoFar}
use Rattle.dr_turns.specs.Between.{AtTurnsEnd}
use Rattle.dr_turns.specs.Firsts.{first_below}
use Rattle.dr_turns_law.proofs.Found.{first_none}
use Rattle.dr_event_law.specs.May.{MayFollow}
use Rattle.dr_event_law.proofs.Rest.{settles}
use Rattle.dr_turns_law.proofs.Done.{first_here, none_any}
use Rattle.dr_turns_law.proofs.Firsts.{still_none, first_found}
use Rattle.dr_event_law.proofs.Legally.{deposits_legally}
use Rattle.dr_turns_law.specs.Deposits.{first_twice}

and_false : (a : Bool) → (a && false) ≡ false
and_false true = refl
and_false false = refl

none_first : (f : ℕ → Bool) (n : ℕ) → ((k : ℕ) → k < n → f k ≡ false) → None ≡ first_below f n
none_first f zero h = refl
none_first f (suc n) h = rw (sym (none_first f n (λ k lt. h k (omega arith))), h n (omega arith)) refl

pub twice_none : (v from : ℕ) (past : List Event) → None ≡ first_twice v from past from
unfolding first_twice
twice_none v from past = none_first (λ k. nat_le from k && list_any (deposits_entry v k) past) from (λ k lt. ap (λ b. b && list_any (deposits_entry v k) past) (lt-leb from k lt))

-- one more number that was not deposited before
pub twice_more : (v from : ℕ) (past : List Event) (k : ℕ) → first_twice v from past k ≡ None → list_any (deposits_entry v k) past ≡ false → None ≡ first_twice v from past (k + 1)
unfolding first_twice
twice_more v from past k none fresh = sym (still_none (λ j. nat_le from j && list_any (deposits_entry v j) past) k none (ap (λ b. nat_le from k && b) fresh ∙ and_false (nat_le from k)))

-- the first that was
pub twice_here : (v from : ℕ) (past : List Event) (k to : ℕ) → first_twice v from past k ≡ None → list_any (deposits_entry v k) past ≡ true → from ≤ k → k < to → Some k ≡ first_twice v from past to
unfolding first_twice
twice_here v from past k to none found le lt = sym (first_found (λ j. nat_le from j && list_any (deposits_entry v j) past) k to none (rw (le-leb from k le, found) refl) lt)

fresh_any : (v from to : ℕ) (past : List Event) → first_twice v from past to ≡ None → list_any (λ k. nat_le from k && list_any (deposits_entry v k) past) (below to) ≡ false
unfolding first_twice
fresh_any v from to past h = none_any (λ k. nat_le from k && list_any (deposits_entry v k) past) to (first_none (λ k. nat_le from k && list_any (deposits_entry v k) past) to h)

fresh_here : (guest : Guest) (past : List Event) (v from to : ℕ) → IsLegalSoFar guest past → from < to → to ≤ pushes v past → first_twice v from past to ≡ None → list_any is_switched past ≡ false
fresh_here guest past v from to legal some pushed fresh =
    let fails : (nat_le from from && list_any (deposits_entry v from) past) ≡ false = none_below (λ k. nat_le from k && list_any (deposits_entry v k) past) to from (fresh_any v from to past fresh) some in
    first_here guest past v from legal (omega (arith, some, pushed)) (ap (λ b. b && list_any (deposits_entry v from) past) (sym (le-leb from from (omega arith))) ∙ fails)

pub deposit_follows : (guest : Guest) (past : List Event) (v from to : ℕ) → v < vcpu_count guest → IsLegalSoFar guest past → AtTurnsEnd guest past → from < to → to ≤ pushes v past → first_twice v from past to ≡ None → MayFollow guest past (Deposited v from to)
deposit_follows guest past v from to hv legal end some pushed fresh =
    deposits_legally guest past v from to (record { rests = end.rests; here = fresh_here guest past v from to legal some pushed fresh })
    (record { vcpu = hv; some = some; pushed = pushed; first = some_deposited guest past v from to some legal ∙ fresh_any v from to past fresh })

pub deposit_ends : (guest : Guest) (past : List Event) (v from to : ℕ) → IsLegalSoFar guest past → AtTurnsEnd guest past → from < to → to ≤ pushes v past → first_twice v from past to ≡ None → AtTurnsEnd guest (Deposited v from to ∷ past)
deposit_ends guest past v from to legal end some pushed fresh = record { rests = (settles guest past (Deposited v from to) tt (fresh_here guest past v from to legal some pushed fresh)).rests; buffers = end.buffers }
