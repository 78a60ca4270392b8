-- The least rule that an event breaks, group by group.
use Rattle.std.proofs.Common.{◌≡◌, ℕ, ◌+◌, Bool, true, false, List, [], ◌∷◌, ◌++◌, length, ap, ◌∙◌, refl, arith}
use Rattle.std.specs.Prelude.{Option, Some, None}
use Rattle.dr_types.specs.declared.guest.Guest.{Guest}
use Rattle.dr_history.specs.declared.event.Event.{Event}
use Rattle.dr_history.specs.Legality.{broken, first_failing}
use Rattle.dr_history.specs.Rules.{write_follows, names_exist}
use Rattle.dr_rules.specs.Judging.{execution_rules, ring_rules, round_rules}

-- a test that fails in the first group is the first that fails
found : (n r : ℕ) (xs ys : List Bool) → Some r ≡ first_failing n xs → Some r ≡ first_failing n (xs ++ ys)
found n r [] ys h = cc
found n r (true ∷ xs) ys h = found (n + 1) r xs ys h
found n r (false ∷ xs) ys h = h

-- where none fails there, it is one of the second group
passed : (n m : ℕ) (xs ys : List Bool) → n + length xs ≡ m → None ≡ first_failing n xs → first_failing m ys ≡ first_failing n (xs ++ ys)
passed n m [] ys e h = ap (λ k. first_failing k ys) (omega (arith, e))
passed n m (true ∷ xs) ys e h = passed (n + 1) m xs ys (omega (arith, e)) h
passed n m (false ∷ xs) ys e h = cc

named : (guest : Guest) (past : List Event) (e : Event) → write_follows guest past e ≡ true → names_exist guest past e ≡ true
    → first_failing 3 (execution_rules guest past e ++ (ring_rules guest past e ++ round_rules guest past e)) ≡ broken guest past e
named guest past e follows exist = rw (follows, exist) refl

pub breaks_execution : (guest : Guest) (past : List Event) (e : Event) (r : ℕ)
    → write_follows guest past e ≡ true → names_exist guest past e ≡ true
    → Some r ≡ first_failing 3 (execution_rules guest past e) → Some r ≡ broken guest past e
breaks_execution guest past e r follows exist h =
    found 3 r (execution_rules guest past e) (ring_rules guest past e ++ round_rules guest past e) h ∙ named guest past e follows exist

pub breaks_later : (guest : Guest) (past : List Event) (e : Event) (o : Option ℕ)
    → write_follows guest past e ≡ true → names_exist guest past e ≡ true
    → None ≡ first_failing 3 (execution_rules guest past e)
    → o ≡ first_failing 10 (ring_rules guest past e ++ round_rules guest past e) → o ≡ broken guest past e
breaks_later guest past e o follows exist none h =
    h ∙ passed 3 10 (execution_rules guest past e) (ring_rules guest past e ++ round_rules guest past e) refl none
    ∙ named guest past e follows exist

pub breaks_ring : (guest : Guest) (past : List Event) (e : Event) (r : ℕ)
    → Some r ≡ first_failing 10 (ring_rules guest past e)
    → Some r ≡ first_failing 10 (ring_rules guest past e ++ round_rules guest past e)
breaks_ring guest past e r h = found 10 r (ring_rules guest past e) (round_rules guest past e) h

pub breaks_round : (guest : Guest) (past : List Event) (e : Event) (o : Option ℕ)
    → None ≡ first_failing 10 (ring_rules guest past e) → o ≡ first_failing 18 (round_rules guest past e)
    → o ≡ first_failing 10 (ring_rules guest past e ++ round_rules guest past e)
breaks_round guest past e o none h = h ∙ passed 10 18 (ring_rules guest past e) (round_rules guest past e) refl none
