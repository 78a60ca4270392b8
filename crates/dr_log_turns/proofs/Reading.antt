-- Reads that go over all vCPUs.
use Rattle.std.proofs.Common.{◌≡◌, ℕ, ◌+◌, Bool, true, false, refl, ap, ◌∙◌, add-one, [], ◌∷◌}
use Rattle.std.specs.Prelude.{◌&&◌}
use Rattle.std.specs.List.{list_all}
use Rattle.std.proofs.lemmas.List.Folds.{list_all-append}
use Rattle.dr_history.specs.Lookback.{below}

and_one : (a b : Bool) → (a && (b && true)) ≡ (a && b)
and_one true true = refl
and_one true false = refl
and_one false b = refl

-- one more number passes
pub all_more : (passes : ℕ → Bool) (n : ℕ) → list_all passes (below (n + 1)) ≡ (list_all passes (below n) && passes n)
all_more passes n = ap (λ k. list_all passes (below k)) (add-one n) ∙ list_all-append passes (below n) (n ∷ []) ∙ and_one (list_all passes (below n)) (passes n)
