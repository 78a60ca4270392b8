-- What holds of each element holds of each in the other order.
use Rattle.std.proofs.Common.{List, [], ◌∷◌, reverse, subst, sym, arith}
use Rattle.std.specs.List.{All}
use Rattle.std.proofs.lemmas.List.{reverse-append}
use Rattle.std.proofs.lemmas.List.Elements.{All-nil, All-cons, All-append, All-drop}

pub all_reversed : {X : Type 0} (P : X → Type 0) (xs : List X) → All P xs → All P (reverse xs)
all_reversed P [] all = All-nil P
all_reversed P (x ∷ xs) all =
    subst (All P) (sym (reverse-append (x ∷ []) xs))
    (All-append P (reverse xs) (x ∷ []) (all_reversed P xs (All-drop P 1 (x ∷ xs) all)) (All-cons P x [] (all 0 x (omega arith)) (All-nil P)))
