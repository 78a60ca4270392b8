-- Bytes that are kept beside what is left.
use Rattle.std.proofs.Common.{◌≡◌, ℕ, List, ◌++◌, take, drop, Option, Some, None, ap, ◌∙◌, append_assoc}
use Rattle.std.specs.Prelude.{IfSome}
use Rattle.std.proofs.lemmas.List.{take-append-drop}
use Rattle.dr_input.specs.Kept.{IsLonger, text_of}

-- bytes that stood first in what was left are kept, and the rest is left
pub moved : (n : ℕ) (kept now remaining left_now : Option (List ℕ)) (told more bytes : List ℕ) → now ≡ Some bytes → remaining ≡ Some told → more ≡ take n told → left_now ≡ Some (drop n told)
    → IfSome now (IsLonger kept more) → text_of now left_now ≡ text_of kept remaining
moved n kept None remaining left_now told more bytes is all first rest longer = cc
moved n kept (Some now) remaining left_now told more bytes is all first rest longer =
    rw (all, rest, longer.1)
    (ap (λ xs. Some (xs ++ drop n told)) (longer.2 ∙ ap (λ ys. longer.0 ++ ys) first)
    ∙ ap (λ xs. Some xs) (append_assoc longer.0 (take n told) (drop n told) ∙ ap (λ ys. longer.0 ++ ys) (take-append-drop n told)))
