-- Parts joined in a loop.
use Rattle.std.proofs.Common.{◌≡◌, ℕ, ◌+◌, ◌<◌, List, [], ◌∷◌, ◌++◌, length, take, get_or, sym, ap, ◌∙◌}
use Rattle.std.specs.List.{flat_map}
use Rattle.std.proofs.lemmas.List.{append-nil, take_more}
use Rattle.std.proofs.lemmas.List.Concat.{flat_map-cons}
use Rattle.std.proofs.lemmas.Grind.{flat_map-append}

-- the text with one part more
pub more_part : {X : Type 0} (bytes : X → List ℕ) (parts : List X) (i : ℕ) (part : X) (text next : List ℕ) → i < length parts
    → part ≡ get_or parts i part → text ≡ flat_map bytes (take i parts) → next ≡ text ++ bytes part → next ≡ flat_map bytes (take (i + 1) parts)
more_part bytes parts i part text next lt is so_far grows =
    let whole = ap (flat_map bytes) (take_more parts i part lt) ∙ flat_map-append bytes (take i parts) (get_or parts i part ∷ []) in
    let last = flat_map-cons bytes (get_or parts i part) [] ∙ append-nil (bytes (get_or parts i part)) ∙ ap bytes (sym is) in
    grows ∙ ap (λ (so : List ℕ). so ++ bytes part) so_far
    ∙ ap (λ (end : List ℕ). flat_map bytes (take i parts) ++ end) (sym last) ∙ sym whole
