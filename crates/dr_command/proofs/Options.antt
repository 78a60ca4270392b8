-- The options of a command, two words at a time.
use Rattle.std.proofs.Common.{◌≡◌, ℕ, suc, ◌+◌, ◌<◌, List, [], ◌∷◌, map, length, get_or, drop, Some, None, refl, ap, sym, ◌∙◌, arith, add-one, drop-cons, length-drop}
use Rattle.std.proofs.lemmas.List.{drop-map, length-map}
use Rattle.dr_command.specs.declared.paths.Paths.{Paths}
use Rattle.dr_command.specs.Words.{paths_from, with_option}

-- the next word, and those after it
drop_next : {A B : Type 0} (f : A → B) (xs : List A) (at : ℕ) (x : A) → at < length xs → x ≡ get_or xs at x → drop at (map f xs) ≡ f x ∷ drop (at + 1) (map f xs)
drop_next f xs at x lt is =
    drop-map f at xs ∙ ap (map f) (drop-cons xs at x lt) ∙ ap (λ y. f y ∷ map f (drop (suc at) xs)) (sym is)
    ∙ ap (λ ys. f x ∷ ys) (sym (drop-map f (suc at) xs) ∙ ap (λ n. drop n (map f xs)) (sym (add-one at)))

one_word : (ws : List (List ℕ)) (at : ℕ) (paths : Paths) → length ws ≡ 1 → paths_from ws at (Some paths) ≡ None
one_word [] at paths one = absurd (omega (arith, one))
one_word (w ∷ []) at paths one = refl
one_word (w ∷ v ∷ ws) at paths one = absurd (omega (arith, one))

-- an option without its path
pub half_option : {A : Type 0} (f : A → List ℕ) (xs : List A) (at : ℕ) (paths : Paths) → at + 1 ≡ length xs → paths_from (drop at (map f xs)) at (Some paths) ≡ None
half_option f xs at paths last =
    let left = length-drop at (map f xs) in
    let all : length (map f xs) ≡ length xs = length-map xs f in
    one_word (drop at (map f xs)) at paths (omega (arith, left, all, last))

-- no path can be after a word that is no option
pub none_from : (ws : List (List ℕ)) (at : ℕ) → paths_from ws at None ≡ None
none_from [] at = refl
none_from (w ∷ ws) at = refl

-- an option with its path
pub whole_option : {A : Type 0} (f : A → List ℕ) (xs : List A) (at : ℕ) (x y : A) (paths : Paths) → at + 1 < length xs → x ≡ get_or xs at x → y ≡ get_or xs (at + 1) y
    → paths_from (drop at (map f xs)) at (Some paths) ≡ paths_from (drop (at + 2) (map f xs)) (at + 2) (with_option paths (f x) (f y) (at + 1))
whole_option f xs at x y paths lt is also =
    let next : (at + 1) + 1 ≡ at + 2 = omega arith in
    ap (λ ws. paths_from ws at (Some paths))
    (drop_next f xs at x (omega (arith, lt)) is ∙ ap (λ ws. f x ∷ ws) (drop_next f xs (at + 1) y lt also ∙ ap (λ n. f y ∷ drop n (map f xs)) next))
