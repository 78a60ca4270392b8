-- The words of a line with a list at its end.
use Rattle.std.proofs.Common.{◌≡◌, ℕ, List, [], ◌∷◌, ◌++◌, length, map, ap, sym, ◌∙◌, append_assoc}
use Rattle.std.specs.Prelude.{codes, decimal}
use Rattle.std.specs.List.{flat_map, join_with_byte}
use Rattle.std.proofs.lemmas.List.Concat.{flat_map-cons}
use Rattle.std.proofs.lemmas.List.{append-nil}
use Rattle.dr_types.specs.Lines.{line_text}
use Rattle.dr_history.specs.declared.event.Event.TheVariants.{Synced}
use Rattle.dr_history.specs.Lines.{event_line}

abbrev after_space : ℕ → List ℕ
after_space n = 32 ∷ decimal n

-- numbers after a first word, each after a space
joined : (word : List ℕ) (ns : List ℕ) → join_with_byte 32 (word ∷ map decimal ns) ≡ word ++ flat_map after_space ns
joined word [] = sym (append-nil word)
joined word (n ∷ ns) = ap (λ xs. word ++ (32 ∷ xs)) (joined (decimal n) ns) ∙ ap (λ xs. word ++ xs) (sym (flat_map-cons after_space n ns))

-- numbers after four words
joined_four : (a b c d : List ℕ) (ns : List ℕ)
    → join_with_byte 32 (a ∷ b ∷ c ∷ d ∷ map decimal ns) ≡ join_with_byte 32 (a ∷ b ∷ c ∷ d ∷ []) ++ flat_map after_space ns
joined_four a b c d ns =
    ap (λ xs. a ++ (32 ∷ (b ++ (32 ∷ (c ++ (32 ∷ xs)))))) (joined d ns)
    ∙ simp append_assoc

-- a Synced's line, as it is written in three pieces
pub synced_line : (r at : ℕ) (pages old : List ℕ)
    → ((old ++ join_with_byte 32 (codes "sync" ∷ decimal r ∷ decimal at ∷ decimal (length pages) ∷ [])) ++ flat_map after_space pages) ++ 10 ∷ []
    ≡ old ++ event_line (Synced r at pages)
unfolding event_line line_text
synced_line r at pages old =
    let head = join_with_byte 32 (codes "sync" ∷ decimal r ∷ decimal at ∷ decimal (length pages) ∷ []) in
    ap (λ xs. xs ++ 10 ∷ []) (append_assoc old head (flat_map after_space pages))
    ∙ append_assoc old (head ++ flat_map after_space pages) (10 ∷ [])
    ∙ ap (λ xs. old ++ (xs ++ 10 ∷ [])) (sym (joined_four (codes "sync") (decimal r) (decimal at) (decimal (length pages)) pages))
