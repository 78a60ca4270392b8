-- The text of a list of lines, as a loop writes it.
use Rattle.std.proofs.Common.{◌≡◌, ℕ, ◌+◌, ◌<◌, List, [], ◌∷◌, ◌++◌, length, take, get_or, map, sym, ap, ◌∙◌, append_assoc}
use Rattle.std.specs.List.{flat_map}
use Rattle.std.proofs.lemmas.List.{append-nil, take_more, map-append}
use Rattle.std.proofs.lemmas.List.Concat.{flat_map-cons}
use Rattle.std.proofs.lemmas.Grind.{flat_map-append}
use Rattle.std.specs.Prelude.{codes}
use Rattle.dr_types.specs.declared.guest.Guest.{Guest}
use Rattle.dr_types.specs.GuestText.{settings_lines, slot_line, script_lines, guest_text}
use Rattle.dr_types.specs.Lines.{line_text, lines_text, named}

pub lines_text-append : (lines more : List (List (List ℕ))) → lines_text (lines ++ more) ≡ lines_text lines ++ lines_text more
lines_text-append lines more = flat_map-append line_text lines more

pub one_line : (words : List (List ℕ)) → lines_text (words ∷ []) ≡ line_text words
one_line words = flat_map-cons line_text words [] ∙ append-nil (line_text words)

-- the text with the lines of one element more
pub more_lines : {X : Type 0} (lines : X → List (List (List ℕ))) (xs : List X) (i : ℕ) (x : X) (start out next : List ℕ) → i < length xs → x ≡ get_or xs i x
    → out ≡ start ++ lines_text (flat_map lines (take i xs)) → next ≡ out ++ lines_text (lines x) → next ≡ start ++ lines_text (flat_map lines (take (i + 1) xs))
more_lines lines xs i x start out next lt is so_far grows =
    let cut = ap (flat_map lines) (take_more xs i x lt) ∙ flat_map-append lines (take i xs) (get_or xs i x ∷ []) in
    let last = flat_map-cons lines (get_or xs i x) [] ∙ append-nil (lines (get_or xs i x)) ∙ ap lines (sym is) in
    let whole = ap lines_text (cut ∙ ap (λ (more : List (List (List ℕ))). flat_map lines (take i xs) ++ more) last) ∙ lines_text-append (flat_map lines (take i xs)) (lines x) in
    grows ∙ ap (λ (text : List ℕ). text ++ lines_text (lines x)) so_far ∙ append_assoc start (lines_text (flat_map lines (take i xs))) (lines_text (lines x))
    ∙ ap (λ (text : List ℕ). start ++ text) (sym whole)

-- the same where each element has one line
pub more_line : {X : Type 0} (line : X → List (List ℕ)) (xs : List X) (i : ℕ) (x : X) (start out next : List ℕ) → i < length xs → x ≡ get_or xs i x
    → out ≡ start ++ lines_text (map line (take i xs)) → next ≡ out ++ line_text (line x) → next ≡ start ++ lines_text (map line (take (i + 1) xs))
more_line {X = X} line xs i x start out next lt is so_far grows =
    let cut = ap (map line) (take_more xs i x lt) ∙ map-append line (take i xs) (get_or xs i x ∷ []) in
    let last = ap (λ (y : X). line y ∷ []) (sym is) in
    let whole = ap lines_text (cut ∙ ap (λ (more : List (List (List ℕ))). map line (take i xs) ++ more) last) ∙ lines_text-append (map line (take i xs)) (line x ∷ []) ∙ ap (λ (text : List ℕ). lines_text (map line (take i xs)) ++ text) (one_line (line x)) in
    grows ∙ ap (λ (text : List ℕ). text ++ line_text (line x)) so_far ∙ append_assoc start (lines_text (map line (take i xs))) (line_text (line x))
    ∙ ap (λ (text : List ℕ). start ++ text) (sym whole)

-- the four parts of a guest's text
pub whole_text : (guest : Guest) (first settings slots scripts : List ℕ) → first ≡ [] ++ line_text (named (codes "dirtyguest") guest.version) → settings ≡ first ++ lines_text (settings_lines guest.settings)
    → slots ≡ settings ++ lines_text (map slot_line guest.slots) → scripts ≡ slots ++ lines_text (flat_map script_lines guest.scripts) → scripts ≡ guest_text guest
whole_text guest first settings slots scripts a b c d =
    let magic : List (List ℕ) = named (codes "dirtyguest") guest.version in
    let s = settings_lines guest.settings in
    let m = map slot_line guest.slots in
    let f = flat_map script_lines guest.scripts in
    let whole : guest_text guest ≡ line_text magic ++ (lines_text s ++ (lines_text m ++ lines_text f)) =
    flat_map-cons line_text magic (s ++ (m ++ f)) ∙ ap (λ (text : List ℕ). line_text magic ++ text) (lines_text-append s (m ++ f) ∙ ap (λ (text : List ℕ). lines_text s ++ text) (lines_text-append m f)) in
    d ∙ ap (λ (text : List ℕ). text ++ lines_text f) (c ∙ ap (λ (text : List ℕ). text ++ lines_text m) (b ∙ ap (λ (text : List ℕ). text ++ lines_text s) a))
    ∙ append_assoc (line_text magic ++ lines_text s) (lines_text m) (lines_text f) ∙ append_assoc (line_text magic) (lines_text s) (lines_text m ++ lines_text f) ∙ sym whole
