-- What a line asks for.
use Rattle.std.specs.Prelude.{◌≡◌, ℕ, List, [], ◌∷◌, ◌⊎◌, decimal}
use Rattle.dr_types.specs.Lines.{line_text}
use Rattle.dr_core_speed.specs.declared.request.Request.{Request}

-- the line says the events and the guests, or the events alone where the guests are four
abbrev pub IsRequest : List ℕ → Request → Type 0
IsRequest line request =
    (line ≡ line_text (decimal request.events ∷ decimal request.guests ∷ []))
    ⊎ ((request.guests ≡ 4) × (line ≡ line_text (decimal request.events ∷ [])))
