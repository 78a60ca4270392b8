-- The journal: the guest's text and the history's.
use Rattle.std.specs.Prelude.{ℕ, List, [], ◌∷◌, ◌++◌, codes}
use Rattle.dr_history.specs.declared.event.Event.{Event}
use Rattle.dr_types.specs.declared.guest.Guest.{Guest}
use Rattle.dr_types.specs.Lines.{line_text}
use Rattle.dr_types.specs.GuestText.{guest_text}
use Rattle.dr_history.specs.Lines.{text}

-- the guest's lines, a line `journal`, the events' lines and a line `end`
abbrev pub journal_text : Guest → List Event → List ℕ
journal_text guest past =
    guest_text guest ++ line_text (codes "journal" ∷ [])
    ++ text past ++ line_text (codes "end" ∷ [])
