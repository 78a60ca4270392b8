-- What a journal says.
use Rattle.std.specs.Prelude.{◌≡◌, List, All}
use Rattle.dr_types.specs.declared.guest.Guest.{Guest}
use Rattle.dr_types.specs.Validity.{IsValid}
use Rattle.dr_history.specs.declared.event.Event.{Event}
use Rattle.dr_history.specs.Lines.{FitsLine}
use Rattle.dr_history.specs.Journal.{journal_text}

-- two valid guests with their histories never have the same journal
abbrev pub OneJournal : Type 0
OneJournal = (guest other : Guest) (xs ys : List Event) → IsValid guest → IsValid other
    → All FitsLine xs → All FitsLine ys → journal_text guest xs ≡ journal_text other ys
    → (guest ≡ other) × (xs ≡ ys)
