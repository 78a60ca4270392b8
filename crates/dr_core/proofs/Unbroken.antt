-- An event that the judge finds unbroken may follow.
use Rattle.std.proofs.Common.{◌≡◌, List}
use Rattle.std.specs.Prelude.{None}
use Rattle.dr_types.specs.declared.guest.Guest.{Guest}
use Rattle.dr_history.specs.declared.event.Event.{Event}
use Rattle.dr_history.specs.Legality.{broken}
use Rattle.dr_event_law.specs.May.{MayFollow}

pub follows : (guest : Guest) (past : List Event) (e : Event) → broken guest past e ≡ None → MayFollow guest past e
follows guest past e is = record { kept = is }
