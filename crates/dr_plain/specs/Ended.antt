-- What the puts after a run leave.
use Rattle.dr_types.specs.declared.guest.Guest.{Guest}
use Rattle.dr_types.specs.declared.status.Status.{Status}
use Rattle.dr_types.specs.declared.status.Status.TheVariants.{Done, Unfinished}
use Rattle.dr_machine.specs.Views.{KeptView, MachineView}
use Rattle.dr_run.specs.declared.outcome.OutcomeEnd.{OutcomeEnd}
use Rattle.dr_run.specs.declared.outcome.OutcomeEnd.TheVariants as outcome

-- the status of a run that was not cut off
abbrev pub IsWhole : OutcomeEnd → Status → Type 0
IsWhole outcome.Switched Done = Unit {0}
IsWhole outcome.Budget Unfinished = Unit {0}
IsWhole e other = ⊥

-- what is left of a machine of this guest
abbrev pub left_of : Guest → MachineView → KeptView
left_of guest machine = record { guest = guest; past = machine.past; seats = machine.seats }
