-- What a command leaves, by how it ended.
use Rattle.std.specs.Prelude.{◌≡◌, ◌≢◌, ◌⊎◌, ℕ, ◌<◌, true, All, List, [], length}
use Rattle.std.specs.Prelude.{Option, Some, None}
use Rattle.dr_types.specs.declared.guest.Guest.{Guest}
use Rattle.dr_types.specs.declared.fault.FileFault.TheVariants as fault
use Rattle.dr_types.specs.declared.status.Status.{Status}
use Rattle.dr_types.specs.declared.status.Status.TheVariants.{Done, Words, GuestFile, Unfinished}
use Rattle.dr_types.specs.declared.status.Status.TheVariants.{Outlet, Source, Memory, TooLong}
use Rattle.dr_types.specs.Ports.{Ports, put_all, PutsCut}
use Rattle.dr_types.specs.Scripts.{vcpu_count}
use Rattle.dr_types.specs.Validity.{IsValid}
use Rattle.dr_history.specs.declared.event.Event.{Event}
use Rattle.dr_history.specs.Legality.{IsLegal}
use Rattle.dr_history.specs.Lines.{FitsLine}
use Rattle.dr_headline_law.specs.Headline.{KeepsHeadline, KeepsPromises}
use Rattle.dr_machine.specs.Views.{KeptView}
use Rattle.dr_run.specs.Outcomes.{ends_switched}
use Rattle.dr_schedule_law.specs.Schedule.{CutAtTurn, IsScheduled}
use Rattle.dr_seat_law.specs.Seats.{AreSeats}
use Rattle.dr_schedule_law.specs.Spent.{AreSpent}
use Rattle.dr_turns.specs.Due.{run_end}
use Rattle.dr_turns.specs.declared.answers.RunEnd.TheVariants as end
use Rattle.dr_command_io.specs.Taking.{IfTold}
use Rattle.dr_plain.specs.Input.{IsRead, IsRefused, most_guest_bytes}
use Rattle.dr_plain.specs.Puts.{puts_of}

-- What is kept is of a machine that ran this guest: its history is legal, each event has a line of
-- its own, and its rings, one for each vCPU, have pushed and reset what the events say.
pub record IsRunOf (guest : Guest) (kept : KeptView) : Type 0 where
  pub same : kept.guest ≡ guest
  pub legal : IsLegal guest kept.past
  pub fits : All FitsLine kept.past
  pub seats : AreSeats guest kept.past kept.seats
  pub one_each : length kept.seats ≡ vcpu_count guest

-- the guest has switched over; the headline holds, and all that is to be put was put
pub record IsMigrated (guest : Guest) (kept : KeptView) (old new : Ports) : Type 0 where
  pub run : IsRunOf guest kept
  pub last : ends_switched kept.past ≡ true
  pub headline : KeepsHeadline guest kept.past
  pub ports : new ≡ put_all (puts_of guest kept.past) old

-- All rounds of the guest are spent: each was answered with too many pages, which were copied. The
-- promises hold, and all that is to be put was put.
pub record IsUnfinished (guest : Guest) (kept : KeptView) (old new : Ports) : Type 0 where
  pub run : IsRunOf guest kept
  pub spent : run_end guest kept.past ≡ end.Budget
  pub rounds : AreSpent guest kept.past
  pub promises : KeepsPromises guest kept.past
  pub ports : new ≡ put_all (puts_of guest kept.past) old

-- The run was cut off, and the promises hold. Of the puts all before one were made, and a first
-- part of that one.
pub record IsCutOff (guest : Guest) (kept : KeptView) (old new : Ports) : Type 0 where
  pub run : IsRunOf guest kept
  pub promises : KeepsPromises guest kept.past
  pub ports : PutsCut (puts_of guest kept.past) old new

-- what the status of a run says of the guest, of what is kept, and of the ports
abbrev pub RunSays : Status → Guest → Option KeptView → Ports → Ports → Type 0
RunSays Done guest (Some kept) old new = IsMigrated guest kept old new
RunSays Unfinished guest (Some kept) old new = IsUnfinished guest kept old new
RunSays Outlet guest (Some kept) old new = IsCutOff guest kept old new
RunSays Memory guest (Some kept) old new = IsCutOff guest kept old new
RunSays Memory guest None old new = new ≡ old
RunSays s guest kept old new = ⊥

-- what the status of a run on one thread says of the order of its events: they are blocks of the
-- schedule, and where the run was cut off, so were they, at the end of a turn
abbrev pub SchedulesAs : Status → Guest → List Event → Type 0
SchedulesAs Done guest past = IsScheduled guest past
SchedulesAs Unfinished guest past = IsScheduled guest past
SchedulesAs Outlet guest past = CutAtTurn guest [] past
SchedulesAs Memory guest past = CutAtTurn guest [] past
SchedulesAs other guest past = ⊥

-- the guest of the source was run, and its run ended with this status
pub record HasRun (s : Status) (remaining : Option (List ℕ)) (kept : Option KeptView)
    (old new : Ports) : Type 0 where
  pub guest : Guest
  pub read : IsRead remaining guest
  pub says : RunSays s guest kept old new

-- no guest was run: nothing is kept, and nothing was put
pub record HasQuit (kept : Option KeptView) (old new : Ports) : Type 0 where
  pub none : kept ≡ None
  pub ports : new ≡ old

-- what a status of `step` or `run` says of the source's bytes, of what is kept, and of the ports
abbrev pub Says : Status → Option (List ℕ) → Option KeptView → Ports → Ports → Type 0
Says Done remaining kept old new = HasRun Done remaining kept old new
Says Unfinished remaining kept old new = HasRun Unfinished remaining kept old new
Says Outlet remaining kept old new = HasRun Outlet remaining kept old new
Says Memory remaining kept old new = HasQuit kept old new ⊎ HasRun Memory remaining kept old new
Says Words remaining kept old new = HasQuit kept old new
Says Source remaining kept old new = HasQuit kept old new
Says (GuestFile why) remaining kept old new =
    HasQuit kept old new × (why ≢ fault.Memory) × IfTold remaining (IsRefused why)
Says TooLong remaining kept old new =
    HasQuit kept old new × IfTold remaining (λ bytes. most_guest_bytes < length bytes)
Says other remaining kept old new = ⊥

-- some valid guest was migrated, whatever the source tells
pub record SomeMigrated (kept : Option KeptView) (old new : Ports) : Type 0 where
  pub view : KeptView
  pub is : kept ≡ Some view
  pub valid : IsValid view.guest
  pub migrated : IsMigrated view.guest view old new

-- there is a status, and it isn't this one
abbrev pub IsSomeBut : Status → Option Status → Type 0
IsSomeBut s None = ⊥
IsSomeBut s (Some other) = other ≢ s

-- how `step` and `run` may end whose source tells a guest file
abbrev pub EndsRun : Status → Type 0
EndsRun Done = Unit {0}
EndsRun Unfinished = Unit {0}
EndsRun Outlet = Unit {0}
EndsRun Source = Unit {0}
EndsRun Memory = Unit {0}
EndsRun other = ⊥
