-- How a run ended, and what it left.
use Rattle.std.specs.Prelude.{◌≡◌, ℕ, Bool, true, false, List, [], ◌∷◌, Result, Ok, Err}
use Rattle.dr_types.specs.declared.guest.Guest.{Guest}
use Rattle.dr_types.specs.declared.port.Port.TheVariants.{Stream}
use Rattle.dr_types.specs.Ports.{Ports, put_at}
use Rattle.dr_history.specs.declared.event.Event.{Event}
use Rattle.dr_history.specs.declared.event.Event.TheVariants.{Switched}
use Rattle.dr_turns.specs.Due.{run_end}
use Rattle.dr_turns.specs.declared.answers.RunEnd.{RunEnd}
use Rattle.dr_turns.specs.declared.answers.RunEnd.TheVariants as end
use Rattle.dr_schedule_law.specs.Schedule.{IsScheduled, CutAtTurn}
use Rattle.dr_bench.specs.Bench.{IsPartOf}
use Rattle.dr_bench.specs.declared.bench.BenchFault.{BenchFault}
use Rattle.dr_bench.specs.declared.bench.BenchFault.TheVariants as fault
use Rattle.dr_run.specs.declared.outcome.OutcomeEnd.{OutcomeEnd}
use Rattle.dr_run.specs.declared.outcome.OutcomeEnd.TheVariants as outcome

-- the last event is the switch-over
abbrev pub ends_switched : List Event → Bool
ends_switched [] = false
ends_switched (Switched ∷ earlier) = true
ends_switched (e ∷ earlier) = false

-- the events are blocks of the schedule, and the last one is the switch-over
pub record HasSwitched (guest : Guest) (past : List Event) : Type 0 where
  pub last : ends_switched past ≡ true
  pub scheduled : IsScheduled guest past

-- the events are blocks of the schedule, and after them the rounds are spent
pub record HasSpent (guest : Guest) (past : List Event) : Type 0 where
  pub spent : run_end guest past ≡ end.Budget
  pub scheduled : IsScheduled guest past

-- What the events are by how the run ended. Where a put failed or memory was refused, they are
-- blocks of the schedule, cut at the end of a turn.
abbrev pub EndsAs : OutcomeEnd → Guest → List Event → Type 0
EndsAs outcome.Switched guest past = HasSwitched guest past
EndsAs outcome.Budget guest past = HasSpent guest past
EndsAs outcome.Sink guest past = CutAtTurn guest [] past
EndsAs outcome.Memory guest past = CutAtTurn guest [] past

-- Where the run then stands, in whatever order its turns came: at a switch-over, which is the last
-- event, or where its rounds are spent. Of a run that was cut off nothing more is said.
abbrev pub StandsAs : OutcomeEnd → Guest → List Event → Type 0
StandsAs outcome.Switched guest past = ends_switched past ≡ true
StandsAs outcome.Budget guest past = run_end guest past ≡ end.Budget
StandsAs outcome.Sink guest past = Unit {0}
StandsAs outcome.Memory guest past = Unit {0}

-- what the ports then tell: Stream has grown by this stream, or by a first part of it where a put
-- failed; the other ports are what they were
abbrev pub SendsAs : OutcomeEnd → List ℕ → Ports → Ports → Type 0
SendsAs outcome.Sink stream old new = IsPartOf old stream new
SendsAs e stream old new = new ≡ put_at Stream stream old

-- there is no machine, for want of memory, and the ports are what they were
pub record HasNone (e : OutcomeEnd) (old new : Ports) : Type 0 where
  pub memory : e ≡ outcome.Memory
  pub told : new ≡ old

-- how a drive ended, as the end of its run
abbrev pub end_of_drive : Result RunEnd BenchFault → OutcomeEnd
end_of_drive (Ok end.Switched) = outcome.Switched
end_of_drive (Ok e) = outcome.Budget
end_of_drive (Err fault.Sink) = outcome.Sink
end_of_drive (Err fault.Memory) = outcome.Memory
