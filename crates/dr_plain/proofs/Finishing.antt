-- What a run leaves that ended, once the puts after it are made.
use Rattle.std.proofs.Common.{◌≡◌, ℕ, true, List, [], ◌∷◌, Some, Result, Ok, Err, refl, sym, subst}
use Rattle.std.specs.Prelude.{IfOk, OnOk, OnErr, IfErr}
use Rattle.std.specs.List.{list_any}
use Rattle.dr_types.specs.declared.guest.Guest.{Guest}
use Rattle.dr_types.specs.declared.status.Status.{Status}
use Rattle.dr_types.specs.declared.status.Status.TheVariants.{Done, Unfinished, Outlet}
use Rattle.dr_types.specs.declared.port.Port.TheVariants.{Stream}
use Rattle.dr_types.specs.Ports.{Ports, put_all, PutsCut, Rose}
use Rattle.dr_types.specs.Validity.{IsValid}
use Rattle.dr_history.specs.declared.event.Event.{Event}
use Rattle.dr_history.specs.declared.event.Event.TheVariants.{Switched}
use Rattle.dr_history.specs.Kinds.{is_switched}
use Rattle.dr_history.specs.Stream.{stream_of}
use Rattle.dr_headline_law.proofs.Promises.{headline, promises}
use Rattle.dr_machine.specs.Views.{KeptView}
use Rattle.dr_run.specs.declared.outcome.OutcomeEnd.{OutcomeEnd}
use Rattle.dr_run.specs.declared.outcome.OutcomeEnd.TheVariants as outcome
use Rattle.dr_run.specs.Outcomes.{EndsAs, SendsAs, StandsAs, ends_switched}
use Rattle.dr_schedule_law.specs.Schedule.{CutAtTurn}
use Rattle.dr_schedule_law.proofs.Scheduled.{scheduled_cut}
use Rattle.dr_turns.specs.Due.{run_end}
use Rattle.dr_turns.specs.declared.answers.RunEnd.{RunEnd}
use Rattle.dr_turns.specs.declared.answers.RunEnd.TheVariants as end
use Rattle.dr_schedule_law.proofs.Told.{spent_is_told}
use Rattle.dr_command_io.proofs.Cuts.{cut_after}
use Rattle.dr_command_io.specs.declared.fault.PutFault.{PutFault}
use Rattle.dr_command_io.specs.declared.fault.PutFault.TheVariants as fault
use Rattle.dr_plain.specs.Ended.{IsWhole}
use Rattle.dr_command_io.specs.Puts.{IsFault, status_of_end}
use Rattle.dr_plain.specs.Puts.{puts_after, puts_of}
use Rattle.dr_plain.specs.Top.{IsRunOf, IsCutOff, RunSays, SchedulesAs}

-- there is a switch-over where the last event is one
pub some_switched : (past : List Event) → ends_switched past ≡ true → list_any is_switched past ≡ true
some_switched [] h = cc
some_switched (Switched ∷ past) h = refl
some_switched (e ∷ past) h = cc

-- then the run stands at its switch-over
stands_switched : (guest : Guest) (past : List Event) → ends_switched past ≡ true → run_end guest past ≡ end.Switched
stands_switched guest past h = rw (some_switched past h) refl

-- the stream was put, and of the puts after the switch-over one was cut
pub cut_switched : (guest : Guest) (past : List Event) (old mid new : Ports) → StandsAs outcome.Switched guest past
    → SendsAs outcome.Switched (stream_of guest past) old mid → PutsCut (puts_after end.Switched guest past) mid new → PutsCut (puts_of guest past) old new
cut_switched guest past old mid new ends sends cut =
    cut_after Stream (stream_of guest past) (puts_after (run_end guest past) guest past) old mid new sends
    (subst (λ (e : RunEnd). PutsCut (puts_after e guest past) mid new) (sym (stands_switched guest past ends)) cut)

-- however a run ended, its events are blocks of the schedule, cut at the end of a turn
pub cut_anyhow : (guest : Guest) (past : List Event) (e : OutcomeEnd) → EndsAs e guest past
    → CutAtTurn guest [] past
cut_anyhow guest past outcome.Switched ends = scheduled_cut guest past ends.scheduled
cut_anyhow guest past outcome.Budget ends = scheduled_cut guest past ends.scheduled
cut_anyhow guest past outcome.Sink ends = ends
cut_anyhow guest past outcome.Memory ends = ends

cut_off : (guest : Guest) (view : KeptView) (old new : Ports) → IsRunOf guest view
    → PutsCut (puts_of guest view.past) old new → IsCutOff guest view old new
cut_off guest view old new run ports = record { run = run; promises = promises guest view.past run.legal.0; ports = ports }

-- what the status of a run says
pub run_says : (guest : Guest) (view : KeptView) (old new : Ports) (e : OutcomeEnd) (r : Result Status PutFault) → IsValid guest
    → IsRunOf guest view → StandsAs e guest view.past → IfOk r (IsWhole e)
    → OnOk r (new ≡ put_all (puts_of guest view.past) old)
    → OnErr r (PutsCut (puts_of guest view.past) old new)
    → RunSays (status_of_end r) guest (Some view) old new
run_says guest view old new outcome.Switched (Ok Done) valid run stands whole done ports = record {
  run = run;
  last = stands;
  headline = headline guest view.past valid run.legal.0 (some_switched view.past stands);
  ports = done;
}
run_says guest view old new outcome.Budget (Ok Unfinished) valid run stands whole done ports = record {
  run = run;
  spent = stands;
  rounds = spent_is_told guest view.past run.legal.0 stands;
  promises = promises guest view.past run.legal.0;
  ports = done;
}
run_says guest view old new e (Ok s) valid run stands whole done ports = absurd whole
run_says guest view old new e (Err fault.Outlet) valid run stands whole done ports = cut_off guest view old new run ports
run_says guest view old new e (Err fault.Memory) valid run stands whole done ports = cut_off guest view old new run ports

-- and of the order of its events, where they are as the end of a run on one thread says
pub run_schedules : (guest : Guest) (past : List Event) (e : OutcomeEnd) (r : Result Status PutFault) → IfOk r (IsWhole e)
    → EndsAs e guest past → SchedulesAs (status_of_end r) guest past
run_schedules guest past outcome.Switched (Ok Done) whole ends = ends.scheduled
run_schedules guest past outcome.Budget (Ok Unfinished) whole ends = ends.scheduled
run_schedules guest past e (Ok s) whole ends = absurd whole
run_schedules guest past e (Err fault.Outlet) whole ends = cut_anyhow guest past e ends
run_schedules guest past e (Err fault.Memory) whole ends = cut_anyhow guest past e ends

-- it says that a put failed only where the count of faults has risen
pub outlet_rose : (e : OutcomeEnd) (before now : ℕ) (r : Result Status PutFault) → IfOk r (IsWhole e) → IfErr r (IsFault before now)
    → status_of_end r ≡ Outlet → Rose before now
outlet_rose outcome.Switched before now (Ok Outlet) whole fault is = absurd whole
outlet_rose outcome.Budget before now (Ok Outlet) whole fault is = absurd whole
outlet_rose outcome.Sink before now (Ok Outlet) whole fault is = absurd whole
outlet_rose outcome.Memory before now (Ok Outlet) whole fault is = absurd whole
outlet_rose e before now (Ok s) whole fault is = cc
outlet_rose e before now (Err fault.Outlet) whole fault is = fault
outlet_rose e before now (Err fault.Memory) whole fault is = cc
