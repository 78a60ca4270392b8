-- What each turn of a vCPU answers, and the events after it.
use Rattle.std.specs.Prelude.{ℕ, Bool, not, ◌||◌, if◌then◌else◌, List, ◌∷◌, Option, Some, None}
use Rattle.dr_types.specs.declared.guest.Guest.{Guest}
use Rattle.dr_types.specs.declared.guest.Op.{Op}
use Rattle.dr_types.specs.declared.guest.Op.TheVariants as op
use Rattle.dr_types.specs.declared.guest.Why.{Why}
use Rattle.dr_types.specs.declared.guest.Why.TheVariants as reason
use Rattle.dr_types.specs.declared.step.Step.{Step}
use Rattle.dr_types.specs.declared.step.Step.TheVariants as step
use Rattle.dr_types.specs.Pages.{soft_limit}
use Rattle.std.specs.List.{list_all}
use Rattle.dr_types.specs.Scripts.{operation, vcpu_count}
use Rattle.dr_history.specs.declared.event.Event.{Event}
use Rattle.dr_history.specs.declared.event.Event.TheVariants.{Opened, Filled, Exited}
use Rattle.dr_history.specs.Lookback.{below}
use Rattle.dr_history.specs.Entries.{opens, used}
use Rattle.dr_history.specs.Execution.{ops}
use Rattle.dr_history.specs.Protection.{started, writable, cached}
use Rattle.dr_history.specs.Vcpus.{halted, stopped, kicked, is_full}
use Rattle.dr_event_law.specs.Operations.{op_event, op_page}
use Rattle.dr_turns.specs.Buffers.{all_pushed, pushed_where_full}
use Rattle.dr_turns.specs.declared.answers.Turn.{Turn}
use Rattle.dr_turns.specs.declared.answers.Turn.TheVariants as turn

-- why a vCPU executes nothing, if it doesn't
abbrev pub refusal : Guest → Bool → ℕ → List Event → Option Turn
refusal guest over v past =
    if over then Some turn.Over
    else if halted v past then Some turn.Ended
    else if stopped past then Some turn.Stopped
    else if kicked v past then Some turn.Kicked
    else if is_full guest v past then Some (turn.Full (used v past) (soft_limit guest))
    else None

-- what an op asks of its vCPU's thread
abbrev pub op_step : Option Op → Step
op_step (Some (op.Nap us)) = step.Nap us
op_step (Some op.Halt) = step.Halted
op_step o = step.Plain

-- An op's event, after what the page needs that it writes: nothing before Start or where the page
-- is cached for the vCPU; a Filled where it is writable; else an Opened of the vCPU's next number.
abbrev pub event_after : ℕ → Event → Option ℕ → List Event → List Event
event_after v e None past = e ∷ past
event_after v e (Some page) past =
    if not (started past) || cached v page past then e ∷ past
    else if writable page past then e ∷ Filled v page ∷ past
    else e ∷ Opened v (opens v past) page ∷ past

abbrev pub op_after : Guest → ℕ → Option Op → List Event → List Event
op_after guest v None past = past
op_after guest v (Some o) past = event_after v (op_event guest v past o) (op_page guest o) past

-- the vCPU's next op is executed
unfoldable pub executed : Guest → ℕ → List Event → List Event
executed guest v past = op_after guest v (operation guest v (ops v past)) past

-- the events after the turn of a vCPU that executes: its next op, and then its buffer where it is
-- full
abbrev pub after_op : Guest → ℕ → List Event → List Event
after_op guest v past = pushed_where_full guest v (executed guest v past)

-- why a vCPU leaves the guest: the first that holds
abbrev pub exit_reason : Guest → ℕ → List Event → Why
exit_reason guest v past =
    if halted v past then reason.Halted
    else if stopped past then reason.Stopped
    else if kicked v past then reason.Kicked
    else if is_full guest v past then reason.Full
    else reason.Yield

-- the events after a vCPU's exit: its whole buffer is pushed, and then it leaves
abbrev pub after_exit : Guest → ℕ → List Event → List Event
after_exit guest v past = Exited v (exit_reason guest v (all_pushed v past)) ∷ all_pushed v past

-- no vCPU executes any more: the guest is stopped, or each has halted
abbrev pub all_out : Guest → List Event → Bool
all_out guest past = stopped past || list_all (λ v. halted v past) (below (vcpu_count guest))
