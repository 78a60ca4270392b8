-- A turn of a bench that deposits nothing leaves all deposited that its collector handed out, whatever came of it.
use Rattle.std.proofs.Common.{◌≡◌, ℕ, Bool, true, false, List, refl, sym, subst}
use Rattle.std.specs.Prelude.{Option, Some, None, IfSome, Result, Ok, Err, OnOk, OnErr}
use Rattle.dr_types.specs.declared.guest.Guest.{Guest}
use Rattle.dr_types.specs.declared.guest.Why.{Why}
use Rattle.dr_types.specs.declared.memory.Memory.{Memory}
use Rattle.dr_history.specs.Vcpus.{in_guest}
use Rattle.dr_turns.specs.Turns.{refusal, after_op}
use Rattle.dr_turns.specs.declared.answers.Turn.{Turn}
use Rattle.dr_machine.specs.Answers.{ExitTurn, OpTurn}
use Rattle.dr_machine.specs.Views.{MachineView}
use Rattle.dr_collector.specs.Collected.{Collected}
use Rattle.dr_reap.specs.Harvests.{AllDeposited}
use Rattle.dr_reap.proofs.Staying.{op_keeps_all, exit_keeps_all}

by_test : (b : Bool) (P : Type 0) → (b ≡ true → P) → (b ≡ false → P) → P
by_test true P f g = f refl
by_test false P f g = g refl

same_deposited : (guest : Guest) (old new : MachineView) (c : List Collected) → new ≡ old → AllDeposited guest old.past c → AllDeposited guest new.past c
same_deposited guest old new c same before = subst (λ (m : MachineView). AllDeposited guest m.past c) (sym same) before

-- the exit of a vCPU
pub exit_turn_keeps_all : (guest : Guest) (v : ℕ) (old new : MachineView) (c : List Collected) (result : Result (Option Why) Memory) → AllDeposited guest old.past c → ExitTurn guest v result old new → AllDeposited guest new.past c
exit_turn_keeps_all guest v old new c (Ok why) before turn =
    by_test (in_guest v old.past) _
    (λ inside. rw (turn.appended inside) (exit_keeps_all guest v old.past c before))
    (λ out. same_deposited guest old new c (turn.stays out) before)
exit_turn_keeps_all guest v old new c (Err why) before turn = same_deposited guest old new c turn.err before

op_case : (guest : Guest) (v : ℕ) (old new : MachineView) (c : List Collected) (why : Option Turn) (result : Result Turn Memory) → AllDeposited guest old.past c
    → IfSome why (λ turn. new ≡ old) → (why ≡ None → OnOk result (new.past ≡ after_op guest v old.past)) → OnErr result (new ≡ old) → AllDeposited guest new.past c
op_case guest v old new c (Some turn) result before stays appended err = same_deposited guest old new c stays before
op_case guest v old new c None (Ok turn) before stays appended err = rw (appended refl) (op_keeps_all guest v old.past c before)
op_case guest v old new c None (Err why) before stays appended err = same_deposited guest old new c err before

-- the op of a vCPU
pub op_turn_keeps_all : (guest : Guest) (v : ℕ) (old new : MachineView) (c : List Collected) (result : Result Turn Memory) → AllDeposited guest old.past c → OpTurn guest v result old new → AllDeposited guest new.past c
op_turn_keeps_all guest v old new c result before turn =
    op_case guest v old new c (refusal guest old.over v old.past) result before turn.stays turn.appended turn.err
