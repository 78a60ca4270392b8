-- How many entries are reset at most.
use Rattle.std.proofs.Common.{ℕ, ◌+◌, ◌≤◌, Bool, true, false, cond, List, [], ◌∷◌, arith}
use Rattle.std.specs.Prelude.{◌==◌}
use Rattle.dr_types.specs.declared.guest.Guest.{Guest}
use Rattle.dr_types.specs.Scripts.{op_count}
use Rattle.dr_types.specs.Validity.{IsValid}
use Rattle.dr_history.specs.declared.event.Event.{Event}
use Rattle.dr_history.specs.declared.event.Event.TheVariants.{Read, Write, Paint, Local, Halted}
use Rattle.dr_history.specs.Entries.{opens, pushes, resets}
use Rattle.dr_history.specs.Execution.{ops}
use Rattle.dr_history.specs.Legality.{IsLegalSoFar}
use Rattle.dr_history_law.specs.Length.{script_length}
use Rattle.dr_history_law.specs.Order.{writes, last_opens_for}
use Rattle.dr_history_law.proofs.Length.{stays_in_script}
use Rattle.dr_history_law.proofs.Limits.{script_in_total}
use Rattle.dr_history_law.proofs.Order.{opened_in_order, reset_pushed}
use Rattle.dr_history_law.proofs.Outstanding.{more, pushed_opened}

both_more : (same : Bool) (a b : ℕ) → a ≤ b → cond same (a + 1) a ≤ cond same (b + 1) b
both_more true a b h = omega arith
both_more false a b h = h

writes_ops : (past : List Event) (v : ℕ) → writes v past ≤ ops v past
writes_ops [] v = omega arith
writes_ops (Read w i space address value ∷ past) v = more (w == v) (writes v past) (ops v past) (writes_ops past v)
writes_ops (Write w i space address len value ∷ past) v = both_more (w == v) (writes v past) (ops v past) (writes_ops past v)
writes_ops (Paint w i page byte ∷ past) v = both_more (w == v) (writes v past) (ops v past) (writes_ops past v)
writes_ops (Local w i ∷ past) v = more (w == v) (writes v past) (ops v past) (writes_ops past v)
writes_ops (Halted w i ∷ past) v = more (w == v) (writes v past) (ops v past) (writes_ops past v)
writes_ops (e ∷ past) v = writes_ops past v

one_at_most : (b : Bool) → cond b 1 0 ≤ 1
one_at_most true = omega arith
one_at_most false = omega arith

-- a vCPU opens no more entries than a valid guest has ops, and one
pub resets_few : (guest : Guest) (past : List Event) (v : ℕ) → IsValid guest → IsLegalSoFar guest past → resets v past ≤ 200001
resets_few guest past v valid legal =
    let a : resets v past ≤ pushes v past = reset_pushed guest past v legal in
    let b : pushes v past ≤ opens v past = pushed_opened guest past v legal in
    let c : opens v past ≤ writes v past + cond (last_opens_for v past) 1 0 = opened_in_order guest past v legal in
    let d : writes v past ≤ ops v past = writes_ops past v in
    let e : ops v past ≤ script_length guest v = stays_in_script guest past v legal in
    let f : script_length guest v ≤ op_count guest.scripts = script_in_total guest.scripts v in
    let g : op_count guest.scripts ≤ 200000 = valid.ops in
    let h : cond (last_opens_for v past) 1 0 ≤ 1 = one_at_most (last_opens_for v past) in
    omega arith
