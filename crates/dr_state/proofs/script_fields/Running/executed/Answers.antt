use Rattle.std.proofs.Common.{◌≡◌, ◌<◌, length, arith}
use Rattle.std.proofs.lemmas.Grind.{common_steps}
use Rattle.dr_state.proofs.Runs.{executed}
use Rattle.dr_state.proofs.script_fields.Running.executed.Goals as goal

pub returns-clause-state : goal.returns-clause-state
returns-clause-state c = λ guest past e k h.
    let s = c.args.self.now in
    let lt : c.args.v < length s.readers.items = grind (arith, common_steps) in
    let len : length s.registers.items ≡ length s.readers.items = grind (arith, common_steps) in
    rw (c.advance.ensures, c.next_acc.ensures, c.next-op.ensures)
    (executed guest past e c.args.v c.args.loaded _ _ c.index_mut-reader.result.now c.index-register.result.now k lt len c.index_mut-reader.ensures.value c.index-register.ensures h)
