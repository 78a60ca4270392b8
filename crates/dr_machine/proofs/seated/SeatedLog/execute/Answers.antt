use Rattle.std.proofs.Common.{arith}
use Rattle.dr_turns_law.proofs.Executing.{executed_rests, executed_own}
use Rattle.dr_machine.proofs.seated.SeatedLog.execute.Goals as goal

pub push_where_full-requires-clause-rest : goal.push_where_full-requires-clause-rest
push_where_full-requires-clause-rest g c κs within =
    rw c.in_ok-execute_alone.ensures.appended (executed_rests g.N.Name.guest c.args.self.now.past c.args.v c.requires.turn)

pub push_where_full-requires-clause-events : goal.push_where_full-requires-clause-events
push_where_full-requires-clause-events g c κs within =
    let own = executed_own g.N.Name.guest c.args.self.now.past c.args.v c.requires.turn in
    rw c.in_ok-execute_alone.ensures.appended (omega (arith, own, c.in_ok-execute_alone.ensures.events))
