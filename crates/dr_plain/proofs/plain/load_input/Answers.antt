use Rattle.dr_plain.proofs.Commands.{load_ends}
use Rattle.dr_plain.proofs.plain.load_input.Goals as goal

pub returns-clause-ends : goal.returns-clause-ends
returns-clause-ends g c = load_ends c.load-status.result.status (g.S.Source.remaining c.args.src.now) c.load-status.ensures.ends c.load-status.ensures.bad
