use Rattle.dr_rules.proofs.Tests.{follow_load}
use Rattle.dr_rules.proofs.execution.follows_script.Goals as goal

pub returns-in-Read : goal.returns-in-Read
returns-in-Read c = follow_load _ _ _ _ _ _ _ _ _ _ _ _ c.in-Read.is c.ops-executed.ensures c.next_op.ensures c.is_load-loads.ensures c.is_next.ensures
