use Rattle.std.proofs.Common.{arith}
use Rattle.std.proofs.lemmas.Grind.{common_steps}
use Rattle.dr_io.proofs.port_book.PortBookOutlet.put.Goals as goal

pub returns-then-is_ok-clause-listed : goal.returns-then-is_ok-clause-listed
returns-then-is_ok-clause-listed c = λ yes. absurd (grind (arith, common_steps, yes, c.contains-is_listed.ensures.value))
