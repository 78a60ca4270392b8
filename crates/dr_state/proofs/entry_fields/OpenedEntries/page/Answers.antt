use Rattle.std.proofs.Common.{arith}
use Rattle.std.proofs.lemmas.Grind.{common_steps}
use Rattle.dr_state.proofs.Opens.{reads_page, reads_no_page}
use Rattle.dr_state.proofs.entry_fields.OpenedEntries.page.Goals as goal

pub returns-then-k-entries : goal.returns-then-k-entries
returns-then-k-entries c = λ guest n past legal h.
    reads_page guest past c.args.v c.args.k c.of-entries.result.now _ legal (c.of-entries.ensures n past h) (grind (arith, common_steps))

pub returns-else-k-entries : goal.returns-else-k-entries
returns-else-k-entries c = λ guest n past legal h.
    reads_no_page guest past c.args.v c.args.k c.of-entries.result.now legal (c.of-entries.ensures n past h) (grind (arith, common_steps))
