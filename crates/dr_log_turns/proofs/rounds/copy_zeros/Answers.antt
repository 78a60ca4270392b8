use Rattle.std.proofs.Common.{◌≤◌, ◌<◌, ◌^◌, ap, arith}
use Rattle.dr_types.specs.Pages.{page_count}
use Rattle.dr_log_turns.proofs.Copying.{run_few}
use Rattle.dr_log_turns.proofs.rounds.copy_zeros.Goals as goal

pub overflow_cast-count : goal.overflow_cast-count
overflow_cast-count c =
    let log = c.args.log.now in
    let few : c.args.count ≤ page_count log.guest = run_few log.guest log.past c.args.first c.args.count c.recall_legal.ensures.legal c.requires.zeros c.requires.some in
    let pages : page_count c.guest-recall_few.result.now < 2 ^ 32 = c.guest-recall_few.ensures.few in
    omega (arith, few, pages, ap page_count c.guest-recall_few.ensures.is)
