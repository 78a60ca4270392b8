use Rattle.std.proofs.Common.{◌≤◌, ◌<◌, ◌^◌, length, arith, subst}
use Rattle.dr_types.specs.declared.guest.Guest.{Guest}
use Rattle.dr_types.specs.Pages.{page_count}
use Rattle.dr_types.proofs.Copies.{same_list}
use Rattle.dr_log_turns.proofs.answering.answer_flushed.Goals as goal

pub overflow_cast-count : goal.overflow_cast-count
overflow_cast-count c =
    let few : length c.in_ok-pages.pages ≤ page_count c.args.log.now.guest = c.in_ok-pages.ensures.few in
    let pages : page_count c.args.log.now.guest < 2 ^ 32 = subst (λ (h : Guest). page_count h < 2 ^ 32) c.guest-recall_few.ensures.is c.guest-recall_few.ensures.few in
    rw c.len-count.ensures (omega arith)

pub take_answer-requires-clause-copy : goal.take_answer-requires-clause-copy
take_answer-requires-clause-copy c = same_list c.in_ok-pages.pages c.in_ok-copy.copy c.in_ok-copy.ensures.cases
