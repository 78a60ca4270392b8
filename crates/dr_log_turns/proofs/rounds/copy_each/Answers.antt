use Rattle.std.proofs.Common.{◌+◌, ◌<◌, ◌≤◌, ◌^◌, ◌∙◌, ap, arith}
use Rattle.dr_types.specs.Pages.{page_count}
use Rattle.dr_turns.specs.Due.{zeros_to_copy}
use Rattle.dr_log_turns.proofs.Copying.{in_run_here}
use Rattle.dr_log_turns.proofs.rounds.copy_each.Goals as goal

pub overflow_add-first : goal.overflow_add-first
overflow_add-first c =
    let log = c.args.log.now in
    let lt : c.loop-k.k < zeros_to_copy log.guest log.past c.args.first = (let h = c.loop-k-test.true in omega (arith, h, c.requires.zeros)) in
    let here = in_run_here log.guest c.loop-k.log.guest log.past c.loop-k.log.past c.args.first c.loop-k.k c.loop-k.invariant.guest c.loop-k.invariant.past c.recall_legal.ensures.legal c.requires.end (record { begun = c.requires.started; answered = c.requires.answered; next = c.requires.page_to_copy }) lt in
    let pages : page_count c.guest-recall_few.result.now < 2 ^ 32 = c.guest-recall_few.ensures.few in
    omega (arith, here.within, pages, ap page_count c.guest-recall_few.ensures.is, ap page_count c.loop-k.invariant.guest)

pub copy-copied-requires-clause-end : goal.copy-copied-requires-clause-end
copy-copied-requires-clause-end c =
    let log = c.args.log.now in
    let lt : c.loop-k.k < zeros_to_copy log.guest log.past c.args.first = (let h = c.loop-k-test.true in omega (arith, h, c.requires.zeros)) in
    (in_run_here log.guest c.loop-k.log.guest log.past c.loop-k.log.past c.args.first c.loop-k.k c.loop-k.invariant.guest c.loop-k.invariant.past c.recall_legal.ensures.legal c.requires.end (record { begun = c.requires.started; answered = c.requires.answered; next = c.requires.page_to_copy }) lt).end

pub copy-copied-requires-clause-answered : goal.copy-copied-requires-clause-answered
copy-copied-requires-clause-answered c =
    let log = c.args.log.now in
    let lt : c.loop-k.k < zeros_to_copy log.guest log.past c.args.first = (let h = c.loop-k-test.true in omega (arith, h, c.requires.zeros)) in
    (in_run_here log.guest c.loop-k.log.guest log.past c.loop-k.log.past c.args.first c.loop-k.k c.loop-k.invariant.guest c.loop-k.invariant.past c.recall_legal.ensures.legal c.requires.end (record { begun = c.requires.started; answered = c.requires.answered; next = c.requires.page_to_copy }) lt).answered

pub copy-copied-requires-clause-page_to_copy : goal.copy-copied-requires-clause-page_to_copy
copy-copied-requires-clause-page_to_copy c =
    let log = c.args.log.now in
    let lt : c.loop-k.k < zeros_to_copy log.guest log.past c.args.first = (let h = c.loop-k-test.true in omega (arith, h, c.requires.zeros)) in
    (in_run_here log.guest c.loop-k.log.guest log.past c.loop-k.log.past c.args.first c.loop-k.k c.loop-k.invariant.guest c.loop-k.invariant.past c.recall_legal.ensures.legal c.requires.end (record { begun = c.requires.started; answered = c.requires.answered; next = c.requires.page_to_copy }) lt).next

pub loop-k-preserved : goal.loop-k-preserved
loop-k-preserved c =
    let log = c.args.log.now in
    let lt : c.loop-k.k < zeros_to_copy log.guest log.past c.args.first = (let h = c.loop-k-test.true in omega (arith, h, c.requires.zeros)) in
    let here = in_run_here log.guest c.loop-k.log.guest log.past c.loop-k.log.past c.args.first c.loop-k.k c.loop-k.invariant.guest c.loop-k.invariant.past c.recall_legal.ensures.legal c.requires.end (record { begun = c.requires.started; answered = c.requires.answered; next = c.requires.page_to_copy }) lt in
    let before : log.room.events ≤ c.loop-k.log.room.events + c.loop-k.k = c.loop-k.invariant.spare in
    let step : c.loop-k.log.room.events ≤ c.copy-copied.new.log.room.events + 1 = c.copy-copied.ensures.events in
    record {
      guest = c.copy-copied.ensures.guest ∙ c.loop-k.invariant.guest;
      past = c.copy-copied.ensures.past ∙ here.more;
      spare = omega (arith, before, step);
    }
