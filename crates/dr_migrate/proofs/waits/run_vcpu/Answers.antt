use Rattle.std.proofs.Common.{subst}
use Rattle.std.proofs.lemmas.Result.{on_ok_weaker, on_err_weaker}
use Rattle.dr_types.specs.Validity.{IsValid}
use Rattle.dr_reap.specs.Harvests.{handed_of}
use Rattle.dr_reap.proofs.Batches.{in_numbers}
use Rattle.dr_schedule_law.proofs.Telling.{not_paced}
use Rattle.dr_migrate.proofs.Acting.{WaitsForOp, acts_move, acts_break}
use Rattle.dr_migrate.proofs.waits.run_vcpu.Goals as goal

pub execute-requires-clause-awaits : goal.execute-requires-clause-awaits
execute-requires-clause-awaits g c κs within =
    not_paced g.N.Name.guest c.requires.due.now c.args.bench.now.past c.args.v c.args.done c.recall_kept.ensures.legal.0 c.requires.due.answer

pub returns-clause-moves : goal.returns-clause-moves
returns-clause-moves g c =
    let guest = g.N.Name.guest in
    let old = c.args.bench.now.past in
    let handed = handed_of c.args.collector.now in
    let it : WaitsForOp guest c.requires.due.now c.args.v c.args.done old handed = record {
      valid = subst IsValid c.guest-recall_guest.ensures.is c.guest-recall_guest.ensures.valid;
      legal = c.recall_kept.ensures.legal.0;
      answer = c.requires.due.answer;
      awaits = not_paced guest c.requires.due.now old c.args.v c.args.done c.recall_kept.ensures.legal.0 c.requires.due.answer;
      all_deposited = in_numbers guest old c.args.collector.now c.requires.going.all_deposited;
    } in
    on_ok_weaker c.execute.result (acts_move guest c.requires.due.now c.args.v c.args.done old c.execute.new.bench.past handed it) c.execute.ensures.done

pub returns-clause-breaks : goal.returns-clause-breaks
returns-clause-breaks g c =
    let guest = g.N.Name.guest in
    let old = c.args.bench.now.past in
    let handed = handed_of c.args.collector.now in
    let it : WaitsForOp guest c.requires.due.now c.args.v c.args.done old handed = record {
      valid = subst IsValid c.guest-recall_guest.ensures.is c.guest-recall_guest.ensures.valid;
      legal = c.recall_kept.ensures.legal.0;
      answer = c.requires.due.answer;
      awaits = not_paced guest c.requires.due.now old c.args.v c.args.done c.recall_kept.ensures.legal.0 c.requires.due.answer;
      all_deposited = in_numbers guest old c.args.collector.now c.requires.going.all_deposited;
    } in
    on_err_weaker c.execute.result (acts_break guest c.requires.due.now c.args.v c.args.done old c.execute.new.bench.past handed it) c.execute.ensures.part
