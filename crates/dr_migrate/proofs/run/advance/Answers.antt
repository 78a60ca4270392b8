use Rattle.std.proofs.Common.{◌∙◌, rules}
use Rattle.dr_schedule_law.proofs.Timing.{advance_times}
use Rattle.dr_migrate.proofs.Running.{has_advanced, advance_cut, advance_cut_times}
use Rattle.dr_reap.proofs.Staying.{advance_keeps_all}
use Rattle.dr_migrate.proofs.run.advance.Goals as goal

pub returns-in_err-due-clause-cut : goal.returns-in_err-due-clause-cut
returns-in_err-due-clause-cut g c =
    let cut = advance_cut g.N.Name.guest c.args.now c.args.bench.now c.advance.new.self c.in_err-due.field-0.0 c.in_err-due.ensures.fault in
    search (rules, cut)

pub returns-in_err-due-clause-times : goal.returns-in_err-due-clause-times
returns-in_err-due-clause-times g c =
    advance_cut_times g.N.Name.guest c.args.now c.args.bench.now c.advance.new.self c.in_err-due.field-0.0 c.in_err-due.ensures.fault

pub returns-clause-advanced : goal.returns-clause-advanced
returns-clause-advanced g c =
    has_advanced g.N.Name.guest c.args.now c.args.bench.now.past c.advance.new.self.past c.in_ok-due.due c.recall_kept.ensures.legal.0
    c.in_ok-due.ensures.answer c.in_ok-due.ensures.appended

pub returns-clause-going : goal.returns-clause-going
returns-clause-going g c = record {
  whole = c.in_ok-due.ensures.failed;
  going = c.in_ok-due.ensures.over ∙ c.requires.going.going;
  all_deposited = rw c.in_ok-due.ensures.appended (advance_keeps_all g.N.Name.guest c.args.now c.args.bench.now.past c.args.collector.now c.requires.going.all_deposited);
}

pub returns-clause-times : goal.returns-clause-times
returns-clause-times g c = rw c.in_ok-due.ensures.appended (advance_times g.N.Name.guest c.args.now c.args.bench.now.past)
