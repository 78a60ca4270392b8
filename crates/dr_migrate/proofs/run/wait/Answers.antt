use Rattle.std.proofs.Common.{refl, ◌∙◌}
use Rattle.dr_schedule_law.proofs.Telling.{finished, budget_ends}
use Rattle.dr_migrate.proofs.run.wait.Goals as goal

pub returns-in-Finished-clause-waited : goal.returns-in-Finished-clause-waited
returns-in-Finished-clause-waited g c = record {
  here = refl;
  end = finished g.N.Name.guest c.requires.due.now c.args.bench.now.past c.recall_kept.ensures.legal.0 (c.requires.due.answer ∙ c.in-Finished.is);
}

pub returns-in-Budget-clause-waited : goal.returns-in-Budget-clause-waited
returns-in-Budget-clause-waited g c = record {
  here = refl;
  end = budget_ends g.N.Name.guest c.requires.due.now c.args.bench.now.past (c.requires.due.answer ∙ c.in-Budget.is);
}
