use Rattle.std.proofs.Common.{subst}
use Rattle.dr_types.specs.Validity.{IsValid}
use Rattle.dr_reap.proofs.Counting.{resets_few}
use Rattle.dr_reap.proofs.resets.recall_few.Goals as goal

pub returns-clause-few : goal.returns-clause-few
returns-clause-few g c =
    resets_few g.N.Name.guest c.args.bench.now.past c.args.v (subst IsValid c.guest-recall_guest.ensures.is c.guest-recall_guest.ensures.valid) c.recall_kept.ensures.legal.0
