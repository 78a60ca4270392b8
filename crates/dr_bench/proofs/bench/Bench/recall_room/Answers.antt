use Rattle.std.proofs.Common.{◌<◌, ◌^◌, ◌-◌, subst}
use Rattle.dr_types.specs.Validity.{IsValid}
use Rattle.dr_history.specs.Stream.{sent_records}
use Rattle.dr_bench.specs.Bench.{BenchView}
use Rattle.dr_bench.proofs.Counting.{records_fit}
use Rattle.dr_bench.proofs.bench.Bench.recall_room.Goals as goal

pub returns-clause-few : goal.returns-clause-few
returns-clause-few g c =
    subst (λ (s : BenchView). sent_records g.N.Name.guest s.past < 2 ^ 32 - 1) c.self.view_is
    (records_fit g.N.Name.guest c.self.inside.machine.past (subst IsValid c.guest-recall_guest.ensures.is c.guest-recall_guest.ensures.valid) c.recall_kept.ensures.legal.0)
