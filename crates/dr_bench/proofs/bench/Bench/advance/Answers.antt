use Rattle.std.proofs.Common.{◌≡◌, ◌∙◌, false, true, Bool, ap, sym, subst}
use Rattle.dr_types.specs.declared.guest.Guest.{Guest}
use Rattle.dr_bench.specs.Bench.{BenchView, BenchKeeps, IsTracked, bench_of}
use Rattle.dr_bench.specs.Records.{opens_at}
use Rattle.dr_bench.proofs.Advancing.{Advanced, keeps_advance, keeps_failed}
use Rattle.dr_bench.proofs.bench.Bench.advance.Goals as goal

pub invariant_of-self-in-Done : goal.invariant_of-self-in-Done
invariant_of-self-in-Done g c =
    let guest = g.N.Name.guest in
    let m = c.self.inside.machine in
    let n = c.make_advance.new.self in
    let fine : c.self.inside.failed ≡ false = subst (λ (s : BenchView). s.failed ≡ false) (sym c.self.view_is) c.requires in
    let due : Advanced guest c.args.now m n c.self.inside.sender c.put_record.new.sender c.self.inside.stopped c.in_ok-due.due c.opens_at-opens.result c.put_record.result = record {
      answer = c.in_ok-due.ensures.answer;
      past = c.in_ok-due.ensures.appended;
      opens_is = c.opens_at-opens.ensures ∙ ap (λ (h : Guest). opens_at h c.self.inside.stopped c.in_ok-due.due) c.guest.ensures.is;
      sends = c.put_record.ensures;
    } in
    subst (λ (stop : Bool). BenchKeeps guest g.N.Name.ports g.N.Name.faults (bench_of n c.put_record.new.sender c.self.inside.failed) × IsTracked guest n.past c.put_record.new.sender.records stop) (sym c.stopped_after-self-inside.ensures)
    (keeps_advance guest g.N.Name.ports g.N.Name.faults c.args.now m n c.self.inside.sender c.put_record.new.sender c.self.inside.failed c.self.inside.stopped c.in_ok-due.due c.opens_at-opens.result c.put_record.result c.self.invariant fine c.in-Done.is due)

pub invariant_of-self-in-Failed : goal.invariant_of-self-in-Failed
invariant_of-self-in-Failed g c =
    let guest = g.N.Name.guest in
    let m = c.self.inside.machine in
    let n = c.make_advance.new.self in
    let fine : c.self.inside.failed ≡ false = subst (λ (s : BenchView). s.failed ≡ false) (sym c.self.view_is) c.requires in
    let due : Advanced guest c.args.now m n c.self.inside.sender c.put_record.new.sender c.self.inside.stopped c.in_ok-due.due c.opens_at-opens.result c.put_record.result = record {
      answer = c.in_ok-due.ensures.answer;
      past = c.in_ok-due.ensures.appended;
      opens_is = c.opens_at-opens.ensures ∙ ap (λ (h : Guest). opens_at h c.self.inside.stopped c.in_ok-due.due) c.guest.ensures.is;
      sends = c.put_record.ensures;
    } in
    let o = c.give_up.new.self in
    subst (λ (stop : Bool). BenchKeeps guest g.N.Name.ports g.N.Name.faults (bench_of o c.put_record.new.sender true) × IsTracked guest o.past c.put_record.new.sender.records stop) (sym c.stopped_after-self-inside.ensures)
    (keeps_failed guest g.N.Name.ports g.N.Name.faults c.args.now m n o c.self.inside.sender c.put_record.new.sender c.self.inside.failed c.self.inside.stopped c.in_ok-due.due c.opens_at-opens.result c.put_record.result c.self.invariant fine c.in-Failed.is due c.give_up.ensures)
