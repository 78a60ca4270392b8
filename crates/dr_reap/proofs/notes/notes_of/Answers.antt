use Rattle.std.proofs.Common.{◌<◌, ◌∙◌, ap, arith, length}
use Rattle.dr_history.specs.Entries.{pushes}
use Rattle.dr_bench.specs.Bench.{BenchView}
use Rattle.dr_reap.proofs.Noted.{notes_more}
use Rattle.dr_reap.proofs.notes.notes_of.Goals as goal

pub loop-v-preserved : goal.loop-v-preserved
loop-v-preserved g c = record {
  stays = c.note_of.ensures.stays ∙ c.loop-v.invariant.stays;
  notes =
      let lt : c.loop-v.v < length g.N.Name.rings = omega (arith, c.loop-v-test.true, c.vcpus-v-end.ensures.named) in
      notes_more g.N.Name.rings c.args.bench.now.past c.loop-v.v c.loop-v.notes c.push.new.self c.note_of.result c.loop-v.invariant.notes lt c.note_of.ensures.named c.note_of.ensures.of_kernel
      (c.note_of.ensures.pushed ∙ ap (λ (b : BenchView). pushes c.loop-v.v b.past) c.loop-v.invariant.stays) c.in_ok-push.ensures.ok;
}
