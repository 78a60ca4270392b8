use Rattle.dr_collector.proofs.Pushes.{note_more, kernel_more}
use Rattle.dr_collector.proofs.tests.notes_of.Goals as goal

pub loop-v-preserved : goal.loop-v-preserved
loop-v-preserved g c = record {
  of_rings = note_more _ _ _ _ _ c.loop-v.invariant.of_rings c.note.ensures.named c.in_ok-push.ensures.ok;
  of_kernel = kernel_more _ _ _ c.loop-v.invariant.of_kernel c.note.ensures.of_kernel c.in_ok-push.ensures.ok;
}
