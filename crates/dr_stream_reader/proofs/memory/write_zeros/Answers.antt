use Rattle.std.proofs.Common.{refl, ◌∙◌}
use Rattle.dr_stream_reader.proofs.Loads.{zeros_more}
use Rattle.dr_stream_reader.proofs.memory.write_zeros.Goals as goal

pub loop-done-preserved : goal.loop-done-preserved
loop-done-preserved c = record {
  is = zeros_more c.args.first c.loop-done.done c.loop-done.image c.args.image.now _ c.write_page.new.image c.loop-done.invariant.is refl c.write_page.ensures.is;
  len = c.write_page.ensures.len ∙ c.loop-done.invariant.len;
}
