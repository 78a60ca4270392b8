use Rattle.std.proofs.Common.{◌≡◌, length}
use Rattle.dr_stream_reader.specs.Images.{HasLoaded}
use Rattle.dr_stream_reader.proofs.image.load_records.Given as goal

abbrev pub invariant-loop-next : goal.invariant-loop-next
invariant-loop-next l = record {
  loads : HasLoaded l.bytes l.reader l.image;
  len : length l.image ≡ length l.initial.image;
}

abbrev pub decreases-loop-next : goal.decreases-loop-next
decreases-loop-next l = length l.reader.rest
