use Rattle.std.proofs.Common.{◌≡◌, length}
use Rattle.dr_stream_reader.specs.Images.{with_zeros}
use Rattle.dr_stream_reader.proofs.memory.write_zeros.Given as goal

abbrev pub invariant-loop-done : goal.invariant-loop-done
invariant-loop-done l = record {
  is : l.image ≡ with_zeros l.first l.done l.initial.image;
  len : length l.image ≡ length l.initial.image;
}
