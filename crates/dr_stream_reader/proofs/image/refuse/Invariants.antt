use Rattle.std.proofs.Common.{length}
use Rattle.dr_stream_reader.specs.Reading.{IsReaderOf}
use Rattle.dr_stream_reader.proofs.image.refuse.Given as goal

abbrev pub invariant-loop : goal.invariant-loop
invariant-loop l = IsReaderOf l.bytes l.reader

abbrev pub decreases-loop : goal.decreases-loop
decreases-loop l = length l.reader.rest
