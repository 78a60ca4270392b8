use Rattle.std.proofs.Common.{subst, Ok}
use Rattle.dr_stream_reader.specs.Reading.{SaysNext}
use Rattle.dr_stream_reader.proofs.Loads.{reach_fits}
use Rattle.dr_stream_reader.proofs.image.load_records.Goals as goal

pub write_record-requires-clause-within : goal.write_record-requires-clause-within
write_record-requires-clause-within c =
    reach_fits c.args.bytes.now c.loop-next.image c.loop-next.reader c.in-Some.next c.loop-next.invariant.loads
    (subst (λ v. SaysNext c.loop-next.reader (Ok v)) c.in-Some.is c.in_ok-next.ensures.says)
