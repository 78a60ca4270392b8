use Rattle.std.proofs.Common.{arith}
use Rattle.dr_stream_reader.proofs.reader.StreamReader.new.Goals as goal
use Rattle.dr_stream_reader.proofs.Headers as headers

pub left-requires : goal.left-requires
left-requires c = headers.header_long c.args.bytes.now c.in_ok-standing.standing c.in_ok-standing.ensures.header

pub invariant_of-result : goal.invariant_of-result
invariant_of-result c =
    headers.is_reading c.args.bytes.now c.left.result.now c.in_ok-standing.standing (λ i. omega (arith, c.type_inv.bytes i)) c.in_ok-standing.ensures.header c.left.ensures
