use Rattle.dr_stream_reader.proofs.Loads.{breaks}
use Rattle.dr_stream_reader.proofs.image.next_of.Goals as goal

pub returns-clause-fault : goal.returns-clause-fault
returns-clause-fault c = breaks c.args.bytes.now c.args.reader.now c.next.result c.requires c.next.ensures.says
