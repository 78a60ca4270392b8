use Rattle.dr_types.specs.declared.port.Port.TheVariants.{Stream, Image}
use Rattle.dr_io_files.proofs.Growing.{on_ok_gets}
use Rattle.dr_io_files.proofs.port_ends.PortEnds.put.Goals as goal

pub returns-clause-stream : goal.returns-clause-stream
returns-clause-stream g c = on_ok_gets c.put_alone.result Stream _ _ _ _ _
    c.in_ok-write_out_for.ensures.stream c.put_alone.ensures.stream

pub returns-clause-image : goal.returns-clause-image
returns-clause-image g c = on_ok_gets c.put_alone.result Image _ _ _ _ _
    c.in_ok-write_out_for.ensures.image c.put_alone.ensures.image
