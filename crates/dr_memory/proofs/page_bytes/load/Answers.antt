use Rattle.std.proofs.Common.{◌∙◌}
use Rattle.dr_memory.proofs.Bytes.{loaded_is}
use Rattle.dr_memory.proofs.page_bytes.load.Goals as goal

pub returns : goal.returns
returns c =
    c.from_le_bytes.ensures
    ∙ loaded_is c.args.page.now c.args.at _ _ _ _ _ _ _ _
    c.byte-b0.ensures c.byte-b1.ensures c.byte-b2.ensures c.byte-b3.ensures
    c.byte-b4.ensures c.byte-b5.ensures c.byte-b6.ensures c.byte-b7.ensures
