use Rattle.std.proofs.Common.{arith}
use Rattle.dr_ring.proofs.Allowed.{copies_at}
use Rattle.dr_ring.proofs.words.Words.load_harvest_offset.Goals as goal

pub load-requires : goal.load-requires
load-requires c = (c.requires.own, omega (arith, c.entry_index-at.ensures.inside), copies_at _ _ _ _ _ c.args.self.now.keyed _ _ c.args.slot c.requires.next c.entry_index-at.ensures.place c.requires.role)
