use Rattle.std.proofs.Common.{arith}
use Rattle.dr_ring.proofs.Allowed.{resets_at}
use Rattle.dr_ring.proofs.words.Words.store_zero.Goals as goal

pub store-requires : goal.store-requires
store-requires c = (c.requires.own, omega (arith, c.entry_index-at.ensures.inside), resets_at _ _ _ _ _ c.args.self.now.keyed _ _ c.requires.next c.entry_index-at.ensures.place c.requires.role)
