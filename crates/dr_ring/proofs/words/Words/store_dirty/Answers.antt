use Rattle.std.proofs.Common.{arith}
use Rattle.dr_ring.proofs.Allowed.{pushes_at}
use Rattle.dr_ring.proofs.words.Words.store_dirty.Goals as goal

pub store-requires : goal.store-requires
store-requires c = (c.requires.own, omega (arith, c.entry_index-at.ensures.inside), pushes_at _ _ _ _ _ c.args.self.now.keyed _ _ _ c.args.e c.requires.next c.entry_index-at.ensures.place c.dirty_word-word.ensures c.requires.role c.requires.count)
