use Rattle.std.proofs.Common.{arith}
use Rattle.dr_ring.proofs.Allowed.{harvests_at}
use Rattle.dr_ring.proofs.words.Words.store_harvested.Goals as goal

pub store-requires : goal.store-requires
store-requires c = (c.requires.own, omega (arith, c.entry_index-at.ensures.inside), harvests_at _ _ _ _ _ c.args.self.now.keyed _ _ _ c.args.e c.requires.next c.entry_index-at.ensures.place c.harvested_word-word.ensures c.requires.role)
