use Rattle.std.proofs.Common.{arith}
use Rattle.dr_ring.proofs.Opening.{pairs}
use Rattle.dr_ring.proofs.words.Words.pair.Goals as goal

pub split_seat-requires : goal.split_seat-requires
split_seat-requires c = let wide = c.args.self.now.wide in (c.requires.own, omega arith, pairs _ _ _ c.requires.role)
