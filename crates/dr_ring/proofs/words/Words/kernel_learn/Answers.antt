use Rattle.std.proofs.Common.{arith, rules}
use Rattle.dr_ring.proofs.Notes.{kernel_learns, compares_allowed}
use Rattle.dr_ring.proofs.words.Words.kernel_learn.Goals as goal

pub join_seat-requires : goal.join_seat-requires
join_seat-requires c = let wide = c.args.self.now.wide in (c.requires.own, c.requires.of_ring, c.requires.no_slots, omega arith, kernel_learns _ _ _ _ _ c.requires.role c.requires.of_user)

pub load-requires : goal.load-requires
load-requires c = let wide = c.args.self.now.wide in (search rules, omega arith, compares_allowed _ _ _ _)
