use Rattle.std.proofs.Common.{◌≡◌, ◌-◌, arith}
use Rattle.dr_slots.proofs.Inverses.{place_of_page}
use Rattle.dr_slots.proofs.law.place_inverts_page_at.Goals as goal

pub returns : goal.returns
returns c = λ rows slot offset page e. let whole : page - 0 ≡ page = omega arith in rw whole at (place_of_page 0 rows slot offset page e).1
