use Rattle.std.proofs.Common.{◌≡◌, ◌+◌, Some, ap, ◌∙◌, arith}
use Rattle.dr_slots.proofs.Inverses.{page_of_place}
use Rattle.dr_slots.proofs.law.page_at_inverts_place.Goals as goal

pub returns : goal.returns
returns c = λ rows page entry differ e. page_of_place 0 rows page entry differ e ∙ ap Some (let zero_plus : 0 + page ≡ page = omega arith in zero_plus)
