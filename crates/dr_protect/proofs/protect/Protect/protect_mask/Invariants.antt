use Rattle.std.proofs.Common.{◌≡◌}
use Rattle.std.specs.List.{filter_map, range_with_len}
use Rattle.dr_protect.specs.Masks.{named_page}
use Rattle.dr_protect.specs.Calls.{all_protected}
use Rattle.dr_protect.proofs.protect.Protect.protect_mask.Given as goal

abbrev pub invariant-loop-i : goal.invariant-loop-i
invariant-loop-i l = l.self ≡ all_protected (filter_map (named_page l.initial.self.rows l.slot l.base l.mask) (range_with_len 0 l.i)) l.initial.self
