use Rattle.std.proofs.Common.{◌≡◌, length, arith}
use Rattle.std.proofs.lemmas.Grind.{common_steps}
use Rattle.dr_state.proofs.Maps.{written_back}
use Rattle.dr_state.proofs.Holds.{answered}
use Rattle.dr_state.proofs.throttle_fields.Throttles.answered.Goals as goal

pub returns : goal.returns
returns c = λ past r pages are h.
    let s = c.args.self.now in
    let len : length c.hold_each.new.list ≡ s.list.len = grind (arith, common_steps) in
    let items : c.as_mut_slice.result.now ≡ s.list.items = grind (arith, common_steps) in
    rw (written_back _ c.hold_each.new.list _ len, c.hold_each.ensures, items, c.as_slice.ensures, c.saturating_sub-us.ensures)
    (answered c.args.guest.now past r c.args.at _ pages _ c.args.vcpus.now _ c.requires.some_quota are h)
