use Rattle.std.proofs.Common.{ℕ, ◌≡◌, ap, sym, ◌∙◌, arith}
use Rattle.std.specs.List.{filter_map, range_with_len}
use Rattle.dr_protect.specs.Permissions.{Permissions}
use Rattle.dr_protect.specs.Masks.{named_page}
use Rattle.dr_protect.specs.Calls.{all_protected}
use Rattle.dr_protect.proofs.Masked.{mask_names, mask_passes}
use Rattle.dr_protect.proofs.protect.Protect.protect_mask.Goals as goal
use Rattle.dr_protect.proofs.protect.Protect.protect_mask.Goals.{in-Some, in_default}

pub loop-i-preserved : goal.loop-i-preserved
loop-i-preserved c =
    let same_rows = ap (λ (it : Permissions). named_page it.rows c.args.slot c.args.base c.args.mask c.loop-i.i) c.loop-i.invariant in
    elim c.match-named_page.branch [
      | in-Some w ↦
          mask_names (named_page c.args.self.now.rows c.args.slot c.args.base c.args.mask) c.loop-i.i w.in-Some.page c.args.self.now c.loop-i.self c.match-named_page.self
          c.loop-i.invariant (sym w.in-Some.is ∙ c.named_page.ensures.is ∙ same_rows) (w.self-is ∙ w.protect_page.ensures)
      | in_default w ↦
          w.self-is
          ∙ mask_passes (named_page c.args.self.now.rows c.args.slot c.args.base c.args.mask) c.loop-i.i c.args.self.now c.loop-i.self c.loop-i.invariant
          (sym w.in_default.is ∙ c.named_page.ensures.is ∙ same_rows)
    ]

pub returns : goal.returns
returns c =
    let done : c.loop-i.i ≡ 64 = omega arith in
    c.loop-i.invariant
    ∙ ap (λ (n : ℕ). all_protected (filter_map (named_page c.args.self.now.rows c.args.slot c.args.base c.args.mask) (range_with_len 0 n)) c.args.self.now) done
