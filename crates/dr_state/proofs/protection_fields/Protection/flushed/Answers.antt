use Rattle.std.proofs.Common.{◌∙◌, length, ap, sym, refl}
use Rattle.std.proofs.Math.ListN.{length-replicate}
use Rattle.dr_protect.specs.Permissions.{Permissions}
use Rattle.dr_state.proofs.Protects.{flushed, length_with}
use Rattle.dr_state.proofs.protection_fields.Protection.flushed.Goals as goal

pub invariant_of-self-clause-closing_sized : goal.invariant_of-self-clause-closing_sized
invariant_of-self-clause-closing_sized c =
    let s = c.args.self.now in
    ap length c.clear.ensures ∙ length-replicate (length s.closing.0) _ ∙ s.closing_sized ∙ sym (ap (λ (it : Permissions). it.pages) c.flush.ensures)

pub invariant_of-self-clause-dirty_sized : goal.invariant_of-self-clause-dirty_sized
invariant_of-self-clause-dirty_sized c =
    let s = c.args.self.now in
    ap length c.set_each.ensures ∙ length_with c.list.result.now s.dirty ∙ s.dirty_sized ∙ sym (ap (λ (it : Permissions). it.pages) c.flush.ensures)

pub returns-clause-state : goal.returns-clause-state
returns-clause-state c = λ past h.
    let s = c.args.self.now in
    rw (c.set_each.ensures, c.clear.ensures, c.flush.ensures)
    (flushed s.permissions.vcpus s.permissions.pages (length s.closing.0) _ past _ _ _ _ c.list.result.now s.closing_sized refl c.list.ensures h)
