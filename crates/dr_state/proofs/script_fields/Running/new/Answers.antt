use Rattle.std.proofs.Common.{◌≡◌, ◌∙◌, ◌≤◌, length, arith, ap, sym, List, ℕ, [], ◌∷◌, ◌++◌}
use Rattle.dr_types.proofs.Copies.{same_list}
use Rattle.dr_types.specs.declared.guest.Op.{Op}
use Rattle.dr_types.specs.Scripts.{expanded}
use Rattle.dr_state.proofs.Firsts.{none_running, reader_more, one_more}
use Rattle.dr_state.proofs.script_fields.Running.new.Goals as goal

pub returns : goal.returns
returns c =
    let is = c.as_slice-script-items.ensures in
    let le : length c.args.guest.now.scripts ≤ c.loop-script.script-index = omega (arith, ap length is, c.loop-script-test.false) in
    let ge : c.loop-script.script-index ≤ length c.args.guest.now.scripts = omega (arith, ap length is, c.loop-script.auto.script-index-end) in
    none_running c.args.guest.now _ _ c.loop-script.script-index le ge (rw is at c.loop-script.invariant.readers) c.loop-script.invariant.registers

pub loop-script-preserved : goal.loop-script-preserved
loop-script-preserved c =
    let copy : c.in_ok-clone.field-0 ≡ c.script-item.result = same_list _ _ c.in_ok-clone.ensures.cases in
    record {
      readers =
          c.in_ok-push.ensures.items
          ∙ ap (λ (x : List Op). c.loop-script.readers.items ++ x ∷ []) (c.new.ensures ∙ ap expanded copy)
          ∙ reader_more _ c.as_slice-script-items.result.now c.loop-script.script-index c.script-item.result c.script-item.result c.loop-script.invariant.readers c.loop-script-test.true c.script-item.is;
      registers =
          c.in_ok-push-2.ensures.items ∙ ap (λ (xs : List ℕ). xs ++ 0 ∷ []) c.loop-script.invariant.registers ∙ sym (one_more 0 c.loop-script.script-index);
    }
