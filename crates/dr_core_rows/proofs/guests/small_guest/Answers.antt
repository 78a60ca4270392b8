use Rattle.std.proofs.Common.{◌∙◌, ap, List, [], ◌∷◌}
use Rattle.dr_types.specs.declared.guest.Item.{Item}
use Rattle.dr_core_rows.proofs.Small.{settings_valid, small_is_valid}
use Rattle.dr_core_rows.proofs.guests.small_guest.Goals as goal

pub returns : goal.returns
returns c =
    let asked = c.requires in
    small_is_valid _ _ _ c.args.pages c.args.script.items
    (settings_valid c.args.buffer c.args.rounds c.args.quota asked.buffer asked.some_rounds asked.rounds asked.quota)
    (c.from_vec-2.ensures ∙ c.in_ok-slots.ensures.items)
    (c.from_vec-3.ensures ∙ c.in_ok-scripts.ensures.items ∙ ap (λ (x : List Item). x ∷ []) c.from_vec.ensures)
    asked.some_pages asked.pages asked.script asked.short
