use Rattle.std.proofs.Common.{◌∙◌, ap, List, ℕ}
use Rattle.dr_history.specs.Rules.{same_numbers}
use Rattle.dr_log.proofs.Sets.{dirty_set}
use Rattle.dr_log.proofs.answers.are_dirty.Goals as goal

pub returns : goal.returns
returns c = λ past h.
    c.are_members.ensures ∙ ap (λ (xs : List ℕ). same_numbers c.args.pages.now xs)
    (dirty_set c.args.guest.now past _ _ h.protection_pages h.is_protection.is_dirty)
