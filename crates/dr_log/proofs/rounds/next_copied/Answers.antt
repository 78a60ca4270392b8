use Rattle.std.proofs.Common.{◌∙◌, ap, List, ℕ}
use Rattle.std.specs.Prelude.{slice_get}
use Rattle.dr_log.proofs.Copying.{page_next}
use Rattle.dr_log.proofs.rounds.next_copied.Goals as goal

pub returns-in-Some : goal.returns-in-Some
returns-in-Some c = λ past h.
    c.at.ensures ∙ ap (λ (xs : List ℕ). slice_get xs c.args.state.now.rounds.copies) c.as_slice.ensures
    ∙ page_next c.args.guest.now past c.args.state.now.rounds _ h.are_rounds c.in-Some.is
