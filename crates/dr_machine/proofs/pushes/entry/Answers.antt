use Rattle.std.proofs.Common.{◌∙◌, ℕ, Option, is_some, sym, ap}
use Rattle.std.proofs.lemmas.Bool.{false≢true}
use Rattle.dr_history_law.proofs.Entered.{has_page}
use Rattle.dr_machine.proofs.pushes.entry.Goals as goal

pub unreachable-requires : goal.unreachable-requires
unreachable-requires c =
    let log = c.args.log.now in
    false≢true (ap (λ (o : Option ℕ). is_some o) (sym c.in-None.is ∙ c.entry_page.ensures) ∙ has_page log.guest log.past c.args.v c.args.k c.recall_legal.ensures.legal c.requires.opened)
