use Rattle.std.proofs.Common.{◌≡◌, ◌+◌, ◌<◌, List, drop}
use Rattle.std.specs.Prelude.{All}
use Rattle.dr_types.specs.Pages.{page_count}
use Rattle.dr_history.specs.declared.event.Event.{Event}
use Rattle.dr_state.specs.Whole.{IsStateOf}
use Rattle.dr_turns.specs.Due.{zeros_from}
use Rattle.dr_log.proofs.zeros.zeros_from.Given as goal

abbrev pub invariant-loop-at : goal.invariant-loop-at
invariant-loop-at l =
    (past : List Event) → IsStateOf l.guest past l.state → All (λ page. page < page_count l.guest) l.pages
    → zeros_from l.guest past l.first l.pages ≡ l.at + zeros_from l.guest past (l.first + l.at) (drop l.at l.pages)
