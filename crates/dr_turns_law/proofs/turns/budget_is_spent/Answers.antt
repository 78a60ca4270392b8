use Rattle.dr_turns_law.proofs.Spent.{budget_is_spent}
use Rattle.dr_turns_law.proofs.turns.budget_is_spent.Goals as goal

pub returns : goal.returns
returns c = budget_is_spent
