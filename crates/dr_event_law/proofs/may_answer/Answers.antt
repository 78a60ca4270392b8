use Rattle.dr_event_law.proofs.Legally.{answers_legally}
use Rattle.dr_event_law.proofs.may_answer.Goals as goal

pub returns : goal.returns
returns c = answers_legally
