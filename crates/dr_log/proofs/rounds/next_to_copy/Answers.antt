use Rattle.std.proofs.Common.{◌∙◌}
use Rattle.dr_log.proofs.Copying.{page_left, none_left}
use Rattle.dr_log.proofs.rounds.next_to_copy.Goals as goal

pub returns-in-Some : goal.returns-in-Some
returns-in-Some c = λ past h. c.left_at.ensures ∙ page_left c.args.guest.now past c.args.state.now.rounds _ h.are_rounds c.in-Some.is

pub returns-in-None : goal.returns-in-None
returns-in-None c = λ past h. none_left c.args.guest.now past c.args.state.now.rounds h.are_rounds c.in-None.is
