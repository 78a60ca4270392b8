use Rattle.dr_log.proofs.Copying.{round_is, no_round}
use Rattle.dr_log.proofs.rounds.answered_round.Goals as goal

pub returns-in-Some : goal.returns-in-Some
returns-in-Some c = λ past h. round_is c.args.guest.now past c.args.state.now.rounds _ h.are_rounds c.in-Some.is

pub returns-in-None : goal.returns-in-None
returns-in-None c = λ past h. no_round c.args.guest.now past c.args.state.now.rounds h.are_rounds c.in-None.is
