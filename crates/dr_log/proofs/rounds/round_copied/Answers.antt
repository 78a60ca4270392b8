use Rattle.std.proofs.Common.{◌∙◌}
use Rattle.dr_log.proofs.Copying.{copied_round}
use Rattle.dr_log.proofs.rounds.round_copied.Goals as goal

pub returns-in-Some : goal.returns-in-Some
returns-in-Some c = λ past h. c.is_copied.ensures ∙ copied_round c.args.guest.now past c.args.state.now.rounds _ h.legal h.are_rounds c.in-Some.is
