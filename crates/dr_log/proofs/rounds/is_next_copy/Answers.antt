use Rattle.std.proofs.Common.{◌∙◌}
use Rattle.dr_log.proofs.Copying.{next_page}
use Rattle.dr_log.proofs.rounds.is_next_copy.Goals as goal

pub returns-in-Some : goal.returns-in-Some
returns-in-Some c = λ past h. c.is_copied_next.ensures ∙ next_page c.args.guest.now past c.args.state.now.rounds _ c.args.r c.args.page h.legal h.are_rounds c.in-Some.is
