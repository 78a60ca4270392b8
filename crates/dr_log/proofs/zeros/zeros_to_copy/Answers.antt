use Rattle.dr_log.proofs.Leaving.{zeros_told}
use Rattle.dr_log.proofs.zeros.zeros_to_copy.Goals as goal

pub returns-in-Some : goal.returns-in-Some
returns-in-Some c = λ past h.
    zeros_told c.args.guest.now past c.args.state.now _ c.args.page c.zeros_from.result _ h c.in-Some.is c.left_of.ensures (c.zeros_from.ensures past h)
