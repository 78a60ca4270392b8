use Rattle.dr_turns_law.proofs.Whole.{advance_ends}
use Rattle.dr_log_turns.specs.Throttled.{FollowThrottles}
use Rattle.dr_log_turns.proofs.Throttling.{throttles_advance}
use Rattle.dr_machine.proofs.machine.Machine.make_advance.Goals as goal

pub invariant_of-self-2 : goal.invariant_of-self-2
invariant_of-self-2 g c =
    let guest = g.N.Name.guest in
    let past = c.self.inside.seated.past in
    let new = c.advance.new.self.past in
    let follow : FollowThrottles guest new c.in_ok-due.due c.self.inside.throttles c.follow.new.self = rw (← c.log.ensures.guest, ← c.log.ensures.past) c.follow.ensures in (
      rw c.in_ok-due.ensures.appended (advance_ends guest c.args.now past c.recall_legal.ensures.legal c.self.invariant.0),
      throttles_advance guest c.args.now past new c.in_ok-due.due c.self.inside.throttles c.follow.new.self c.self.invariant.1 c.in_ok-due.ensures.answer c.in_ok-due.ensures.appended follow,
    )
