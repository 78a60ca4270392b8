use Rattle.std.proofs.Common.{rules}
use Rattle.dr_state.specs.Spans.{IsUnheld}
use Rattle.dr_state.proofs.throttle_fields.Throttles.take.Goals as goal

pub returns-in-Start : goal.returns-in-Start
returns-in-Start c = λ past are h. rw c.in-Start.is (c.started.ensures c.args.guest.now past h)

pub returns-then-guest-ge1 : goal.returns-then-guest-ge1
returns-then-guest-ge1 c = λ past are h. rw c.in-Synced.is (c.answered.ensures past c.in-Synced.r c.in-Synced.pages are h)

pub returns-else-guest-ge1 : goal.returns-else-guest-ge1
returns-else-guest-ge1 c = λ past are h. rw c.in-Synced.is (c.unlimited.ensures c.args.guest.now past c.in-Synced.r c.in-Synced.pages c.if-guest-ge1.false h)

pub returns-in-Throttled : goal.returns-in-Throttled
returns-in-Throttled c = λ past are h. rw c.in-Throttled.is (c.throttled.ensures c.args.guest.now past c.in-Throttled.us h)

pub returns-in_default : goal.returns-in_default
returns-in_default c = λ past are h.
    let kind : IsUnheld c.args.e.now = search rules in
    c.unseen.ensures c.args.guest.now past c.args.e.now kind h
