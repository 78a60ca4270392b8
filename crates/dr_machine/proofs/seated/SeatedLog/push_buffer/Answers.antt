use Rattle.std.proofs.Common.{◌≡◌, ◌<◌, ◌+◌, arith, sym, rules}
use Rattle.dr_history.specs.Entries.{opens, pushes}
use Rattle.dr_history.specs.Legality.{IsLegalSoFar}
use Rattle.dr_history_law.specs.Room.{unpushed}
use Rattle.dr_turns.specs.Buffers.{pushed_after}
use Rattle.dr_turns_law.proofs.Buffers.{own_pushes, opens_pushed, finds_place}
use Rattle.dr_machine.proofs.Pushing.{next_may_follow}
use Rattle.dr_machine.proofs.seated.SeatedLog.push_buffer.Goals as goal

pub push_next-requires-clause-opened : goal.push_next-requires-clause-opened
push_next-requires-clause-opened g c κs within =
    let v = c.args.v in
    let n = c.loop-n.n in
    let past = c.args.self.now.past in
    let more : n < unpushed v past = search (rules, c.loop-n-test.true, c.unpushed-unpushed.ensures) in
    let pushed : pushes v (pushed_after v n past) ≡ pushes v past + n = own_pushes v n past in
    let opened : opens v (pushed_after v n past) ≡ opens v past = opens_pushed v v n past in
    rw c.loop-n.invariant.past (omega (arith, more, pushed, opened))

pub push_next-requires-clause-place : goal.push_next-requires-clause-place
push_next-requires-clause-place g c κs within =
    let v = c.args.v in
    let n = c.loop-n.n in
    let past = c.args.self.now.past in
    let more : n < unpushed v past = search (rules, c.loop-n-test.true, c.unpushed-unpushed.ensures) in
    let legal : IsLegalSoFar g.N.Name.guest (pushed_after v n past) = rw (sym c.loop-n.invariant.past) c.recall_legal.ensures.legal in
    rw c.loop-n.invariant.past (finds_place g.N.Name.guest past v n c.recall_legal.ensures.valid legal more)

pub push_next-requires-clause-follows : goal.push_next-requires-clause-follows
push_next-requires-clause-follows g c κs within =
    let v = c.args.v in
    let n = c.loop-n.n in
    let past = c.args.self.now.past in
    let more : n < unpushed v past = search (rules, c.loop-n-test.true, c.unpushed-unpushed.ensures) in
    let legal : IsLegalSoFar g.N.Name.guest (pushed_after v n past) = rw (sym c.loop-n.invariant.past) c.recall_legal.ensures.legal in
    rw c.loop-n.invariant.past (next_may_follow g.N.Name.guest past v n c.requires.vcpu c.recall_legal.ensures.valid c.requires.rest legal more)
