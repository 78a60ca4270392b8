use Rattle.std.proofs.Common.{◌≤◌, sym, subst, ℕ, arith}
use Rattle.dr_history.specs.Entries.{pushes}
use Rattle.dr_turns_law.specs.Deposits.{FirstDeposited}
use Rattle.dr_turns_law.proofs.Reach.{resets_are_deposited, unpushed_undeposited}
use Rattle.dr_log_turns.proofs.numbers.first_missing.Goals as goal

pub loop-k-init : goal.loop-k-init
loop-k-init c =
    subst (λ (n : ℕ). FirstDeposited c.args.v n c.args.log.now.past) (sym c.resets-k.ensures)
    (resets_are_deposited c.args.log.now.guest c.args.log.now.past c.args.v c.recall_legal.ensures.legal)

pub returns-clause-here : goal.returns-clause-here
returns-clause-here c =
    let le : pushes c.args.v c.args.log.now.past ≤ c.pushes-pushes.result = (let e = c.pushes-pushes.ensures in omega (arith, e)) in
    unpushed_undeposited c.args.log.now.guest c.args.log.now.past c.args.v c.pushes-pushes.result c.recall_legal.ensures.legal le
