use Rattle.std.proofs.Common.{◌<◌, ◌∙◌, ap, sym, ℕ, arith}
use Rattle.std.specs.List.{list_any}
use Rattle.dr_history.specs.Entries.{pushes}
use Rattle.dr_history.specs.Rules.{deposits_some}
use Rattle.dr_turns_law.proofs.Reach.{some_from, none_from}
use Rattle.dr_log_turns.proofs.numbers.some_from.Goals as goal

pub returns-then-n-pushes-clause-some : goal.returns-then-n-pushes-clause-some
returns-then-n-pushes-clause-some c found =
    let log = c.args.log.now in
    let to = c.pushes-pushes.ensures in
    let lt : c.args.n < pushes c.args.v log.past = (let h = c.if-n-pushes.true in omega (arith, h, to)) in
    some_from log.guest log.past c.args.v c.args.n c.recall_legal.ensures.legal lt
    (ap (λ (m : ℕ). list_any (deposits_some c.args.v c.args.n m) log.past) (sym to) ∙ sym c.some_deposited.ensures ∙ found)

pub returns-then-n-pushes-clause-none : goal.returns-then-n-pushes-clause-none
returns-then-n-pushes-clause-none c no_one =
    let log = c.args.log.now in
    let to = c.pushes-pushes.ensures in
    let lt : c.args.n < pushes c.args.v log.past = (let h = c.if-n-pushes.true in omega (arith, h, to)) in
    none_from log.guest log.past c.args.v c.args.n c.recall_legal.ensures.legal lt
    (ap (λ (m : ℕ). list_any (deposits_some c.args.v c.args.n m) log.past) (sym to) ∙ sym c.some_deposited.ensures ∙ no_one)
