use Rattle.std.proofs.Common.{ap, arith}
use Rattle.std.proofs.lemmas.Result.{on_err_weaker}
use Rattle.dr_turns_law.specs.Deposits.{next_deposited}
use Rattle.dr_machine.specs.Views.{MachineView}
use Rattle.dr_machine_law.proofs.Reaping.{counts_resets, others_stay, seat_reset}
use Rattle.dr_machine_law.proofs.reaps.reset_turn.Goals as goal

pub returns-clause-counted : goal.returns-clause-counted
returns-clause-counted g c =
    let old = c.args.machine.now in
    let turn = c.reset_turn-count.ensures in
    counts_resets old.past c.reset_turn-count.new.self.past c.args.v c.reset_turn-count.result (next_deposited c.args.v old.past)
    (λ none. (turn.none none, ap (λ (s : MachineView). s.past) (turn.stays none))) turn.one turn.appended

pub returns-clause-others : goal.returns-clause-others
returns-clause-others g c = λ u ne.
    let old = c.args.machine.now in
    let turn = c.reset_turn-count.ensures in
    others_stay old.past c.reset_turn-count.new.self.past c.args.v u c.reset_turn-count.result (next_deposited c.args.v old.past) ne
    (λ none. ap (λ (s : MachineView). s.past) (turn.stays none)) turn.appended (on_err_weaker c.reset_turn-count.result (λ same. ap (λ (s : MachineView). s.past) same) turn.err)

pub returns-clause-seat : goal.returns-clause-seat
returns-clause-seat g c = seat_reset g.N.Name.guest c.reset_turn-count.new.self.past c.reset_turn-count.new.self.seats c.args.v (omega (arith, c.requires, c.recall_kept.ensures.one_each)) c.recall_kept.ensures.seats
