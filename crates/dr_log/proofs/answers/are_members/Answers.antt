use Rattle.std.proofs.Common.{◌≡◌, ◌∙◌, ◌≤◌, true, ap, sym, length, get_or, rules}
use Rattle.std.specs.Prelude.{is_none}
use Rattle.dr_bitmap.specs.Members.{members, least_from}
use Rattle.dr_history.specs.Lookback.{is_number}
use Rattle.dr_log.proofs.Sets.{hits, finishes, none_told}
use Rattle.dr_log.proofs.answers.are_members.Goals as goal

pub loop-at-preserved : goal.loop-at-preserved
loop-at-preserved c =
    let comes : is_number (get_or c.args.pages.now c.loop-at.at 0) (least_from c.loop-at.from (members c.args.set.now)) ≡ true =
    search (rules, c.comes_next.ensures.is, c.if-not-comes_next.false) in
    hits c.args.set.now c.args.pages.now c.loop-at.at c.loop-at.from 0 _ c.loop-at-test.true comes c.loop-at.invariant

pub returns : goal.returns
returns c =
    let over : length c.args.pages.now ≤ c.loop-at.at = search (rules, c.loop-at-test.false) in
    none_told c.is_none.result c.next_from.result (sym c.is_none.ensures) ∙ ap is_none c.next_from.ensures.is
    ∙ finishes c.args.set.now c.args.pages.now c.loop-at.at c.loop-at.from _ over c.loop-at.invariant
