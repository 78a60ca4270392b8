use Rattle.std.proofs.Common.{◌≡◌, ◌+◌, ◌<◌, ◌≤◌, ◌^◌, ◌∙◌, ap, sym, subst, ℕ, List, length, arith}
use Rattle.std.specs.Prelude.{All}
use Rattle.std.proofs.lemmas.Result.{IfOk-weaker}
use Rattle.dr_types.specs.Pages.{page_count}
use Rattle.dr_bitmap.proofs.Counts.{members_few, members_small}
use Rattle.dr_log.proofs.Sets.{dirty_set}
use Rattle.dr_log.proofs.answers.dirty_numbers.Goals as goal

pub returns-clause-pages : goal.returns-clause-pages
returns-clause-pages c = λ past h.
    IfOk-weaker c.member_list.result _ _ (λ pages is.
    is ∙ dirty_set c.args.guest.now past _ _ h.protection_pages h.is_protection.is_dirty)
    c.member_list.ensures

pub returns-clause-small : goal.returns-clause-small
returns-clause-small c =
    let set = c.args.state.now.protection.dirty in
    let few : 0 + length set ≤ 2 ^ 32 = omega (arith, c.args.state.now.protection.dirty_sized, c.requires.protection, c.requires.few_pages) in
    IfOk-weaker c.member_list.result _ _ (λ pages is. subst (λ (xs : List ℕ). All (λ page. page < 2 ^ 32) xs) (sym is) (members_small 0 (2 ^ 32) set few))
    c.member_list.ensures

pub returns-clause-few : goal.returns-clause-few
returns-clause-few c =
    let set = c.args.state.now.protection.dirty in
    let size : length set ≡ page_count c.args.guest.now = omega (arith, c.args.state.now.protection.dirty_sized, c.requires.protection) in
    IfOk-weaker c.member_list.result _ _ (λ pages is. omega (arith, ap length is, members_few 0 set, size)) c.member_list.ensures
