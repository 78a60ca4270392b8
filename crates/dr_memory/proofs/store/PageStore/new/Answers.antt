use Rattle.std.proofs.Common.{◌≡◌, ◌∙◌, ◌++◌, ◌∷◌, [], Option, List, ℕ, ap, sym, arith, replicate}
use Rattle.std.specs.Prelude.{None}
use Rattle.dr_memory.specs.Stores.{shown}
use Rattle.dr_memory.proofs.Shown.{none_shown, none_more}
use Rattle.dr_memory.proofs.store.PageStore.new.Goals as goal

pub loop-page-preserved : goal.loop-page-preserved
loop-page-preserved c =
    c.in_ok-push.ensures.items ∙ ap (λ (xs : List (Option (List ℕ))). xs ++ None ∷ []) c.loop-page.invariant ∙ sym (none_more c.loop-page.page)

pub returns : goal.returns
returns c =
    let all : c.loop-page.page ≡ c.args.count = omega (arith, c.loop-page-test.false, c.loop-page.auto.page-end) in
    ap shown (c.loop-page.invariant ∙ ap (λ n. replicate n None) all) ∙ none_shown c.args.count
