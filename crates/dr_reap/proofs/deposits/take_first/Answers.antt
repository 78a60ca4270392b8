use Rattle.std.proofs.Common.{◌≡◌, ◌<◌, ◌∙◌, ◌==◌, ◌∷◌, true, length, ap, sym, subst, arith}
use Rattle.std.proofs.lemmas.Bool.{eq-eqb}
use Rattle.dr_schedule_law.specs.Settled.{range_of, of_vcpu}
use Rattle.dr_reap.proofs.Ranges.{first_taken, others_stay, same_at, not_other}
use Rattle.dr_reap.specs.Batches.{ranges_of}
use Rattle.dr_reap.proofs.deposits.take_first.Goals as goal

pub returns-then-index-v-clause-some : goal.returns-then-index-v-clause-some
returns-then-index-v-clause-some g c =
    let lt : c.loop-i.i < length c.loop-i.batches.items = omega arith in
    let same : c.index.result.now ≡ c.remove.result = c.index.ensures ∙ same_at c.loop-i.batches.items c.loop-i.i c.index.result.now c.remove.result lt ∙ sym c.remove.ensures.value in
    let is : (c.remove.result.vcpu == c.args.v) ≡ true = eq-eqb c.remove.result.vcpu c.args.v (subst (λ b. b.vcpu ≡ c.args.v) same c.if-index-v.true) in
    ap (λ xs. of_vcpu c.args.v (ranges_of xs)) (sym c.loop-i.invariant.0)
    ∙ first_taken (λ b. range_of b.vcpu b.first (length b.entries)) c.args.v c.loop-i.i c.loop-i.batches.items c.remove.result c.remove.ensures.value lt c.loop-i.invariant.1 is
    ∙ ap (λ xs. range_of c.remove.result.vcpu c.remove.result.first (length c.remove.result.entries) ∷ of_vcpu c.args.v (ranges_of xs)) (sym c.remove.ensures.items)

pub returns-then-index-v-clause-others : goal.returns-then-index-v-clause-others
returns-then-index-v-clause-others g c w not =
    let lt : c.loop-i.i < length c.loop-i.batches.items = omega arith in
    let same : c.index.result.now ≡ c.remove.result = c.index.ensures ∙ same_at c.loop-i.batches.items c.loop-i.i c.index.result.now c.remove.result lt ∙ sym c.remove.ensures.value in
    let is : (c.remove.result.vcpu == c.args.v) ≡ true = eq-eqb c.remove.result.vcpu c.args.v (subst (λ b. b.vcpu ≡ c.args.v) same c.if-index-v.true) in
    ap (λ xs. of_vcpu w (ranges_of xs)) c.remove.ensures.items
    ∙ others_stay (λ b. range_of b.vcpu b.first (length b.entries)) w c.loop-i.i c.loop-i.batches.items c.remove.result c.remove.ensures.value lt (not_other c.remove.result.vcpu c.args.v w is not)
    ∙ ap (λ xs. of_vcpu w (ranges_of xs)) c.loop-i.invariant.0
