-- What the event of an op leaves.
use Rattle.std.proofs.Common.{◌≡◌, ◌≢◌, ℕ, ◌+◌, Bool, true, false, cond, List, ◌∷◌, Some, refl, ap, sym, ◌∙◌}
use Rattle.std.specs.Prelude.{◌==◌, ◌||◌}
use Rattle.std.proofs.lemmas.Bool.{eq-eqb, ne_eqb}
use Rattle.dr_history.specs.declared.event.Event.{Event}
use Rattle.dr_history.specs.declared.event.Event.TheVariants.{Read, Write, Paint, Local, Halted}
use Rattle.dr_history.specs.Execution.{ops}
use Rattle.dr_history.specs.Protection.{started, opened_last, cached, closing}
use Rattle.dr_history.specs.Rules.{vcpu_of_op}
use Rattle.dr_history.specs.Vcpus.{in_guest}

-- what the event of a vCPU's op leaves of what it was before
pub record OpLeaves (v : ℕ) (past : List Event) (e : Event) : Type 0 where
  pub started_stays : started (e ∷ past) ≡ started past
  pub counts : (u : ℕ) → ops u (e ∷ past) ≡ cond (v == u) (ops u past + 1) (ops u past)
  pub enters : in_guest v (e ∷ past) ≡ true
  pub cached_stays : (u page : ℕ) → cached u page (e ∷ past) ≡ cached u page past
  pub opened_stays : (page : ℕ) → opened_last page (e ∷ past) ≡ opened_last page past
  pub closing_stays : (page : ℕ) → closing page (e ∷ past) ≡ closing page past

own : (w v : ℕ) (had : Bool) → w ≡ v → (w == v || had) ≡ true
own w v had same = rw (eq-eqb w v same) refl

named : (w v u n : ℕ) → w ≡ v → cond (w == u) (n + 1) n ≡ cond (v == u) (n + 1) n
named w v u n same = ap (λ (x : ℕ). cond (x == u) (n + 1) n) same

-- each op's event leaves the same
pub op_leaves : (v : ℕ) (past : List Event) (e : Event) → vcpu_of_op e ≡ Some v → OpLeaves v past e
op_leaves v past (Read w i space a x) is = let same : w ≡ v = cc in
    record { started_stays = refl; counts = λ u. named w v u (ops u past) same; enters = own w v (in_guest v past) same; cached_stays = λ u page. refl; opened_stays = λ page. refl; closing_stays = λ page. refl }
op_leaves v past (Write w i space a l x) is = let same : w ≡ v = cc in
    record { started_stays = refl; counts = λ u. named w v u (ops u past) same; enters = own w v (in_guest v past) same; cached_stays = λ u page. refl; opened_stays = λ page. refl; closing_stays = λ page. refl }
op_leaves v past (Paint w i q b) is = let same : w ≡ v = cc in
    record { started_stays = refl; counts = λ u. named w v u (ops u past) same; enters = own w v (in_guest v past) same; cached_stays = λ u page. refl; opened_stays = λ page. refl; closing_stays = λ page. refl }
op_leaves v past (Local w i) is = let same : w ≡ v = cc in
    record { started_stays = refl; counts = λ u. named w v u (ops u past) same; enters = own w v (in_guest v past) same; cached_stays = λ u page. refl; opened_stays = λ page. refl; closing_stays = λ page. refl }
op_leaves v past (Halted w i) is = let same : w ≡ v = cc in
    record { started_stays = refl; counts = λ u. named w v u (ops u past) same; enters = own w v (in_guest v past) same; cached_stays = λ u page. refl; opened_stays = λ page. refl; closing_stays = λ page. refl }
op_leaves v past e is = cc

one_more : (same : Bool) (n : ℕ) → same ≡ true → cond same (n + 1) n ≡ n + 1
one_more same n is = rw is refl

no_more : (same : Bool) (n : ℕ) → same ≡ false → cond same (n + 1) n ≡ n
no_more same n is = rw is refl

-- the vCPU has executed one op more
pub counts_own : (v : ℕ) (past : List Event) (e : Event) → vcpu_of_op e ≡ Some v → ops v (e ∷ past) ≡ ops v past + 1
counts_own v past e is = (op_leaves v past e is).counts v ∙ one_more (v == v) (ops v past) (eq-eqb v v refl)

-- and each other as many as before
pub counts_others : (v u : ℕ) (past : List Event) (e : Event) → vcpu_of_op e ≡ Some v → u ≢ v → ops u (e ∷ past) ≡ ops u past
counts_others v u past e is ne = (op_leaves v past e is).counts u ∙ no_more (v == u) (ops u past) (ne_eqb v u (λ h. ne (sym h)))
