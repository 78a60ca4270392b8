-- Events that come after others.
use Rattle.std.proofs.Common.{◌≡◌, ℕ, zero, suc, ◌+◌, ◌<◌, ◌≤◌, true, List, [], ◌∷◌, ◌++◌, length, refl, ap, sym, subst, ◌∙◌, arith, inl, inr, append_assoc, length-append}
use Rattle.std.specs.Prelude.{Option}
use Rattle.std.proofs.lemmas.Bool.{cases_lt}
use Rattle.dr_types.specs.declared.guest.Guest.{Guest}
use Rattle.dr_history.specs.declared.event.Event.{Event}
use Rattle.dr_history.specs.Entries.{resets, used}
use Rattle.dr_history.specs.declared.event.Event.TheVariants.{Deposited, Reset, Flushed}
use Rattle.dr_turns_law.specs.Deposits.{first_twice, next_deposited}
use Rattle.dr_schedule_law.specs.Settled.{Range, fresh_after, deposited_one, deposited_all, reset_after, flushed}
use Rattle.dr_schedule_law.specs.Reaps.{Extends, reset_while, all_reset_below, reaped}
use Rattle.dr_schedule_law.proofs.Reaping.{by_test, by_reset_while, by_flushed, by_reaped}
use Rattle.dr_schedule_law.proofs.Resetting.{reset_first}

-- no event came
pub extends_still : (past : List Event) → Extends past past
extends_still past = record { more = []; parts = refl }

-- one more came
pub extends_more : (old new : List Event) (e : Event) → Extends old new → Extends old (e ∷ new)
extends_more old new e it = record { more = e ∷ it.more; parts = ap (λ (xs : List Event). e ∷ xs) it.parts }

-- some came, and then some more
pub extends_then : (old mid new : List Event) → Extends old mid → Extends mid new → Extends old new
extends_then old mid new before after = record {
  more = after.more ++ before.more;
  parts = after.parts ∙ ap (λ (xs : List Event). after.more ++ xs) before.parts
      ∙ sym (append_assoc after.more before.more old);
}

-- there are no fewer events
pub extends_longer : (old new : List Event) → Extends old new → length old ≤ length new
extends_longer old new it =
    let total : length new ≡ length (it.more ++ old) = ap length it.parts in
    omega (arith, total, length-append it.more old)

more_case : (old more : List Event) → (more ++ old ≡ old → ⊥) → length old < length (more ++ old)
more_case old [] differ = absurd (differ refl)
more_case old (e ∷ more) differ = omega (arith, length-append more old)

-- there are more, where the events are others
pub extends_strictly : (old new : List Event) → Extends old new → (new ≡ old → ⊥) → length old < length new
extends_strictly old new it differ =
    subst (λ (xs : List Event). length old < length xs) (sym it.parts)
    (more_case old it.more (λ e. differ (it.parts ∙ e)))

fresh_extends : (r : Range) (o : Option ℕ) (past : List Event) → Extends past (fresh_after r o past)
fresh_extends r Option.None past =
    extends_more past past (Deposited r.vcpu r.first (r.first + r.count)) (extends_still past)
fresh_extends r (Option.Some k) past = extends_still past

-- deposits extend the events
pub deposits_extend : (rs : List Range) (past : List Event) → Extends past (deposited_all rs past)
deposits_extend [] past = extends_still past
deposits_extend (r ∷ rs) past =
    extends_then past (deposited_one r past) (deposited_all rs (deposited_one r past))
    (by_test (Extends past) _ past
    (fresh_after r (first_twice r.vcpu r.first past (r.first + r.count)) past) (extends_still past)
    (fresh_extends r (first_twice r.vcpu r.first past (r.first + r.count)) past))
    (deposits_extend rs (deposited_one r past))

-- .. the resets of one vCPU do
pub resets_extend : (v n : ℕ) (past : List Event) → Extends past (reset_while v n past)
resets_extend v n past =
    by_reset_while (Extends past) v n past (extends_still past) (λ w k xs. extends_more past xs (Reset w k))

-- .. those of more vCPUs those of fewer
pub below_extends : (n m : ℕ) (past : List Event) → n ≤ m
    → Extends (all_reset_below n past) (all_reset_below m past)
below_extends n zero past le =
    let e : 0 ≡ n = omega (arith, le) in subst (λ (k : ℕ). Extends (all_reset_below k past) past) e
    (extends_still past)
below_extends n (suc m) past le =
    elim (cases_lt m n) [
      | inl l ↦ let e : suc m ≡ n = omega (arith, le, l) in
          subst (λ (k : ℕ). Extends (all_reset_below k past) (all_reset_below (suc m) past)) e
          (extends_still (all_reset_below (suc m) past))
      | inr g ↦
          extends_then (all_reset_below n past) (all_reset_below m past) (all_reset_below (suc m) past)
          (below_extends n m past g)
          (resets_extend m (used m (all_reset_below m past)) (all_reset_below m past))
    ]

-- .. a flush does
pub flush_extends : (guest : Guest) (past : List Event) → Extends past (flushed guest past)
flush_extends guest past =
    by_flushed (Extends past) guest past (extends_still past)
    (extends_more past past Flushed (extends_still past))

-- .. and so does a reap
pub reap_extends : (guest : Guest) (whose : Option ℕ) (past : List Event)
    → Extends past (reaped guest whose past)
reap_extends guest whose past =
    by_reaped (Extends past) guest whose past (extends_still past) (λ e xs is. extends_more past xs e)

-- the resets of a vCPU extend some first ones of them
pub while_extends : (v n fuel : ℕ) (past : List Event)
    → ((k : ℕ) → k < n → next_deposited v (reset_after v k past) ≡ true) → n ≤ fuel
    → Extends (reset_after v n past) (reset_while v fuel past)
while_extends v zero fuel past due le = resets_extend v fuel past
while_extends v (suc n) zero past due le = absurd (omega (arith, le))
while_extends v (suc n) (suc fuel) past due le =
    rw (due 0 (omega arith))
    (subst (λ (xs : List Event). Extends xs (reset_while v fuel (Reset v (resets v past) ∷ past)))
    (sym (reset_first v n past))
    (while_extends v n fuel (Reset v (resets v past) ∷ past)
    (λ k lt. ap (next_deposited v) (sym (reset_first v k past)) ∙ due (suc k) (omega (arith, lt)))
    (omega (arith, le))))
