-- A harvest of one vCPU: what was pending and what was harvested go out together.
use Rattle.std.proofs.Common.{◌≡◌, ◌⊎◌, ℕ, ◌+◌, ◌-◌, ◌≤◌, true, List, length, drop, set, refl, ap, sym, ◌∙◌, subst, arith, inl, inr, length-drop, Option, Some, None, IfSome, slice_get}
use mathlib.Core.List.{IsPrefix}
use Rattle.dr_ring.specs.Seats.{NoteView, UserView, user_note}
use Rattle.dr_ring_set.specs.Seated.{MovesAt}
use Rattle.dr_ring_set.specs.Batches.{BatchView}
use Rattle.dr_ring_set.proofs.Batches.{seat_written}
use Rattle.dr_collector.specs.Collected.{Collected, learnt, Harvests, Stops}
use Rattle.dr_collector.specs.Batched.{IsBatchOf}
use Rattle.dr_collector.specs.Pending.{Gathers, HandsOut}
use Rattle.dr_collector.proofs.Seating.{set_again}

told_out : (size harvested first count : ℕ) (seen : Option NoteView) → harvested ≡ first + count → IfSome seen (λ n. (length n.entries ≤ harvested) ⊎ (harvested ≡ first + size)) → IfSome seen (λ n. (length n.entries ≤ first + count) ⊎ (count ≡ size))
told_out size harvested first count None is told = tt
told_out size harvested first count (Some n) is told = elim told [ inl le ↦ inl (omega arith) | inr e ↦ inr (omega arith) ]

one_out : (size v : ℕ) (seen : Option NoteView) (c m d : Collected) (b : BatchView) → Gathers size seen true c m → HandsOut v m d b → IsBatchOf size v seen c d b
one_out size v seen c m d b gathers out =
    let within = out.within in
    let most = gathers.most in
    let seat : d.seat ≡ m.seat = out.seat in
    let first : b.first ≡ m.handed = out.first in
    let count : length b.entries ≡ length m.seat.harvested - m.handed = ap length out.entries ∙ length-drop m.handed m.seat.harvested in
    let whole : length m.seat.harvested ≡ b.first + length b.entries = omega arith in record {
      vcpu = out.vcpu;
      first = first ∙ gathers.handed;
      entries = out.entries ∙ (λ i. drop (sym first i) (sym seat i).harvested);
      note = out.note ∙ ap user_note (sym seat);
      handed = out.out ∙ ap (λ (s : UserView). length s.harvested) (sym seat);
      kept = subst (λ (s : UserView). IsPrefix c.seat.harvested s.harvested) (sym seat) gathers.kept;
      most = omega arith;
      few = λ lt. subst (λ (s : UserView). Stops size (learnt seen c.seat) s) (sym seat) (gathers.few refl (omega arith));
      full = λ is. subst (λ (s : UserView). Harvests size (learnt seen c.seat) s) (sym seat) (gathers.full refl (omega (arith, is)));
      told = told_out size (length m.seat.harvested) b.first (length b.entries) seen whole (subst (λ (n : ℕ). IfSome seen (λ w. (length w.entries ≤ length m.seat.harvested) ⊎ (length m.seat.harvested ≡ n + size))) (sym first) (gathers.told refl));
    }

-- what is gathered goes out in one batch
pub goes_out : (size v : ℕ) (seen : Option NoteView) (old mid new : List Collected) (b : BatchView) → MovesAt old mid v (λ c d. Gathers size seen true c d) → MovesAt mid new v (λ c d. HandsOut v c d b) → MovesAt old new v (λ c d. IsBatchOf size v seen c d b)
goes_out size v seen old mid new b gathers out =
    let same : gathers.1 ≡ out.0 = seat_written old v gathers.0 gathers.1 out.0 gathers.2 (subst (λ (xs : List Collected). slice_get xs v ≡ Some out.0) gathers.3 out.2) in (
      gathers.0,
      out.1,
      gathers.2,
      out.3 ∙ ap (λ (xs : List Collected). set xs v out.1) gathers.3 ∙ set_again old v gathers.1 out.1,
      one_out size v seen gathers.0 out.0 out.1 b (subst (λ (m : Collected). Gathers size seen true gathers.0 m) same gathers.4) out.4,
    )
