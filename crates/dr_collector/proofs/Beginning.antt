-- Seats that harvested nothing, of which nothing is pending.
use Rattle.std.proofs.Common.{◌≡◌, ℕ, zero, suc, ◌+◌, List, [], ◌∷◌, ◌++◌, map, length, drop, refl, ap, sym, ◌∙◌, arith, length-append, All, Some, slice_get, ⊎_elim}
use Rattle.atomic_table.specs.Seated.{TableId}
use Rattle.dr_ring.specs.Seats.{UserView}
use Rattle.dr_ring.proofs.Places.{slice_get-push}
use Rattle.dr_ring_set.specs.Seated.{ring_of_user}
use Rattle.dr_collector.specs.Collected.{begun}
use Rattle.dr_collector.specs.Pending.{PendingView, all_collected, ArePending}
use Rattle.dr_collector.proofs.Seating.{all_at}

-- so many of which nothing is pending and nothing went out
pub record AreNothing (n : ℕ) (ps : List PendingView) : Type 0 where
  pub count : length ps ≡ n
  pub each : (v : ℕ) (p : PendingView) → slice_get ps v ≡ Some p → (p.handed ≡ 0) × (p.entries ≡ [])

pub none_is_nothing : AreNothing 0 []
none_is_nothing = record { count = refl; each = λ v p at. absurd cc }

-- one more
pub nothing_more : (n : ℕ) (ps : List PendingView) (p : PendingView) → AreNothing n ps → p.handed ≡ 0 → p.entries ≡ [] → AreNothing (n + 1) (ps ++ p ∷ [])
nothing_more n ps p are handed entries = record {
  count = length-append ps (p ∷ []) ∙ ap (λ (k : ℕ). k + 1) are.count;
  each = λ v q at. ⊎_elim
      (λ (old : slice_get ps v ≡ Some q). are.each v q old)
      (λ (new : (v ≡ length ps) × (p ≡ q)). (ap (λ (x : PendingView). x.handed) (sym new.1) ∙ handed, ap (λ (x : PendingView). x.entries) (sym new.1) ∙ entries))
      (slice_get-push ps p q v at);
}

-- a collector begins with them
pub nothing_pending : (rings : List TableId) (ss : List UserView) (ps : List PendingView) (n : ℕ) → map ring_of_user ss ≡ rings → n ≡ length ss → All (λ s. s.harvested ≡ []) ss → AreNothing n ps → ArePending rings ss ps
nothing_pending rings ss ps n named count empty are = record {
  named = named;
  count = are.count ∙ count;
  each = λ v s p seat at.
      let none : s.harvested ≡ [] = all_at (λ (u : UserView). u.harvested ≡ []) ss v s empty seat in
      let nothing = are.each v p at in
      let handed : p.handed ≡ 0 = nothing.0 in
      let entries : p.entries ≡ [] = nothing.1 in record {
        within = omega (arith, handed);
        entries = entries ∙ (λ i. drop (sym handed i) (sym none i));
        fits = let count : length p.entries ≡ 0 = ap length entries in omega (arith, count);
      };
}

pub nothing_collected : (ss : List UserView) (ps : List PendingView) → length ps ≡ length ss → ((v : ℕ) (p : PendingView) → slice_get ps v ≡ Some p → (p.handed ≡ 0) × (p.entries ≡ [])) → all_collected ss ps ≡ map begun ss
nothing_collected [] ps count each = refl
nothing_collected (s ∷ ss) [] count each = absurd (omega arith)
nothing_collected (s ∷ ss) (p ∷ ps) count each =
    let handed : p.handed ≡ 0 = (each zero p refl).0 in
    let rest : all_collected ss ps ≡ map begun ss = nothing_collected ss ps (omega arith) (λ v q at. each (suc v) q at) in
    λ i. record { seat = s; handed = handed i } ∷ rest i
