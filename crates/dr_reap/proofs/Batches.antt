-- What a collector harvests with the machine's notes is what rests of each vCPU.
use Rattle.std.proofs.Common.{◌≡◌, ℕ, zero, suc, ◌+◌, ◌-◌, ◌<◌, ◌≤◌, List, [], ◌∷◌, drop, length, refl, ap, sym, subst, ◌∙◌, arith, ◌⊎◌, All, slice_get, Option, Some, None}
use Rattle.std.proofs.lemmas.Bool.{eq-eqb, ne_eqb}
use Rattle.std.proofs.lemmas.List.{length-drop}
use Rattle.std.proofs.lemmas.Option.{same_Some}
use mathlib.Core.List.{IsPrefix}
use Rattle.dr_types.specs.declared.guest.Guest.{Guest}
use Rattle.dr_types.specs.declared.entry.Entry.{Entry}
use Rattle.dr_types.specs.Scripts.{vcpu_count}
use Rattle.dr_history.specs.declared.event.Event.{Event}
use Rattle.dr_history.specs.Entries.{pushes}
use Rattle.dr_history.specs.Legality.{IsLegalSoFar}
use Rattle.dr_ring.specs.Seats.{NoteView}
use Rattle.dr_ring.proofs.Fronts.{prefix_length}
use Rattle.dr_ring_set.specs.Batches.{BatchView}
use Rattle.dr_ring_set.specs.Seated.{IfAt}
use Rattle.dr_collector.specs.Collected.{Collected}
use Rattle.dr_collector.specs.Batched.{IsBatchOf}
use Rattle.dr_collector.proofs.Seating.{is_there, all_at}
use Rattle.dr_schedule_law.specs.Settled.{Range, range_of, of_vcpu}
use Rattle.dr_schedule_law.specs.Reaps.{AreFirstDeposited, AreDepositedUpTo}
use Rattle.dr_reap.specs.Harvests as harvests
use Rattle.dr_reap.specs.Harvests.{AreHarvested, IsPart, handed_out, handed_of}
use Rattle.dr_reap.proofs.Places.{reaches_pushes}

-- by the numbers alone
pub in_numbers : (guest : Guest) (past : List Event) (collected : List Collected)
    → harvests.AllDeposited guest past collected → AreDepositedUpTo guest (handed_of collected) past
in_numbers guest past collected it = record {
  each = λ v lt.
      let at = it.each v lt in
      subst (λ (o : Option Collected). AreFirstDeposited v (handed_out o) past) (sym at.1) at.2;
}

-- and back, where there is a seat for each vCPU
pub in_seats : (guest : Guest) (past : List Event) (collected : List Collected)
    → length collected ≡ vcpu_count guest → AreDepositedUpTo guest (handed_of collected) past
    → harvests.AllDeposited guest past collected
in_seats guest past collected all it = record {
  each = λ v lt.
      let at = is_there collected v (omega (arith, lt, all)) in (
        at.0,
        at.1,
        subst (λ (o : Option Collected). AreFirstDeposited v (handed_out o) past) at.1
            (it.each v lt),
      );
}

range_is : (v w first : ℕ) (entries harvested : List Entry) (c d : ℕ) → w ≡ v → first ≡ c
    → entries ≡ drop first harvested → d ≡ length harvested
    → range_of w first (length entries) ≡ range_of v c (d - c)
range_is v w first entries harvested c d vcpu at are handed =
    let count : length entries ≡ d - c = ap length are ∙ length-drop first harvested
    ∙ ap (λ (n : ℕ). n - first) (sym handed) ∙ ap (λ (n : ℕ). d - n) at in
    ap (λ (u : ℕ). range_of u first (length entries)) vcpu
    ∙ ap (λ (n : ℕ). range_of v n (length entries)) at ∙ ap (range_of v c) count

-- what was harvested of one vCPU after a note is such a range
pub part_case : (guest : Guest) (v : ℕ) (past : List Event) (old new : List Collected) (c d : Collected)
    (b : BatchView) (r : Range) (noted size : ℕ) → IsLegalSoFar guest past
    → AreFirstDeposited v c.handed past → c.handed ≤ length c.seat.harvested
    → slice_get old v ≡ Some c → slice_get new v ≡ Some d → r ≡ range_of b.vcpu b.first (length b.entries)
    → b.vcpu ≡ v → b.first ≡ c.handed → b.entries ≡ drop b.first d.seat.harvested
    → d.handed ≡ length d.seat.harvested → IsPrefix c.seat.harvested d.seat.harvested
    → size ≡ guest.settings.ring → noted ≡ pushes v past
    → (noted ≤ b.first + length b.entries) ⊎ (length b.entries ≡ size) → IsPart v past old new r
part_case guest v past old new c d b r noted size legal deposited within here there is vcpu first entries
    handed kept same seen told =
    let before : handed_of old v ≡ c.handed = ap handed_out here in
    let after : handed_of new v ≡ d.handed = ap handed_out there in
    let longer : length c.seat.harvested ≤ length d.seat.harvested = prefix_length c.seat.harvested
    d.seat.harvested kept in
    let count : length b.entries ≡ length d.seat.harvested - b.first = ap length entries
    ∙ length-drop b.first d.seat.harvested in
    let on : handed_of old v ≤ handed_of new v = omega (arith, before, after, within, longer, handed) in
    let reached : pushes v past ≤ b.first + length b.entries = reaches_pushes guest past v b.first
    (length b.entries) noted size legal
    (subst (λ (n : ℕ). AreFirstDeposited v n past) (sym first) deposited) same seen told in
    record {
      range = is ∙ range_is v b.vcpu b.first b.entries d.seat.harvested (handed_of old v)
          (handed_of new v) vcpu (first ∙ sym before) entries (after ∙ handed);
      onward = on;
      whole = omega (arith, reached, count, first, before, after, handed, within, longer);
    }

-- a batch of a harvest with a note is such a range
pub batch_part : (guest : Guest) (v : ℕ) (past : List Event) (old new : List Collected) (c d : Collected)
    (n : NoteView) (b : BatchView) (r : Range) (size : ℕ) → IsLegalSoFar guest past
    → harvests.AllDeposited guest past old → v < vcpu_count guest
    → All (λ (x : Collected). x.handed ≤ length x.seat.harvested) old
    → slice_get old v ≡ Some c → slice_get new v ≡ Some d → r ≡ range_of b.vcpu b.first (length b.entries)
    → IsBatchOf size v (Some n) c d b → size ≡ guest.settings.ring → length n.entries ≡ pushes v past
    → IsPart v past old new r
batch_part guest v past old new c d n b r size legal first lt within here there is of same seen =
    let at = first.each v lt in
    let c_is : at.0 ≡ c = same_Some at.0 c (sym at.1 ∙ here) in
    part_case guest v past old new c d b r (length n.entries) size legal
    (subst (λ (x : Collected). AreFirstDeposited v x.handed past) c_is at.2)
    (all_at (λ (x : Collected). x.handed ≤ length x.seat.harvested) old v c within here) here there is
    of.vcpu of.first of.entries of.handed of.kept same seen of.told

-- where the range at each place is of the vCPU with that number, each vCPU has that one
record AreCounted (first : ℕ) (rs : List Range) : Type 0 where
  pub each : (i : ℕ) (r : Range) → slice_get rs i ≡ Some r → r.vcpu ≡ first + i

counted_rest : (first : ℕ) (r : Range) (rs : List Range) → AreCounted first (r ∷ rs)
    → AreCounted (suc first) rs
counted_rest first r rs are = record { each = λ i q at. are.each (suc i) q at ∙ omega arith }

counted_first : (first : ℕ) (r : Range) (rs : List Range) → AreCounted first (r ∷ rs) → r.vcpu ≡ first
counted_first first r rs are = are.each 0 r refl ∙ omega arith

none_before : (first v : ℕ) (rs : List Range) → AreCounted first rs → v < first → of_vcpu v rs ≡ []
none_before first v [] are lt = refl
none_before first v (r ∷ rs) are lt =
    rw (ne_eqb r.vcpu v (λ e. let c = counted_first first r rs are in omega (arith, e, c, lt)))
    (none_before (suc first) v rs (counted_rest first r rs are) (omega (arith, lt)))

one_from : (first i : ℕ) (rs : List Range) (r : Range) → AreCounted first rs → slice_get rs i ≡ Some r
    → of_vcpu (first + i) rs ≡ r ∷ []
one_from first i [] r are at = absurd cc
one_from first zero (q ∷ rs) r are at =
    let here : q.vcpu ≡ first + 0 = are.each 0 q refl in
    rw (eq-eqb q.vcpu (first + 0) here)
    (rw (none_before (suc first) (first + 0) rs (counted_rest first q rs are) (omega arith))
    (ap (λ (x : Range). x ∷ []) (same_Some q r at)))
one_from first (suc i) (q ∷ rs) r are at =
    let next : suc first + i ≡ first + suc i = omega arith in
    rw (ne_eqb q.vcpu (first + suc i)
    (λ e. let here : q.vcpu ≡ first = counted_first first q rs are in omega (arith, e, here)))
    (ap (λ (v : ℕ). of_vcpu v rs) (sym next) ∙ one_from (suc first) i rs r (counted_rest first q rs are) at)

part_vcpu : (v : ℕ) (past : List Event) (old new : List Collected) (r : Range) → IsPart v past old new r
    → r.vcpu ≡ v
part_vcpu v past old new r part = ap (λ (x : Range). x.vcpu) part.range

-- one such range of each vCPU, in their order
pub all_harvested : (guest : Guest) (past : List Event) (old new : List Collected) (rs : List Range)
    → length rs ≡ vcpu_count guest → ((v : ℕ) → IfAt rs v (IsPart v past old new))
    → AreHarvested guest None (handed_of old) (handed_of new) rs past
all_harvested guest past old new rs all parts =
    let counted : AreCounted 0 rs = record
    { each = λ i r at. part_vcpu i past old new r (parts i r at) ∙ omega arith } in
    let here = λ (v : ℕ) (lt : v < vcpu_count guest). is_there rs v (omega (arith, lt, all)) in
    record {
      each = λ v lt.
          let at = here v lt in
          ap (λ (u : ℕ). of_vcpu u rs) (let zero_on : v ≡ 0 + v = omega arith in zero_on)
          ∙ one_from 0 v rs at.0 counted at.1
          ∙ ap (λ (r : Range). r ∷ []) (parts v at.0 at.1).range;
      onward = λ v lt. let at = here v lt in (parts v at.0 at.1).onward;
      whole = λ v lt is. let at = here v lt in (parts v at.0 at.1).whole;
      others = λ v lt is. absurd cc;
    }
