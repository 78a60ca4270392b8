-- What harvests of one vCPU and of all leave, with the machine's notes, and what settling it leaves.
use Rattle.std.proofs.Common.{◌≡◌, ◌≢◌, ℕ, ◌+◌, ◌<◌, ◌≤◌, List, map, drop, length, refl, ap, sym, subst, ◌∙◌, arith, ◌⊎◌, All, slice_get, Option, Some, None, option_map}
use Rattle.std.specs.Prelude.{Result, Ok, Err, IfOk}
use Rattle.std.proofs.lemmas.List.{length-map}
use Rattle.std.proofs.lemmas.Option.{same_Some, slice_get-map, slice_get_within}
use mathlib.Core.List.{IsPrefix}
use Rattle.atomic_table.specs.Seated.{TableId}
use Rattle.dr_types.specs.declared.guest.Guest.{Guest}
use Rattle.dr_types.specs.declared.entry.Entry.{Entry}
use Rattle.dr_types.specs.Scripts.{vcpu_count}
use Rattle.dr_history.specs.declared.event.Event.{Event}
use Rattle.dr_history.specs.Entries.{pushes}
use Rattle.dr_history.specs.Legality.{IsLegalSoFar}
use Rattle.dr_ring.specs.Seats.{NoteView, IsOfSize}
use Rattle.dr_ring_set.specs.Batches.{BatchView}
use Rattle.dr_ring_set.specs.Seated.{IfAt, HasAt, MovesAt}
use Rattle.dr_collector.specs.Collected.{Collected}
use Rattle.dr_collector.specs.Batched.{IsBatchOf, as_batch}
use Rattle.dr_collector.proofs.Seating.{is_there, all_at, get_set, get_other}
use Rattle.dr_machine.specs.Tied.{AreRingsFor}
use Rattle.dr_schedule_law.specs.Settled.{Range, range_of, Settles}
use Rattle.dr_schedule_law.specs.Reaps.{AreFirstDeposited, Extends, reaped}
use Rattle.dr_schedule_law.proofs.Extending.{extends_still, reap_extends}
use Rattle.dr_reap.specs.Harvests.{AllDeposited, AreHarvested, AreNotes, IsPart, SettlesCut, handed_out, handed_of}
use Rattle.dr_reap.proofs.Batches.{part_case, batch_part, all_harvested, in_numbers, in_seats}
use Rattle.dr_reap.proofs.Harvested.{Reaps, harvest_reaps, harvest_cut, part_grows}

-- the size of all rings is the guest's
pub size_is : (guest : Guest) (rings : List TableId) (v size : ℕ) → AreRingsFor guest rings
    → All (IsOfSize size) rings → v < vcpu_count guest → size ≡ guest.settings.ring
size_is guest rings v size are sizes lt =
    let ring = is_there rings v (let count = are.one_each in omega (arith, lt, count)) in
    let theirs = all_at (IsOfSize size) rings v ring.0 sizes ring.1 in
    let ours = all_at (IsOfSize guest.settings.ring) rings v ring.0 are.sized ring.1 in
    omega (arith, theirs, ours)

-- the range of a batch
abbrev pub range_in : BatchView → Range
range_in b = range_of b.vcpu b.first (length b.entries)

mapped : {X Y : Type 0} (f : X → Y) (xs : List X) (v : ℕ) (y : Y) → slice_get (map f xs) v ≡ Some y
    → (x : X) × (slice_get xs v ≡ Some x) × (y ≡ f x)
mapped f xs v y at =
    let lt : v < length xs =
    (let inside = slice_get_within (map f xs) v y at in omega (arith, inside, length-map xs f)) in
    let there = is_there xs v lt in
    (there.0, there.1, same_Some y (f there.0) (sym at ∙ slice_get-map f xs v ∙ ap (option_map f) there.1))

-- the batches of all vCPUs
pub all_ranges : {X E : Type 0} (view : X → BatchView) (guest : Guest) (past : List Event)
    (rings : List TableId) (size : ℕ) (seen : List NoteView) (old new : List Collected)
    (result : Result (List X) E)
    → IsLegalSoFar guest past → AreRingsFor guest rings → All (IsOfSize size) rings
    → AllDeposited guest past old → All (λ (x : Collected). x.handed ≤ length x.seat.harvested) old
    → AreNotes rings past seen
    → IfOk result (λ bs. length bs ≡ length rings)
    → IfOk result (λ bs. (v : ℕ)
    → IfAt bs v (λ b. HasAt seen v
    (λ n. HasAt old v (λ c. HasAt new v (λ d. IsBatchOf size v (Some n) c d (view b))))))
    → IfOk result (λ bs. AreHarvested guest None (handed_of old) (handed_of new)
    (map (λ b. range_in (view b)) bs) past)
all_ranges view guest past rings size seen old new (Err e) legal are sizes first within notes count each = tt
all_ranges {X} view guest past rings size seen old new (Ok bs) legal are sizes first within notes count each =
    let range = λ (b : X). range_in (view b) in
    let all : length (map range bs) ≡ vcpu_count guest = length-map bs range ∙ count ∙ are.one_each in
    all_harvested guest past old new (map range bs) all (λ v r at.
    let b = mapped range bs v r at in
    let n = each v b.0 b.1 in
    let c = n.2 in
    let d = c.2 in
    let lt : v < vcpu_count guest =
    (let inside = slice_get_within (map range bs) v r at in omega (arith, inside, all)) in
    batch_part guest v past old new c.0 d.0 n.0 (view b.0) r size legal first lt within c.1 d.1 b.2 d.2
    (size_is guest rings v size are sizes lt) (notes.pushed v n.0 n.1))

here : {X : Type 0} (xs : List X) (v : ℕ) (P : X → Type 0) (x : X) → slice_get xs v ≡ Some x → HasAt xs v P
    → P x
here xs v P x at it = subst P (same_Some it.0 x (sym it.1 ∙ at)) it.2

-- the batch of one vCPU
pub one_range : (guest : Guest) (past : List Event) (rings : List TableId) (size v w first : ℕ)
    (entries : List Entry) (note : NoteView) (old new : List Collected)
    → IsLegalSoFar guest past → AreRingsFor guest rings → All (IsOfSize size) rings
    → AllDeposited guest past old → All (λ (x : Collected). x.handed ≤ length x.seat.harvested) old
    → v < vcpu_count guest → length note.entries ≡ pushes v past
    → MovesAt old new v (λ c d. IsPrefix c.seat.harvested d.seat.harvested)
    → w ≡ v
    → HasAt old v (λ c. first ≡ c.handed)
    → HasAt new v (λ d. entries ≡ drop first d.seat.harvested)
    → HasAt new v (λ d. d.handed ≡ length d.seat.harvested)
    → (length note.entries ≤ first + length entries) ⊎ (length entries ≡ size)
    → IsPart v past old new (range_of w first (length entries))
one_range guest past rings size v w first entries note old new legal are sizes step within lt counts moves
    vcpu start drops handed told =
    let c : Collected = moves.0 in
    let d : Collected = moves.1 in
    let was : slice_get old v ≡ Some c = moves.2 in
    let now : slice_get new v ≡ Some d = ap (λ (xs : List Collected). slice_get xs v) moves.3
    ∙ get_set old v c d was in
    part_case guest v past old new c d (as_batch w first entries note) (range_of w first (length entries))
    (length note.entries) size legal
    (here old v (λ (x : Collected). AreFirstDeposited v x.handed past) c was (step.each v lt))
    (all_at (λ (x : Collected). x.handed ≤ length x.seat.harvested) old v c within was) was now refl vcpu
    (here old v (λ (x : Collected). first ≡ x.handed) c was start)
    (here new v (λ (x : Collected). entries ≡ drop first x.seat.harvested) d now drops)
    (here new v (λ (x : Collected). x.handed ≡ length x.seat.harvested) d now handed)
    moves.4 (size_is guest rings v size are sizes lt) counts told

-- and what is handed out of the others stays
pub others_kept : (old new : List Collected) (v : ℕ) (Moves : Collected → Collected → Type 0)
    → MovesAt old new v Moves → (u : ℕ) → u ≢ v → handed_of new u ≡ handed_of old u
others_kept old new v Moves moves u ne = ap (λ (xs : List Collected). handed_of xs u) moves.3
    ∙ ap handed_out (get_other old v u moves.1 ne)

-- where nothing happened
pub none_reaped : (guest : Guest) (whose : Option ℕ) (old new : List Event) → new ≡ old
    → Extends new (reaped guest whose old)
none_reaped guest whose old new same = subst (λ (xs : List Event). Extends xs (reaped guest whose old))
    (sym same) (reap_extends guest whose old)

pub none_begun : (old new : List Event) → new ≡ old → Extends old new
none_begun old new same = subst (Extends old) (sym same) (extends_still old)

-- where all that was harvested is settled
whole : (guest : Guest) (whose : Option ℕ) (old new : List Collected) (rs : List Range)
    (first mid last : List Event) (n : ℕ) → AllDeposited guest first old
    → AreHarvested guest whose (handed_of old) (handed_of new) rs first → mid ≡ first
    → IsLegalSoFar guest mid → IsLegalSoFar guest last → Settles guest rs mid last n
    → Reaps guest whose (handed_of new) first last
whole guest whose old new rs first mid last n step it same =
    subst (λ (xs : List Event). IsLegalSoFar guest xs → IsLegalSoFar guest last
    → Settles guest rs xs last n → Reaps guest whose (handed_of new) first last) (sym same)
    (λ legal after settled. harvest_reaps guest whose (handed_of old)
    (handed_of new) rs first last n legal after (in_numbers guest first old step) it settled)

pub whole_reaped : (guest : Guest) (whose : Option ℕ) (old new : List Collected) (rs : List Range)
    (first mid last : List Event) (n : ℕ) → AllDeposited guest first old
    → AreHarvested guest whose (handed_of old) (handed_of new) rs first → mid ≡ first
    → IsLegalSoFar guest mid → IsLegalSoFar guest last → Settles guest rs mid last n
    → last ≡ reaped guest whose first
whole_reaped guest whose old new rs first mid last n step it same legal after settled =
    (whole guest whose old new rs first mid last n step it same legal after settled).past

pub whole_deposited : (guest : Guest) (whose : Option ℕ) (old new : List Collected) (rs : List Range)
    (first mid last : List Event) (n : ℕ) → AllDeposited guest first old
    → AreHarvested guest whose (handed_of old) (handed_of new) rs first → length new ≡ vcpu_count guest
    → mid ≡ first → IsLegalSoFar guest mid → IsLegalSoFar guest last → Settles guest rs mid last n
    → AllDeposited guest last new
whole_deposited guest whose old new rs first mid last n step it all same legal after settled = in_seats guest
    last new all (whole guest whose old new rs first mid last n step it same legal after settled).step

-- where the settling is cut off
pub part_reaped : (guest : Guest) (whose : Option ℕ) (old new : List Collected) (rs : List Range)
    (first mid last : List Event) → AllDeposited guest first old
    → AreHarvested guest whose (handed_of old) (handed_of new) rs first → mid ≡ first
    → IsLegalSoFar guest mid → IsLegalSoFar guest last → SettlesCut guest rs mid last
    → Extends last (reaped guest whose first)
unfolding SettlesCut
part_reaped guest whose old new rs first mid last step it same =
    subst (λ (xs : List Event). IsLegalSoFar guest xs → IsLegalSoFar guest last
    → SettlesCut guest rs xs last → Extends last (reaped guest whose first)) (sym same)
    (λ legal after part. harvest_cut guest whose (handed_of old) (handed_of new) rs first last legal after
    (in_numbers guest first old step) it part)

pub part_begun : (guest : Guest) (rs : List Range) (first mid last : List Event) → mid ≡ first
    → SettlesCut guest rs mid last → Extends first last
unfolding SettlesCut
part_begun guest rs first mid last same part = subst (λ (xs : List Event). Extends xs last) same
    (part_grows guest rs mid last part)
