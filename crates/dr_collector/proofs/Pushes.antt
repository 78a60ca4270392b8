-- Entries that are pushed, and notes of all kernel seats, one after the other.
use Rattle.std.proofs.Common.{◌≡◌, ℕ, zero, suc, ◌+◌, ◌≤◌, ◌≢◌, true, List, [], ◌∷◌, ◌++◌, map, length, take, ap, sym, ◌∙◌, subst, arith, ⊎_elim, length-append, All, Some, slice_get}
use Rattle.std.proofs.lemmas.List.{map-append}
use Rattle.atomic_table.specs.Seated.{TableId}
use Rattle.dr_types.specs.declared.entry.Entry.{Entry}
use Rattle.dr_ring.specs.Seats.{KernelView, NoteView, new_kernel}
use Rattle.dr_ring.proofs.Places.{slice_get-push}
use Rattle.dr_ring_set.specs.Seated.{IfAt, MovesAt}
use Rattle.dr_ring_set.proofs.NewSeats.{new_kernel_at}
use Rattle.dr_collector.specs.Batched.{ring_of_note}
use Rattle.dr_collector.proofs.Seating.{set_at, all_at, all_from_each}

-- new seats pushed nothing
pub new_pushed_none : (rings : List TableId) (kernels : List KernelView) (n : ℕ) → kernels ≡ map new_kernel rings → (w : ℕ) → IfAt kernels w (λ s. (length s.pushed ≤ n) × (s.reset ≡ 0))
new_pushed_none rings kernels n are w s at =
    let new = new_kernel_at rings w s (subst (λ (xs : List KernelView). slice_get xs w ≡ Some s) are at) in
    let none : length s.pushed ≡ 0 = ap (λ (x : KernelView). length x.pushed) new in
    (omega arith, ap (λ (x : KernelView). x.reset) new)

-- no more than n are no more than any number from n on
pub pushed_fewer : (kernels : List KernelView) (n m : ℕ) → ((w : ℕ) → IfAt kernels w (λ s. (length s.pushed ≤ n) × (s.reset ≡ 0))) → n ≤ m → (w : ℕ) → IfAt kernels w (λ s. (length s.pushed ≤ m) × (s.reset ≡ 0))
pushed_fewer kernels n m few le w s at =
    let before = few w s at in
    let least = before.0 in
    (omega (arith, least), before.1)

-- one more
pub pushed_more : (old new : List KernelView) (v n m : ℕ) (e : Entry) → ((w : ℕ) → IfAt old w (λ s. (length s.pushed ≤ n) × (s.reset ≡ 0))) → MovesAt old new v (λ s t. t ≡ record s { pushed = s.pushed ++ e ∷ [] }) → m ≡ n + 1 → (w : ℕ) → IfAt new w (λ s. (length s.pushed ≤ m) × (s.reset ≡ 0))
pushed_more old new v n m e few moves one w s at = ⊎_elim
    (λ (here : (w ≡ v) × (s ≡ moves.1)).
    let before = few v moves.0 moves.2 in
    let is : s ≡ record moves.0 { pushed = moves.0.pushed ++ e ∷ [] } = here.1 ∙ moves.4 in
    let least = before.0 in
    let count : length s.pushed ≡ length moves.0.pushed + 1 = ap (λ (x : KernelView). length x.pushed) is ∙ length-append moves.0.pushed (e ∷ []) in
    (omega (arith, least, count), ap (λ (x : KernelView). x.reset) is ∙ before.1))
    (λ (other : (w ≢ v) × (slice_get old w ≡ Some s)).
    let before = few w s other.1 in
    let least = before.0 in
    (omega (arith, least), before.1))
    (set_at old v w moves.1 s (subst (λ (xs : List KernelView). slice_get xs w ≡ Some s) moves.3 at))

take_next : {X : Type 0} (xs : List X) (v : ℕ) (x : X) → slice_get xs v ≡ Some x → take v xs ++ x ∷ [] ≡ take (v + 1) xs
take_next [] v x at = absurd cc
take_next (y ∷ ys) zero x at = let same : x ≡ y = cc in λ i. same i ∷ []
take_next {X = X} (y ∷ ys) (suc v) x at =
    let next : suc (v + 1) ≡ suc v + 1 = omega arith in
    ap (λ (zs : List X). y ∷ zs) (take_next ys v x at) ∙ ap (λ (k : ℕ). take k (y ∷ ys)) next

-- a note more, of the next vCPU
pub note_more : (rings : List TableId) (old new : List NoteView) (v : ℕ) (n : NoteView) → map ring_of_note old ≡ take v rings → slice_get rings v ≡ Some n.ring → new ≡ old ++ n ∷ [] → map ring_of_note new ≡ take (v + 1) rings
note_more rings old new v n are at one =
    ap (map ring_of_note) one ∙ map-append ring_of_note old (n ∷ []) ∙ ap (λ (ids : List TableId). ids ++ n.ring ∷ []) are ∙ take_next rings v n.ring at

pub kernel_more : (old new : List NoteView) (n : NoteView) → All (λ m. m.by_kernel ≡ true) old → n.by_kernel ≡ true → new ≡ old ++ n ∷ [] → All (λ m. m.by_kernel ≡ true) new
kernel_more old new n all is one = all_from_each (λ (m : NoteView). m.by_kernel ≡ true) new (λ v m at. ⊎_elim
    (λ (before : slice_get old v ≡ Some m). all_at (λ (w : NoteView). w.by_kernel ≡ true) old v m all before)
    (λ (last : (v ≡ length old) × (n ≡ m)). ap (λ (w : NoteView). w.by_kernel) (sym last.1) ∙ is)
    (slice_get-push old n m v (subst (λ (xs : List NoteView). slice_get xs v ≡ Some m) one at)))
