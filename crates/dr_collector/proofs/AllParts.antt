-- Harvests of all vCPUs, one after the other.
use Rattle.std.proofs.Common.{◌≡◌, ◌≢◌, ℕ, zero, suc, ◌+◌, ◌<◌, ◌≤◌, List, [], ◌∷◌, ◌++◌, map, length, drop, refl, ap, sym, ◌∙◌, subst, arith, inl, inr, ⊎_elim, length-append, Some, slice_get, option_map}
use Rattle.std.proofs.lemmas.List.{length-map, map-append}
use Rattle.std.proofs.lemmas.Option.{slice_get-map, slice_get_within}
use Rattle.atomic_table.specs.Seated.{TableId}
use Rattle.dr_ring.specs.Seats.{NoteView}
use Rattle.dr_ring.proofs.Places.{slice_get-push}
use Rattle.dr_ring_set.specs.Seated.{IfAt, HasAt, MovesAt}
use Rattle.dr_ring_set.specs.Batches.{BatchView}
use Rattle.dr_collector.specs.Collected.{Collected}
use Rattle.dr_collector.specs.Batched.{IsBatchOf, IsKept, IsCutOff, ring_of_note}
use Rattle.dr_collector.proofs.Seating.{is_there, get_set, get_other}

-- The batches of the vCPUs below u, in their order, by the note of each and by what is collected before and after. The
-- vCPUs from u on are as before.
pub record AreBatches (size u : ℕ) (seen : List NoteView) (old new : List Collected) (batches : List BatchView) : Type 0 where
  pub count : length batches ≡ u
  pub within : u ≤ length seen
  pub each : (v : ℕ) → IfAt batches v (λ b. HasAt seen v (λ n. HasAt old v (λ c. HasAt new v (λ d. IsBatchOf size v (Some n) c d b))))
  pub rest : (v : ℕ) → u ≤ v → slice_get new v ≡ slice_get old v

-- the first of the notes that are left is that of the next vCPU
pub note_here : (seen rest : List NoteView) (u : ℕ) (n : NoteView) → n ∷ rest ≡ drop u seen → slice_get seen u ≡ Some n
note_here [] rest zero n left = absurd cc
note_here [] rest (suc u) n left = absurd cc
note_here (m ∷ seen) rest zero n left = cc
note_here (m ∷ seen) rest (suc u) n left = note_here seen rest u n left

-- .. and the others are left after it
pub notes_left : (seen rest : List NoteView) (u : ℕ) (n : NoteView) → n ∷ rest ≡ drop u seen → rest ≡ drop (u + 1) seen
notes_left [] rest zero n left = absurd cc
notes_left [] rest (suc u) n left = absurd cc
notes_left (m ∷ seen) rest zero n left = cc
notes_left (m ∷ seen) rest (suc u) n left =
    let next : suc u + 1 ≡ suc (u + 1) = omega arith in
    notes_left seen rest u n left ∙ ap (λ (k : ℕ). drop k (m ∷ seen)) (sym next)

-- it is of its vCPU's ring
pub note_named : (seen : List NoteView) (rings : List TableId) (u : ℕ) (n : NoteView) → map ring_of_note seen ≡ rings → slice_get seen u ≡ Some n → slice_get rings u ≡ Some n.ring
note_named seen rings u n named at =
    subst (λ (ids : List TableId). slice_get ids u ≡ Some n.ring) named (slice_get-map ring_of_note seen u ∙ ap (option_map ring_of_note) at)

-- where none is left, each vCPU had its batch
pub all_made : (size u : ℕ) (seen : List NoteView) (rings : List TableId) (old new : List Collected) (bs : List BatchView) → AreBatches size u seen old new bs → [] ≡ drop u seen → map ring_of_note seen ≡ rings → length bs ≡ length rings
all_made size u seen rings old new bs are left named =
    let whole : length (map ring_of_note seen) ≡ length rings = ap length named in
    let over : length seen ≤ u = notes_over seen u left in
    let within = are.within in
    let count = are.count in
    omega (arith, whole, length-map seen ring_of_note) where
      notes_over : (xs : List NoteView) (k : ℕ) → [] ≡ drop k xs → length xs ≤ k
      notes_over [] k e = omega arith
      notes_over (x ∷ xs) zero e = absurd cc
      notes_over (x ∷ xs) (suc k) e = let rest = notes_over xs k e in omega arith

-- the next batch
pub batches_more : (size u : ℕ) (seen : List NoteView) (old mid new : List Collected) (bs more : List BatchView) (n : NoteView) (b : BatchView)
    → AreBatches size u seen old mid bs → slice_get seen u ≡ Some n → MovesAt mid new u (λ c d. IsBatchOf size u (Some n) c d b) → more ≡ bs ++ b ∷ []
    → AreBatches size (u + 1) seen old new more
batches_more size u seen old mid new bs more n b are at moves one = record {
  count = ap length one ∙ length-append bs (b ∷ []) ∙ ap (λ (k : ℕ). k + 1) are.count;
  within = let lt : u < length seen = slice_get_within seen u n at in omega arith;
  each = λ v a here. ⊎_elim
      (λ (before : slice_get bs v ≡ Some a).
      let lt : v < length bs = slice_get_within bs v a before in
      let count : length bs ≡ u = are.count in
      let ne : v ≢ u = omega arith in
      let has = are.each v a before in
      let stays : slice_get new v ≡ slice_get mid v = ap (λ (xs : List Collected). slice_get xs v) moves.3 ∙ get_other mid u v moves.1 ne in
      (has.0, has.1, (has.2.0, has.2.1, (has.2.2.0, stays ∙ has.2.2.1, has.2.2.2))))
      (λ (last : (v ≡ length bs) × (b ≡ a)).
      let here_is : u ≡ v = sym (last.0 ∙ are.count) in
      let begins : slice_get old u ≡ Some moves.0 = sym (are.rest u (omega arith)) ∙ moves.2 in
      let ends : slice_get new u ≡ Some moves.1 = ap (λ (xs : List Collected). slice_get xs u) moves.3 ∙ get_set mid u moves.0 moves.1 moves.2 in
      let at_u : HasAt seen u (λ w. HasAt old u (λ c. HasAt new u (λ d. IsBatchOf size u (Some w) c d b))) = (n, at, (moves.0, begins, (moves.1, ends, moves.4))) in
      subst (λ (z : ℕ × BatchView). HasAt seen z.0 (λ w. HasAt old z.0 (λ c. HasAt new z.0 (λ d. IsBatchOf size z.0 (Some w) c d z.1)))) (λ i. (here_is i, last.1 i)) at_u)
      (slice_get-push bs b a v (subst (λ (xs : List BatchView). slice_get xs v ≡ Some a) one here));
  rest = λ v le.
      let ne : v ≢ u = omega arith in
      ap (λ (xs : List Collected). slice_get xs v) moves.3 ∙ get_other mid u v moves.1 ne ∙ are.rest v (omega arith);
}

-- .. and it is read from a list of anything
pub batch_pushed : {X : Type 0} (f : X → BatchView) (size u : ℕ) (seen : List NoteView) (old mid new : List Collected) (xs more : List X) (n : NoteView) (x : X)
    → AreBatches size u seen old mid (map f xs) → slice_get seen u ≡ Some n → MovesAt mid new u (λ c d. IsBatchOf size u (Some n) c d (f x)) → more ≡ xs ++ x ∷ []
    → AreBatches size (u + 1) seen old new (map f more)
batch_pushed f size u seen old mid new xs more n x are at moves one =
    batches_more size u seen old mid new (map f xs) (map f more) n (f x) are at moves (ap (map f) one ∙ map-append f xs (x ∷ []))

pub batch_read : {X : Type 0} (f : X → BatchView) (size u : ℕ) (seen : List NoteView) (old new : List Collected) (xs : List X) → AreBatches size u seen old new (map f xs)
    → (v : ℕ) (x : X) → slice_get xs v ≡ Some x → HasAt seen v (λ n. HasAt old v (λ c. HasAt new v (λ d. IsBatchOf size v (Some n) c d (f x))))
batch_read f size u seen old new xs are v x at = are.each v (f x) (slice_get-map f xs v ∙ ap (option_map f) at)

-- nothing was done yet where memory is refused
pub cut_at_once : (size : ℕ) (seen : List NoteView) (cs : List Collected) → IsCutOff size seen cs cs
cut_at_once size seen cs = record {
  refused = 0;
  lost = λ v lt. absurd (omega arith);
  kept = λ c at. (c, at, inl refl);
  rest = λ v lt. refl;
}

-- batches were made, and the next was not begun
pub cut_after : (size u : ℕ) (seen : List NoteView) (old new : List Collected) (bs : List BatchView) → AreBatches size u seen old new bs → IsCutOff size seen old new
cut_after size u seen old new bs are = record {
  refused = u;
  lost = λ v lt.
      let count : length bs ≡ u = are.count in
      let made = is_there bs v (omega arith) in
      let has = are.each v made.0 made.1 in
      (has.0, has.1, (has.2.0, has.2.1, (has.2.2.0, has.2.2.1, (made.0, has.2.2.2))));
  kept = λ c at. (c, are.rest u (omega arith) ∙ at, inl refl);
  rest = λ v lt. are.rest v (omega arith);
}

-- memory is refused at a vCPU
pub cut_at : (size u : ℕ) (seen : List NoteView) (old mid new : List Collected) (bs : List BatchView) (n : NoteView)
    → AreBatches size u seen old mid bs → slice_get seen u ≡ Some n → MovesAt mid new u (λ c d. IsKept size (Some n) c d) → IsCutOff size seen old new
cut_at size u seen old mid new bs n are at moves = record {
  refused = u;
  lost = λ v lt.
      let count : length bs ≡ u = are.count in
      let ne : v ≢ u = omega arith in
      let made = is_there bs v (omega arith) in
      let has = are.each v made.0 made.1 in
      let stays : slice_get new v ≡ slice_get mid v = ap (λ (xs : List Collected). slice_get xs v) moves.3 ∙ get_other mid u v moves.1 ne in
      (has.0, has.1, (has.2.0, has.2.1, (has.2.2.0, stays ∙ has.2.2.1, (made.0, has.2.2.2))));
  kept = λ c here.
      let same : moves.0 ≡ c = cc (here, are.rest u (omega arith), moves.2) in
      let ends : slice_get new u ≡ Some moves.1 = ap (λ (xs : List Collected). slice_get xs u) moves.3 ∙ get_set mid u moves.0 moves.1 moves.2 in
      (moves.1, ends, inr (n, at, subst (λ (d : Collected). IsKept size (Some n) d moves.1) same moves.4));
  rest = λ v lt.
      let ne : v ≢ u = omega arith in
      ap (λ (xs : List Collected). slice_get xs v) moves.3 ∙ get_other mid u v moves.1 ne ∙ are.rest v (omega arith);
}
