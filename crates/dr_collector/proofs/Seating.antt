-- Seats by vCPU: what is written and read at one of them, and what harvests leave of a seat.
use Rattle.std.proofs.Common.{◌≡◌, ◌≢◌, ◌⊎◌, ℕ, zero, suc, ◌+◌, ◌<◌, List, [], ◌∷◌, ◌++◌, map, length, drop, get_or, set, refl, ap, sym, ◌∙◌, subst, arith, inl, inr, append_assoc, All, Option, Some, None, slice_get}
use Rattle.std.proofs.lemmas.List.{append-nil}
use Rattle.std.proofs.lemmas.Option.{get_or_from_slice_get, slice_get-get_or, slice_get_within}
use Rattle.atomic_table.specs.Seated.{TableId}
use Rattle.dr_types.specs.declared.entry.Entry.{Entry}
use Rattle.dr_ring.specs.Seats.{NoteView, UserView, user_harvested}
use Rattle.dr_ring_set.specs.Seated.{ring_of_user}
use Rattle.dr_collector.specs.Collected.{learnt, all_harvested}

-- an element within a list is there
pub is_there : {X : Type 0} (xs : List X) (v : ℕ) → v < length xs → (x : X) × (slice_get xs v ≡ Some x)
is_there [] v lt = absurd (omega arith)
is_there (x ∷ xs) zero lt = (x, refl)
is_there (x ∷ xs) (suc v) lt = is_there xs v (omega arith)

-- what is there already may be written again
pub set_same : {X : Type 0} (xs : List X) (v : ℕ) (x : X) → slice_get xs v ≡ Some x → set xs v x ≡ xs
set_same [] v x at = refl
set_same (y ∷ ys) zero x at = let same : y ≡ x = cc in λ i. sym same i ∷ ys
set_same (y ∷ ys) (suc v) x at = ap (λ zs. y ∷ zs) (set_same ys v x at)

-- of two writes at one place the second stands
pub set_again : {X : Type 0} (xs : List X) (v : ℕ) (x y : X) → set (set xs v x) v y ≡ set xs v y
set_again [] v x y = refl
set_again (z ∷ zs) zero x y = refl
set_again (z ∷ zs) (suc v) x y = ap (λ ws. z ∷ ws) (set_again zs v x y)

-- what was written is there
pub get_set : {X : Type 0} (xs : List X) (v : ℕ) (x y : X) → slice_get xs v ≡ Some x → slice_get (set xs v y) v ≡ Some y
get_set [] v x y at = absurd cc
get_set (z ∷ zs) zero x y at = refl
get_set (z ∷ zs) (suc v) x y at = get_set zs v x y at

-- one harvest more, after others
pub harvested_next : (size : ℕ) (s : UserView) (more : List Entry) (e : Entry) → all_harvested size s (more ++ e ∷ []) ≡ user_harvested size (all_harvested size s more) e
harvested_next size s [] e = refl
harvested_next size s (d ∷ more) e = harvested_next size (user_harvested size s d) more e

-- what a seat has harvested grows by the entries that it harvests
pub harvested_grows : (size : ℕ) (s : UserView) (more : List Entry) → (all_harvested size s more).harvested ≡ s.harvested ++ more
harvested_grows size s [] = sym (append-nil s.harvested)
harvested_grows size s (e ∷ more) = harvested_grows size (user_harvested size s e) more ∙ append_assoc s.harvested (e ∷ []) more

-- harvests change neither a seat's ring nor how many pushes it knows of
pub ring_stays : (size : ℕ) (s : UserView) (more : List Entry) → (all_harvested size s more).ring ≡ s.ring
ring_stays size s [] = refl
ring_stays size s (e ∷ more) = ring_stays size (user_harvested size s e) more

pub known_stays : (size : ℕ) (s : UserView) (more : List Entry) → (all_harvested size s more).known ≡ s.known
known_stays size s [] = refl
known_stays size s (e ∷ more) = known_stays size (user_harvested size s e) more

-- what is there after a write at v was written there, or stood elsewhere before
pub set_at : {X : Type 0} (xs : List X) (v w : ℕ) (t x : X) → slice_get (set xs v t) w ≡ Some x → ((w ≡ v) × (x ≡ t)) ⊎ ((w ≢ v) × (slice_get xs w ≡ Some x))
set_at [] v w t x h = absurd cc
set_at (y ∷ ys) zero zero t x h = inl (refl, cc)
set_at (y ∷ ys) zero (suc w) t x h = inr (λ e. absurd (omega (arith, e)), h)
set_at (y ∷ ys) (suc v) zero t x h = inr (λ e. absurd (omega (arith, e)), h)
set_at (y ∷ ys) (suc v) (suc w) t x h =
    elim (set_at ys v w t x h) [
      | inl p ↦ inl (ap suc p.0, p.1)
      | inr p ↦ inr (λ e. p.0 (omega (arith, e)), p.1)
    ]

-- what all elements are, one that is there is
pub all_at : {X : Type 0} (P : X → Type 0) (xs : List X) (v : ℕ) (x : X) → All P xs → slice_get xs v ≡ Some x → P x
all_at {X} P xs v x all at = subst P (get_or_from_slice_get xs v x x at) (all v x (slice_get_within xs v x at))

-- .. and what each that is there is, all are
pub all_from_each : {X : Type 0} (P : X → Type 0) (xs : List X) → ((v : ℕ) (x : X) → slice_get xs v ≡ Some x → P x) → All P xs
all_from_each {X} P xs each v d lt = each v (get_or xs v d) (slice_get-get_or xs v d lt)

-- what stands in the list from n on stands in the list
pub stand_from : {X : Type 0} (n : ℕ) (xs : List X) (k : ℕ) (x : X) → slice_get (drop n xs) k ≡ Some x → slice_get xs (n + k) ≡ Some x
stand_from zero xs k x at = subst (λ (j : ℕ). slice_get xs j ≡ Some x) (omega arith) at
stand_from (suc n) [] k x at = absurd cc
stand_from (suc n) (y ∷ xs) k x at =
    let here : suc (n + k) ≡ suc n + k = omega arith in
    subst (λ (j : ℕ). slice_get (y ∷ xs) j ≡ Some x) here (stand_from n xs k x at)

-- a write that keeps the ring keeps the list of rings
pub rings_stay : (seats : List UserView) (v : ℕ) (s t : UserView) → slice_get seats v ≡ Some s → t.ring ≡ s.ring → map ring_of_user (set seats v t) ≡ map ring_of_user seats
rings_stay [] v s t at ring = refl
rings_stay (x ∷ xs) zero s t at ring = let same : t.ring ≡ x.ring = cc in λ i. same i ∷ map ring_of_user xs
rings_stay (x ∷ xs) (suc v) s t at ring = ap (λ (ids : List TableId). x.ring ∷ ids) (rings_stay xs v s t at ring)

-- a note that is learnt changes neither what a seat harvested nor its ring
pub learnt_harvested : (seen : Option NoteView) (s : UserView) → (learnt seen s).harvested ≡ s.harvested
learnt_harvested None s = refl
learnt_harvested (Some n) s = refl

pub learnt_ring : (seen : Option NoteView) (s : UserView) → (learnt seen s).ring ≡ s.ring
learnt_ring None s = refl
learnt_ring (Some n) s = refl

-- what stands elsewhere than a write stays
pub get_other : {X : Type 0} (xs : List X) (v w : ℕ) (t : X) → w ≢ v → slice_get (set xs v t) w ≡ slice_get xs w
get_other [] v w t ne = refl
get_other (y ∷ ys) zero zero t ne = absurd (ne refl)
get_other (y ∷ ys) zero (suc w) t ne = refl
get_other (y ∷ ys) (suc v) zero t ne = refl
get_other (y ∷ ys) (suc v) (suc w) t ne = get_other ys v w t (λ e. ne (ap suc e))
