-- Seats and rings of one name, by vCPU.
use Rattle.std.proofs.Common.{◌≡◌, ℕ, zero, suc, ◌<◌, ◌^◌, List, [], ◌∷◌, map, length, get_or, set, refl, sym, ap, subst, ◌∙◌, arith, All, Some, slice_get, option_map}
use Rattle.std.proofs.lemmas.List.{length-map}
use Rattle.std.proofs.lemmas.Option.{slice_get_read, slice_get-map}
use Rattle.atomic_table.specs.Seated.{TableId}
use Rattle.dr_ring.specs.Seats.{RingView, IsOfSize}
use Rattle.dr_ring_set.specs.Seated.{id_of}

module _ {S R : Type 0} (f : S → TableId) (g : R → TableId) where
  -- the seat and the ring of one index are of one table
  pub same_ring : (seats : List S) (rings : List R) (ids : List TableId) (v : ℕ) (s : S) (r : R) → map f seats ≡ ids → map g rings ≡ ids → v < length seats → s ≡ get_or seats v s → r ≡ get_or rings v r → f s ≡ g r
  same_ring [] rings ids v s r a b l e h = absurd (omega arith)
  same_ring (x ∷ xs) [] ids v s r a b l e h = absurd (cc)
  same_ring (x ∷ xs) (y ∷ ys) ids zero s r a b l e h = cc
  same_ring (x ∷ xs) (y ∷ ys) [] (suc v) s r a b l e h = absurd (cc)
  same_ring (x ∷ xs) (y ∷ ys) (i ∷ is) (suc v) s r a b l e h = same_ring xs ys is v s r (cc) (cc) (omega arith) e h

  -- a write that keeps the ring keeps the list of rings
  pub same_rings : (seats : List S) (v : ℕ) (s t : S) → v < length seats → s ≡ get_or seats v s → f t ≡ f s → map f (set seats v t) ≡ map f seats
  same_rings [] v s t l e k = absurd (omega arith)
  same_rings (x ∷ xs) zero s t l e k = let h : f t ≡ f x = k ∙ ap f e in λ i. h i ∷ map f xs
  same_rings (x ∷ xs) (suc v) s t l e k = λ i. f x ∷ same_rings xs v s t (omega arith) e k i

-- what was read at an index is there
pub there : {S : Type 0} (xs ys : List S) (v : ℕ) (s : S) → xs ≡ ys → v < length ys → s ≡ get_or xs v s → slice_get ys v ≡ Some s
there xs ys v s same l e = slice_get_read ys (length ys) v s refl l (e ∙ ap (λ z. get_or z v s) same)

-- there are as many rings as seats
pub in_rings : {S R : Type 0} (f : S → TableId) (g : R → TableId) (seats : List S) (rings : List R) (ids : List TableId) (v : ℕ) → map f seats ≡ ids → map g rings ≡ ids → v < length seats → v < length rings
in_rings f g [] rings ids v a b l = absurd (omega arith)
in_rings f g (x ∷ xs) [] ids v a b l = absurd (cc)
in_rings f g (x ∷ xs) (y ∷ ys) ids zero a b l = omega arith
in_rings f g (x ∷ xs) (y ∷ ys) [] (suc v) a b l = absurd (cc)
in_rings f g (x ∷ xs) (y ∷ ys) (i ∷ is) (suc v) a b l = let r = in_rings f g xs ys is v (cc) (cc) (omega arith) in omega arith

-- a vCPU of the name has a seat
pub in_seats : {S : Type 0} (f : S → TableId) (seats : List S) (ids : List TableId) (v : ℕ) → map f seats ≡ ids → v < length ids → v < length seats
in_seats f seats ids v a l = omega (arith, ap length a, length-map seats f)

-- What a named call knows of the seat s and the ring r at v: they are of one table, which the name fixes for v, the
-- ring has the size of all, and the seat stands at v.
pub record IsPair {S : Type 0} (f : S → TableId) (now : List S) (ids : List TableId) (size v : ℕ) (s : S) (r : RingView) : Type 0 where
  pub ring : f s ≡ r.id
  pub size_is : r.size ≡ size
  pub at : slice_get now v ≡ Some s
  pub named : slice_get ids v ≡ Some (f s)

pub pair_at : {S : Type 0} (f : S → TableId) (seats now : List S) (rings : List RingView) (ids : List TableId) (size v : ℕ) (s : S) (r : RingView) → seats ≡ now → map f seats ≡ ids → (map id_of rings ≡ ids) × All (λ x. x.size ≡ size) rings × (length rings < 2 ^ 32) × All (λ id. IsOfSize size id) ids → v < length ids → s ≡ get_or seats v s → r ≡ get_or rings v r → IsPair f now ids size v s r
pair_at {S} f seats now rings ids size v s r same a b l e h =
    let inside : v < length seats = in_seats f seats ids v a l in
    let here : slice_get now v ≡ Some s = there seats now v s same (omega (arith, ap length same)) e in
    let seat : slice_get seats v ≡ Some s = subst (λ (xs : List S). slice_get xs v ≡ Some s) (sym same) here in record {
      ring = same_ring f id_of seats rings ids v s r a b.0 inside e h;
      size_is = subst (λ (x : RingView). x.size ≡ size) (sym h) (b.1 v r (in_rings f id_of seats rings ids v a b.0 inside));
      at = here;
      named = subst (λ (xs : List TableId). slice_get xs v ≡ Some (f s)) a (slice_get-map f seats v ∙ ap (option_map f) seat);
    }
