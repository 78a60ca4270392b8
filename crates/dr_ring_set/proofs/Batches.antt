-- Batches: how they grow, and that their entries are the pushed ones.
use Rattle.std.proofs.Common.{◌≡◌, ℕ, zero, suc, ◌+◌, List, [], ◌∷◌, ◌++◌, length, set, sym, refl, ap, ◌∙◌, ⊎_elim, subst, Some, slice_get}
use mathlib.Core.List.{IsPrefix}
use Rattle.dr_types.specs.declared.entry.Entry.{Entry}
use Rattle.dr_ring.proofs.Fronts.{prefix_get}
use Rattle.dr_ring.proofs.Stores.{prefix_push}
use Rattle.dr_ring.proofs.Places.{slice_get-push, slice_get-last}
use Rattle.dr_ring.specs.Seats.{UserView, user_harvested}
use Rattle.dr_ring_set.specs.Batches.{StandFrom}

-- no entries stand anywhere
pub none_stand : (first : ℕ) (whole : List Entry) → StandFrom first [] whole
none_stand first whole k e at = absurd cc

-- one more entry at the end of both
pub one_more_stands : (first : ℕ) (entries whole : List Entry) (e : Entry) → first + length entries ≡ length whole → StandFrom first entries whole → StandFrom first (entries ++ e ∷ []) (whole ++ e ∷ [])
one_more_stands first entries whole e end stand k d at = ⊎_elim
    (λ (old : slice_get entries k ≡ Some d). prefix_get whole (whole ++ e ∷ []) (first + k) d (prefix_push whole e) (stand k d old))
    (λ (new : (k ≡ length entries) × (e ≡ d)).
    let place : length whole ≡ first + k = sym end ∙ ap (λ (n : ℕ). first + n) (sym new.0) in
    subst (λ (z : ℕ × Entry). slice_get (whole ++ e ∷ []) z.0 ≡ Some z.1) (λ i. (place i, new.1 i)) (slice_get-last whole e))
    (slice_get-push entries e d k at)

-- what stands in a note stands in the list that the note begins
pub stand_in_longer : (first : ℕ) (entries whole longer : List Entry) → StandFrom first entries whole → IsPrefix whole longer → StandFrom first entries longer
stand_in_longer first entries whole longer stand more k e at = prefix_get whole longer (first + k) e more (stand k e at)

-- the seat that stands where one was written
pub seat_written : {S : Type 0} (xs : List S) (v : ℕ) (s t u : S) → slice_get xs v ≡ Some s → slice_get (set xs v t) v ≡ Some u → t ≡ u
seat_written [] v s t u at new = absurd cc
seat_written (x ∷ xs) zero s t u at new = cc
seat_written (x ∷ xs) (suc v) s t u at new = seat_written xs v s t u at new

-- the first entry that a new user seat harvests stands in its note
pub first_stands : (old new : List UserView) (size v : ℕ) (s t u : UserView) (e : Entry) (entries : List Entry) → slice_get old v ≡ Some s → s.harvested ≡ [] → t ≡ user_harvested size s e → new ≡ set old v t → slice_get new v ≡ Some u → entries ≡ [] ++ e ∷ [] → StandFrom 0 entries u.harvested
first_stands old new size v s t u e entries at empty moved written there one =
    let same : t ≡ u = seat_written old v s t u at (subst (λ (xs : List UserView). slice_get xs v ≡ Some u) written there) in
    let whole : u.harvested ≡ [] ++ e ∷ [] = ap (λ (x : UserView). x.harvested) (sym same ∙ moved) ∙ ap (λ (xs : List Entry). xs ++ e ∷ []) empty in
    subst (λ (z : List Entry × List Entry). StandFrom 0 z.0 z.1) (λ i. (sym one i, sym whole i)) (one_more_stands 0 [] [] e refl (none_stand 0 []))
