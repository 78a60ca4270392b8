-- What holds of a seat wherever there is one, where there is one for each vCPU.
use Rattle.std.proofs.Common.{ℕ, zero, suc, ◌<◌, List, [], ◌∷◌, length, refl, arith}
use Rattle.dr_ring_set.specs.Seated.{IfAt, HasAt}

-- it holds of this vCPU's, which is there
pub has_seat : {S : Type 0} (seats : List S) (v : ℕ) (P : S → Type 0) → v < length seats → IfAt seats v P → HasAt seats v P
has_seat [] v P lt are = absurd (omega (arith, lt))
has_seat (s ∷ seats) zero P lt are = (s, refl, are s refl)
has_seat (s ∷ seats) (suc v) P lt are = has_seat seats v P (omega (arith, lt)) are
