-- The low bytes of a number are at most eight.
use Rattle.std.proofs.Common.{◌≡◌, ℕ, zero, suc, List, [], take, min, refl, arith}
use Rattle.std.specs.Int.{w64, to_le_bytes}
use Rattle.dr_types.specs.Lines.{low_bytes}

nothing : (n : ℕ) → take n (let none : List ℕ = [] in none) ≡ []
nothing zero = refl
nothing (suc n) = refl

pub take_at_most : (len value : ℕ) → take (min len 8) (to_le_bytes w64 value) ≡ low_bytes len value
take_at_most zero value = refl
take_at_most (suc zero) value = refl
take_at_most (suc (suc zero)) value = refl
take_at_most (suc (suc (suc zero))) value = refl
take_at_most (suc (suc (suc (suc zero)))) value = refl
take_at_most (suc (suc (suc (suc (suc zero))))) value = refl
take_at_most (suc (suc (suc (suc (suc (suc zero)))))) value = refl
take_at_most (suc (suc (suc (suc (suc (suc (suc zero))))))) value = refl
take_at_most (suc (suc (suc (suc (suc (suc (suc (suc len)))))))) value = let eight : min (suc (suc (suc (suc (suc (suc (suc (suc len)))))))) 8 ≡ 8 = omega arith in rw (eight, nothing len) refl
