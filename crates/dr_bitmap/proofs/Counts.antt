-- The members, and how many there are.
use Rattle.std.proofs.Common.{◌≡◌, ℕ, zero, suc, ◌+◌, ◌-◌, ◌<◌, ◌≤◌, ◌^◌, Bool, true, false, cond, List, [], ◌∷◌, ◌++◌, length, get_or, replicate, refl, ap, sym, ◌∙◌, arith}
use Rattle.std.specs.Prelude.{All}
use Rattle.std.proofs.Math.ListN.{set, length-set, length-replicate}
use Rattle.std.proofs.lemmas.List.{set-get_or}
use Rattle.std.proofs.lemmas.List.Elements.{All-cons, All-nil}
use Rattle.dr_bitmap.specs.Members.{members_from, IsCounted}

-- where no flag is set there is no member
pub members_none : (n k : ℕ) → members_from n (replicate k false) ≡ []
members_none n zero = refl
members_none n (suc k) = members_none (n + 1) k

all_in : (n k : ℕ) → length (members_from n (replicate k true)) ≡ k
all_in n zero = refl
all_in n (suc k) = ap suc (all_in (n + 1) k)

-- there are no more members than numbers
pub members_few : (n : ℕ) (flags : List Bool) → length (members_from n flags) ≤ length flags
members_few n [] = omega arith
members_few n (true ∷ flags) = omega (arith, members_few (n + 1) flags)
members_few n (false ∷ flags) = omega (arith, members_few (n + 1) flags)

-- each member is below the length
pub members_small : (n m : ℕ) (flags : List Bool) → n + length flags ≤ m → All (λ x. x < m) (members_from n flags)
members_small n m [] h = All-nil (λ x. x < m)
members_small n m (true ∷ flags) h = All-cons (λ x. x < m) n (members_from (n + 1) flags) (omega arith) (members_small (n + 1) m flags (omega arith))
members_small n m (false ∷ flags) h = members_small (n + 1) m flags (omega arith)

-- one more flag
pub members_last : (n : ℕ) (flags : List Bool) (b : Bool) → members_from n (flags ++ b ∷ []) ≡ members_from n flags ++ cond b ((n + length flags) ∷ []) []
members_last n [] true = ap (λ k. k ∷ []) (omega arith)
members_last n [] false = refl
members_last n (true ∷ flags) b =
    let place : n + 1 + length flags ≡ n + suc (length flags) = omega arith in
    ap (λ xs. n ∷ xs) (members_last (n + 1) flags b) ∙ ap (λ k. n ∷ (members_from (n + 1) flags ++ cond b (k ∷ []) [])) place
members_last n (false ∷ flags) b =
    let place : n + 1 + length flags ≡ n + suc (length flags) = omega arith in
    members_last (n + 1) flags b ∙ ap (λ k. members_from (n + 1) flags ++ cond b (k ∷ []) []) place

-- a number comes in
more : (n p : ℕ) (flags : List Bool) (d : Bool) → p < length flags → get_or flags p d ≡ false → length (members_from n (set flags p true)) ≡ length (members_from n flags) + 1
more n p [] d lt unset = absurd (omega arith)
more n zero (true ∷ flags) d lt unset = absurd cc
more n zero (false ∷ flags) d lt unset = omega arith
more n (suc p) (true ∷ flags) d lt unset = omega (arith, more (n + 1) p flags d (omega arith) unset)
more n (suc p) (false ∷ flags) d lt unset = more (n + 1) p flags d (omega arith) unset

-- a number goes out
fewer : (n p : ℕ) (flags : List Bool) (d : Bool) → p < length flags → get_or flags p d ≡ true → length (members_from n flags) ≡ length (members_from n (set flags p false)) + 1
fewer n p [] d lt is_set = absurd (omega arith)
fewer n zero (true ∷ flags) d lt is_set = omega arith
fewer n zero (false ∷ flags) d lt is_set = absurd cc
fewer n (suc p) (true ∷ flags) d lt is_set = omega (arith, fewer (n + 1) p flags d (omega arith) is_set)
fewer n (suc p) (false ∷ flags) d lt is_set = fewer (n + 1) p flags d (omega arith) is_set

pub counts_none : (n : ℕ) → n < 2 ^ 32 → IsCounted 0 (replicate n false)
counts_none n lt = record { count_is = sym (ap length (members_none 0 n)); small = omega (arith, length-replicate n false) }

pub counts_all : (n : ℕ) → n < 2 ^ 32 → IsCounted n (replicate n true)
counts_all n lt = record { count_is = sym (all_in 0 n); small = omega (arith, length-replicate n true) }

pub counts_more : (count p : ℕ) (flags : List Bool) (d : Bool) → p < length flags → get_or flags p d ≡ false → IsCounted count flags → IsCounted (count + 1) (set flags p true)
counts_more count p flags d lt unset h = record {
  count_is = omega (arith, h.count_is, more 0 p flags d lt unset);
  small = omega (arith, h.small, length-set flags p true);
}

pub counts_fewer : (count p : ℕ) (flags : List Bool) (d : Bool) → p < length flags → get_or flags p d ≡ true → IsCounted count flags → IsCounted (count - 1) (set flags p false)
counts_fewer count p flags d lt is_set h = record {
  count_is = omega (arith, h.count_is, fewer 0 p flags d lt is_set);
  small = omega (arith, h.small, length-set flags p false);
}

-- what a flag is already, it may be set to
pub same_again : (flags : List Bool) (p : ℕ) (b d : Bool) → get_or flags p d ≡ b → set flags p b ≡ flags
same_again flags p b d is = ap (λ x. set flags p x) (sym is) ∙ set-get_or flags p d

-- there is room for one more in the count, and one to take from it
pub count_room : (count p : ℕ) (flags : List Bool) (d : Bool) → get_or flags p d ≡ false → p < length flags → IsCounted count flags → count < length flags
count_room count p flags d unset lt h = omega (arith, h.count_is, more 0 p flags d lt unset, members_few 0 (set flags p true), length-set flags p true)

pub count_some : (count p : ℕ) (flags : List Bool) (d : Bool) → get_or flags p d ≡ true → p < length flags → IsCounted count flags → 1 ≤ count
count_some count p flags d is_set lt h = omega (arith, h.count_is, fewer 0 p flags d lt is_set)

pub ruleset count_steps = (counts_more, counts_fewer, same_again, count_room, count_some)
