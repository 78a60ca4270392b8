use Rattle.std.proofs.Common.{◌≡◌, ℕ, zero, suc, ◌+◌, ◌<◌, ◌≤◌, true, false, List, [], ◌∷◌, length, get_or, replicate, refl, ap, ◌∙◌, arith}
use Rattle.std.specs.Prelude.{◌==◌}
use Rattle.std.proofs.Math.ListN.{set}
use Rattle.std.proofs.lemmas.Bool.{eq-eqb, ne_eqb}
use Rattle.dr_marks.specs.Stamps.{AllAtMost, flags_at}

pub zeros_at_most : (n m : ℕ) → AllAtMost m (replicate n 0)
zeros_at_most zero m = tt
zeros_at_most (suc n) m = (omega arith, zeros_at_most n m)

pub none_set : (n : ℕ) → flags_at 1 (replicate n 0) ≡ replicate n false
none_set zero = refl
none_set (suc n) = ap (λ xs. false ∷ xs) (none_set n)

pub flag_of_stamp : (stamps : List ℕ) (at n d : ℕ) → at < length stamps → get_or (flags_at n stamps) at false ≡ (get_or stamps at d == n)
flag_of_stamp [] at n d h = absurd (omega arith)
flag_of_stamp (x ∷ xs) zero n d h = refl
flag_of_stamp (x ∷ xs) (suc at) n d h = flag_of_stamp xs at n d (omega arith)

pub set_stamp : (stamps : List ℕ) (at n : ℕ) → flags_at n (set stamps at n) ≡ set (flags_at n stamps) at true
set_stamp [] at n = refl
set_stamp (x ∷ xs) zero n = ap (λ b. b ∷ flags_at n xs) (eq-eqb n n refl)
set_stamp (x ∷ xs) (suc at) n = ap (λ bs. (x == n) ∷ bs) (set_stamp xs at n)

pub set_at_most : (stamps : List ℕ) (at n : ℕ) → AllAtMost n stamps → AllAtMost n (set stamps at n)
set_at_most [] at n h = tt
set_at_most (x ∷ xs) zero n h = (omega arith, h.1)
set_at_most (x ∷ xs) (suc at) n h = (h.0, set_at_most xs at n h.1)

pub cleared : (stamps : List ℕ) (n : ℕ) → AllAtMost n stamps → flags_at (n + 1) stamps ≡ replicate (length stamps) false
cleared [] n h = refl
cleared (x ∷ xs) n h =
    let e : (x == n + 1) ≡ false = ne_eqb x (n + 1) (λ q. let le : x ≤ n = h.0 in omega (arith, q)) in
    ap (λ b. b ∷ flags_at (n + 1) xs) e ∙ ap (λ bs. false ∷ bs) (cleared xs n h.1)

pub rise_at_most : (stamps : List ℕ) (n : ℕ) → AllAtMost n stamps → AllAtMost (n + 1) stamps
rise_at_most [] n h = tt
rise_at_most (x ∷ xs) n h = (let le : x ≤ n = h.0 in omega arith, rise_at_most xs n h.1)

pub length_flags : (stamps : List ℕ) (n : ℕ) → length (flags_at n stamps) ≡ length stamps
length_flags [] n = refl
length_flags (x ∷ xs) n = ap suc (length_flags xs n)

pub zeros_clear : (n m : ℕ) → flags_at (m + 1) (replicate n 0) ≡ replicate n false
zeros_clear zero m = refl
zeros_clear (suc n) m = ap (λ b. b ∷ flags_at (m + 1) (replicate n 0)) (ne_eqb 0 (m + 1) (λ q. omega (arith, q))) ∙ ap (λ bs. false ∷ bs) (zeros_clear n m)

pub ruleset stamp_steps = (length_flags, flag_of_stamp, set_stamp, cleared)

-- a new stamp, or all stamps anew
pub ruleset clear_steps = (length_flags, flag_of_stamp, set_stamp, cleared, rise_at_most, zeros_at_most, none_set)
