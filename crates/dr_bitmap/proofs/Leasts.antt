-- The least member from a number on.
use Rattle.std.proofs.Common.{◌≡◌, ℕ, zero, suc, ◌+◌, ◌<◌, ◌≤◌, Bool, true, false, cond, List, [], ◌∷◌, length, get_or, drop, Option, Some, None, refl, ap, sym, ◌∙◌, arith, add-one}
use Rattle.std.specs.Prelude.{nat_le, slice_get, filter}
use Rattle.std.proofs.Math.Seq.{drop-cons}
use Rattle.std.proofs.Math.ListN.{set, drop_of_length-le}
use Rattle.std.proofs.lemmas.List.{drop-set-lt}
use Rattle.std.proofs.lemmas.Bool.{le-leb, lt-leb}
use Rattle.dr_bitmap.specs.Members.{members_from, members, least_from}

-- those of these numbers that are at least p
abbrev pub all_from : ℕ → List ℕ → List ℕ
all_from p xs = filter (λ x. nat_le p x) xs

-- none is below the number that they are counted from
all_kept : (p n : ℕ) (flags : List Bool) → p ≤ n → all_from p (members_from n flags) ≡ members_from n flags
all_kept p n [] le = refl
all_kept p n (true ∷ flags) le = rw (le-leb p n le) (ap (λ xs. n ∷ xs) (all_kept p (n + 1) flags (omega arith)))
all_kept p n (false ∷ flags) le = all_kept p (n + 1) flags (omega arith)

-- the members from a number on are those of the later flags
pub all_dropped : (n k m : ℕ) (flags : List Bool) → m ≡ n + k → all_from m (members_from n flags) ≡ members_from m (drop k flags)
all_dropped n zero m flags e = all_kept m n flags (omega arith) ∙ ap (λ i. members_from i flags) (omega arith)
all_dropped n (suc k) m [] e = refl
all_dropped n (suc k) m (true ∷ flags) e = rw (lt-leb m n (omega arith)) (all_dropped (n + 1) k m flags (omega arith))
all_dropped n (suc k) m (false ∷ flags) e = all_dropped (n + 1) k m flags (omega arith)

-- the least is the first of those
first_of_all : (p : ℕ) (xs : List ℕ) → least_from p xs ≡ slice_get (all_from p xs) 0
first_of_all p [] = refl
first_of_all p (x ∷ xs) = by_test (nat_le p x) x (least_from p xs) (all_from p xs) (first_of_all p xs)
  where
    by_test : (b : Bool) (y : ℕ) (o : Option ℕ) (ys : List ℕ) → o ≡ slice_get ys 0 → cond b (Some y) o ≡ slice_get (cond b (y ∷ ys) ys) 0
    by_test true y o ys h = refl
    by_test false y o ys h = h

-- the flags from a number on
from_flag : (flags : List Bool) (at : ℕ) (d : Bool) → at < length flags → drop at flags ≡ get_or flags at d ∷ drop (at + 1) flags
from_flag flags at d lt = drop-cons flags at d lt ∙ ap (λ k. get_or flags at d ∷ drop k flags) (sym (add-one at))

dropped : (at : ℕ) (flags : List Bool) → all_from at (members flags) ≡ members_from at (drop at flags)
dropped at flags = all_dropped 0 at at flags (omega arith)

-- what is set or taken below a number changes none from there on
pub all_from_set : (flags : List Bool) (p at : ℕ) (b : Bool) → at < p → all_from p (members (set flags at b)) ≡ all_from p (members flags)
all_from_set flags p at b lt = dropped p (set flags at b) ∙ ap (members_from p) (drop-set-lt p flags at b lt) ∙ sym (dropped p flags)

-- a member is the first of those from it on
pub all_here : (flags : List Bool) (at : ℕ) (d : Bool) → at < length flags → get_or flags at d ≡ true → all_from at (members flags) ≡ at ∷ all_from (at + 1) (members flags)
all_here flags at d lt is_set =
    dropped at flags ∙ ap (members_from at) (from_flag flags at d lt)
    ∙ ap (λ b. cond b (at ∷ members_from (at + 1) (drop (at + 1) flags)) (members_from (at + 1) (drop (at + 1) flags))) is_set
    ∙ ap (λ xs. at ∷ xs) (sym (dropped (at + 1) flags))

-- another number is passed over
pub all_later : (flags : List Bool) (at : ℕ) (d : Bool) → at < length flags → get_or flags at d ≡ false → all_from at (members flags) ≡ all_from (at + 1) (members flags)
all_later flags at d lt unset =
    dropped at flags ∙ ap (members_from at) (from_flag flags at d lt)
    ∙ ap (λ b. cond b (at ∷ members_from (at + 1) (drop (at + 1) flags)) (members_from (at + 1) (drop (at + 1) flags))) unset
    ∙ sym (dropped (at + 1) flags)

-- past the length there is none
pub all_past : (flags : List Bool) (at : ℕ) → length flags ≤ at → all_from at (members flags) ≡ []
all_past flags at le = dropped at flags ∙ ap (members_from at) (drop_of_length-le flags le)

pub least_here : (flags : List Bool) (at : ℕ) (d : Bool) → at < length flags → get_or flags at d ≡ true → least_from at (members flags) ≡ Some at
least_here flags at d lt is_set = first_of_all at (members flags) ∙ ap (λ xs. slice_get xs 0) (all_here flags at d lt is_set)

pub least_later : (flags : List Bool) (at : ℕ) (d : Bool) → at < length flags → get_or flags at d ≡ false → least_from (at + 1) (members flags) ≡ least_from at (members flags)
least_later flags at d lt unset =
    first_of_all (at + 1) (members flags) ∙ sym (ap (λ xs. slice_get xs 0) (all_later flags at d lt unset)) ∙ sym (first_of_all at (members flags))

pub least_past : (flags : List Bool) (at : ℕ) → length flags ≤ at → least_from at (members flags) ≡ None
least_past flags at le = first_of_all at (members flags) ∙ ap (λ xs. slice_get xs 0) (all_past flags at le)

pub ruleset least_steps = (least_here, least_later, least_past)
