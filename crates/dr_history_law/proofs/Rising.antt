-- Rising lists of numbers, of which the first so many are done.
use Rattle.std.proofs.Common.{◌≡◌, ℕ, zero, suc, ◌<◌, ◌≤◌, Bool, true, false, cond, List, [], ◌∷◌, ◌++◌, take, refl, ap, sym, ◌∙◌, arith, inl, inr, subst}
use Rattle.std.specs.Prelude.{◌==◌, ◌||◌, ◌&&◌, not, nat_le}
use Rattle.std.specs.List.{list_any, list_all, filter, slice_get}
use Rattle.std.proofs.lemmas.Bool.{eq-eqb, ne_eqb, le-leb, lt-leb}
use Rattle.std.proofs.lemmas.Bool.Decides.{eqb_tells}
use Rattle.std.proofs.lemmas.List.Elements.{filter-append}
use Rattle.dr_history.specs.Lookback.{below, is_number}
use Rattle.dr_history_law.specs.Copies.{AllAbove, IsRising}

-- whether the number is among these
abbrev pub among : ℕ → List ℕ → Bool
among q xs = list_any (λ x. x == q) xs

-- the number is the least of these that isn't among the first i
abbrev pub is_least_after : ℕ → ℕ → List ℕ → Bool
is_least_after q i xs = among q xs && not (among q (take i xs)) && list_all (λ x. nat_le q x || among x (take i xs)) xs

above_not : (x q : ℕ) (ys : List ℕ) → AllAbove x ys → q ≤ x → among q ys ≡ false
above_not x q [] h le = refl
above_not x q (y ∷ ys) h le =
    let lt : x < y = h.0 in
    let ne : (y == q) ≡ false = ne_eqb y q (λ e. omega (arith, e, lt, le)) in
    rw ne (above_not x q ys h.1 le)

above_all : (x : ℕ) (ys : List ℕ) → AllAbove x ys → list_all (λ y. nat_le x y || false) ys ≡ true
above_all x [] h = refl
above_all x (y ∷ ys) h =
    let lt : x < y = h.0 in
    let le : nat_le x y ≡ true = le-leb x y (omega arith) in
    rw le (above_all x ys h.1)

least_first_same : (p : ℕ) (ps : List ℕ) → AllAbove p ps → (((p == p) || among p ps) && (not false) && ((nat_le p p || false) && list_all (λ x. nat_le p x || false) ps)) ≡ true
least_first_same p ps h =
    let s : (p == p) ≡ true = eq-eqb p p refl in
    let l : nat_le p p ≡ true = le-leb p p (omega arith) in
    rw (s, l, above_all p ps h) refl

no_and : (a b : Bool) → a ≡ false → (a && b) ≡ false
no_and a b h = ap (λ x. x && b) h

not_least : (b : Bool) (le all : Bool) → (b ≡ true → le ≡ false) → (b && true && ((le || false) && all)) ≡ false
not_least false le all h = refl
not_least true le all h = let e : le ≡ false = h refl in rw e refl

among_above : (x q : ℕ) (ys : List ℕ) → AllAbove x ys → among q ys ≡ true → x < q
among_above x q [] h a = cc
among_above x q (y ∷ ys) h a =
    elim (eqb_tells y q) [
      | inl s ↦ let e : y ≡ q = s.1 in let lt : x < y = h.0 in omega (arith, e, lt)
      | inr d ↦ among_above x q ys h.1 (let e : (y == q) ≡ false = d.0 in (rw e at a))
    ]

least_first : (q : ℕ) (xs : List ℕ) → IsRising xs → is_least_after q zero xs ≡ is_number q (slice_get xs 0)
least_first q [] r = refl
least_first q (p ∷ ps) r =
    elim (eqb_tells p q) [
      | inl s ↦ let e : p ≡ q = s.1 in subst (λ (n : ℕ). is_least_after n zero (p ∷ ps) ≡ (p == n)) e (least_first_same p ps r.0 ∙ sym (eq-eqb p p refl))
      | inr d ↦
          let ne : (p == q) ≡ false = d.0 in
          rw ne (not_least (among q ps) (nat_le q p) _ (λ a. let lt : p < q = among_above p q ps r.0 a in lt-leb q p lt))
    ]

-- the first is done, and it is none of the others
above_skips : (q p : ℕ) (ys zs : List ℕ) → AllAbove p ys → list_all (λ y. nat_le q y || ((p == y) || among y zs)) ys ≡ list_all (λ y. nat_le q y || among y zs) ys
above_skips q p [] zs h = refl
above_skips q p (y ∷ ys) zs h =
    let lt : p < y = h.0 in
    let ne : (p == y) ≡ false = ne_eqb p y (λ e. omega (arith, e, lt)) in
    rw ne (ap (λ b. (nat_le q y || among y zs) && b) (above_skips q p ys zs h.1))

or_always : (a : Bool) → (a || true) ≡ true
or_always true = refl
or_always false = refl

among_none : (q p : ℕ) (ps : List ℕ) (i : ℕ) → p ≡ q → AllAbove p ps → is_number q (slice_get ps i) ≡ false
among_none q p [] i e h = refl
among_none q p (x ∷ xs) zero e h = let lt : p < x = h.0 in ne_eqb x q (λ w. omega (arith, w, e, lt))
among_none q p (x ∷ xs) (suc i) e h = among_none q p xs i e h.1

never : (a b : Bool) → (a && false && b) ≡ false
never true b = refl
never false b = refl

pub least_after : (q i : ℕ) (xs : List ℕ) → IsRising xs → is_least_after q i xs ≡ is_number q (slice_get xs i)
least_after q zero xs r = least_first q xs r
least_after q (suc i) [] r = refl
least_after q (suc i) (p ∷ ps) r =
    elim (eqb_tells p q) [
      | inl s ↦ let e : (p == q) ≡ true = s.0 in rw e (sym (among_none q p ps i s.1 r.0))
      | inr d ↦
          let ne : (p == q) ≡ false = d.0 in
          let own : (p == p) ≡ true = eq-eqb p p refl in
          rw (ne, own, or_always (nat_le q p), above_skips q p ps (take i ps) r.0) (least_after q i ps r.1)
    ]

-- the pages below n that pass rise
above_more : (x n : ℕ) (xs : List ℕ) → AllAbove x xs → x < n → AllAbove x (xs ++ n ∷ [])
above_more x n [] h lt = (lt, tt)
above_more x n (y ∷ ys) h lt = (h.0, above_more x n ys h.1 lt)

abbrev AllUnder : ℕ → List ℕ → Type 0
AllUnder n [] = Unit {0}
AllUnder n (x ∷ xs) = (x < n) × AllUnder n xs

under_more : (n : ℕ) (xs : List ℕ) → AllUnder n xs → AllUnder (suc n) (xs ++ n ∷ [])
under_more n [] h = (omega arith, tt)
under_more n (x ∷ xs) h = (let lt : x < n = h.0 in omega arith, under_more n xs h.1)

under_up : (n : ℕ) (xs : List ℕ) → AllUnder n xs → AllUnder (suc n) xs
under_up n [] h = tt
under_up n (x ∷ xs) h = (let lt : x < n = h.0 in omega arith, under_up n xs h.1)

rising_more : (n : ℕ) (xs : List ℕ) → IsRising xs → AllUnder n xs → IsRising (xs ++ n ∷ [])
rising_more n [] r u = (tt, tt)
rising_more n (x ∷ xs) r u = (above_more x n xs r.0 u.0, rising_more n xs r.1 u.1)

nothing : (xs : List ℕ) → xs ++ [] ≡ xs
nothing [] = refl
nothing (x ∷ xs) = ap (λ ys. x ∷ ys) (nothing xs)

passing : (p : ℕ → Bool) (n : ℕ) → IsRising (filter p (below n)) × AllUnder n (filter p (below n))
passing p zero = (tt, tt)
passing p (suc n) =
    let old = passing p n in
    let P : List ℕ → Type 0 = λ xs. IsRising xs × AllUnder (suc n) xs in
    let Q : Bool → Type 0 = λ b. P (filter p (below n) ++ cond b (n ∷ []) []) in
    subst P (sym (filter-append p (below n) (n ∷ [])))
    (elim (p n) as Q [ true ↦ (rising_more n _ old.0 old.1, under_more n _ old.1) | false ↦ subst P (sym (nothing _)) (old.0, under_up n _ old.1) ])

pub rising_filter : (p : ℕ → Bool) (n : ℕ) → IsRising (filter p (below n))
rising_filter p n = (passing p n).0
