-- All that was opened before the last Asked is reset where each vCPU has reset as many entries as it had opened.
use Rattle.std.proofs.Common.{◌≡◌, ℕ, zero, suc, ◌+◌, ◌<◌, ◌≤◌, Bool, true, false, cond, List, [], ◌∷◌, refl, ap, sym, ◌∙◌, arith, inl, inr, subst}
use Rattle.std.specs.Prelude.{◌==◌, ◌||◌, ◌&&◌, nat_le, nat_lt, None}
use Rattle.std.specs.List.{list_any, list_all}
use Rattle.std.proofs.lemmas.Bool.{eq-eqb, le-leb, lt-ltb, le-ltb, leb-true, ltb-true, cases_lt, and_parts, and_from}
use Rattle.std.proofs.lemmas.Bool.Decides.{eqb_tells}
use Rattle.std.proofs.lemmas.List.Folds.{list_all-append}
use Rattle.dr_types.specs.declared.guest.Guest.{Guest}
use Rattle.dr_types.specs.Scripts.{vcpu_count}
use Rattle.dr_history.specs.declared.event.Event.{Event}
use Rattle.dr_history.specs.declared.event.Event.TheVariants.{Opened, Reset, Asked}
use Rattle.dr_history.specs.Lookback.{before, below}
use Rattle.dr_history.specs.Kinds.{is_asked, resets_entry}
use Rattle.dr_history.specs.Entries.{opens, resets}
use Rattle.dr_history.specs.Rounds.{is_reset_in}
use Rattle.dr_history.specs.Legality.{IsLegalSoFar, broken}
use Rattle.dr_history.specs.Rules.{names_exist}
use Rattle.dr_history_law.proofs.Outstanding.{at_same}
use Rattle.dr_history_law.proofs.Kept.{keeps, opens_facts, resets_facts}

-- a test of each number below n
all_below_suc : (p : ℕ → Bool) (n : ℕ) → list_all p (below (suc n)) ≡ (list_all p (below n) && (p n && true))
all_below_suc p n = list_all-append p (below n) (n ∷ [])

pub all_at : (p : ℕ → Bool) (n v : ℕ) → list_all p (below n) ≡ true → v < n → p v ≡ true
all_at p zero v h lt = absurd (omega arith)
all_at p (suc n) v h lt =
    let a = and_parts _ _ (sym (all_below_suc p n) ∙ h) in
    elim (cases_lt v n) [
      | inl l ↦ all_at p n v a.0 l
      | inr le ↦ let e : n ≡ v = omega (arith, le) in subst (λ (u : ℕ). p u ≡ true) e (and_parts _ _ a.1).0
    ]

pub all_from : (p : ℕ → Bool) (n : ℕ) → ((v : ℕ) → v < n → p v ≡ true) → list_all p (below n) ≡ true
all_from p zero h = refl
all_from p (suc n) h =
    all_below_suc p n ∙ ap (λ b. b && (p n && true)) (all_from p n (λ v lt. h v (omega arith))) ∙ ap (λ b. b && true) (h n (omega arith))

-- two tests that hold together are one
pub same_test : (a b : Bool) → (a ≡ true → b ≡ true) → (b ≡ true → a ≡ true) → a ≡ b
same_test true true f g = refl
same_test false false f g = refl
same_test true false f g = sym (f refl)
same_test false true f g = g refl

raised : (same : Bool) (a : ℕ) → a ≤ cond same (a + 1) a
raised true a = omega arith
raised false a = omega arith

-- one number is raised by one
pub all_raised : (f g : ℕ → ℕ) (n v : ℕ) → v < n → list_all (λ u. nat_le (cond (v == u) (f u + 1) (f u)) (g u)) (below n) ≡ (nat_lt (f v) (g v) && list_all (λ u. nat_le (f u) (g u)) (below n))
all_raised f g n v lt =
    same_test _ _
    (λ h.
    and_from _ _
    (let own : nat_le (cond (v == v) (f v + 1) (f v)) (g v) ≡ true = all_at (λ u. nat_le (cond (v == u) (f u + 1) (f u)) (g u)) n v h lt in
    let e : (v == v) ≡ true = eq-eqb v v refl in
    let le : f v + 1 ≤ g v = leb-true (f v + 1) (g v) (sym (ap (λ b. nat_le (cond b (f v + 1) (f v)) (g v)) e) ∙ own) in
    lt-ltb (f v) (g v) (omega arith))
    (all_from (λ u. nat_le (f u) (g u)) n (λ u l.
    let le : cond (v == u) (f u + 1) (f u) ≤ g u = leb-true _ _ (all_at (λ w. nat_le (cond (v == w) (f w + 1) (f w)) (g w)) n u h l) in
    le-leb (f u) (g u) (omega (arith, raised (v == u) (f u))))))
    (λ h.
    let a = and_parts _ _ h in
    all_from (λ u. nat_le (cond (v == u) (f u + 1) (f u)) (g u)) n (λ u l.
    elim (eqb_tells v u) [
      | inl s ↦
          let e : (v == u) ≡ true = s.0 in
          let below : f v < g v = ltb-true (f v) (g v) a.0 in
          let under : f u < g u = subst (λ (w : ℕ). f w < g w) s.1 below in
          ap (λ b. nat_le (cond b (f u + 1) (f u)) (g u)) e ∙ le-leb (f u + 1) (g u) (omega arith)
      | inr d ↦ let e : (v == u) ≡ false = d.0 in ap (λ b. nat_le (cond b (f u + 1) (f u)) (g u)) e ∙ all_at (λ w. nat_le (f w) (g w)) n u a.1 l
    ]))

zero_all : (g : ℕ → ℕ) (n : ℕ) → list_all (λ u. nat_le 0 (g u)) (below n) ≡ true
zero_all g n = all_from (λ u. nat_le 0 (g u)) n (λ u l. le-leb 0 (g u) (omega arith))

reset_case : (same : Bool) (j k n : ℕ) → (same ≡ true → j ≡ n) → ((same && j == k) || nat_lt k n) ≡ nat_lt k (cond same (n + 1) n)
reset_case false j k n f = refl
reset_case true j k n f =
    let e : j ≡ n = f refl in
    elim (eqb_tells j k) [
      | inl s ↦ let t : (j == k) ≡ true = s.0 in ap (λ b. b || nat_lt k n) t ∙ sym (lt-ltb k (n + 1) (omega (arith, s.1, e)))
      | inr d ↦
          let t : (j == k) ≡ false = d.0 in
          ap (λ b. b || nat_lt k n) t
          ∙ elim (cases_lt k n) [
            | inl l ↦ lt-ltb k n l ∙ sym (lt-ltb k (n + 1) (omega (arith, l)))
            | inr le ↦ le-ltb k n le ∙ sym (le-ltb k (n + 1) (omega (arith, le, d.1, e)))
          ]
    ]

-- an entry is reset where its number is below that of the resets
pub reset_below : (guest : Guest) (past : List Event) (w k : ℕ) → IsLegalSoFar guest past → list_any (resets_entry w k) past ≡ nat_lt k (resets w past)
reset_below guest [] w k legal = sym (le-ltb k 0 (omega arith))
reset_below guest (Reset v j ∷ past) w k legal =
    ap (λ b. (v == w && j == k) || b) (reset_below guest past w k legal.1)
    ∙ reset_case (v == w) j k (resets w past) (at_same (λ u. resets u past) v w j (resets_facts guest past v j legal.0).number)
reset_below guest (e ∷ past) w k legal = reset_below guest past w k legal.1

named : (guest : Guest) (past : List Event) (v k page : ℕ) → broken guest past (Opened v k page) ≡ None → v < vcpu_count guest
unfolding names_exist
named guest past v k page h =
    ltb-true v (vcpu_count guest) (and_parts _ _ (keeps guest past (Opened v k page) h).names_exist_holds).0

-- of the events xs, each Opened has its Reset in past where the counts say so
pub covered_by : (guest : Guest) (past xs : List Event) → IsLegalSoFar guest past → IsLegalSoFar guest xs → list_all (is_reset_in past) xs ≡ list_all (λ v. nat_le (opens v xs) (resets v past)) (below (vcpu_count guest))
covered_by guest past [] legal kept_xs = sym (zero_all (λ v. resets v past) (vcpu_count guest))
covered_by guest past (Opened v k page ∷ xs) legal kept_xs =
    ap (λ b. b && list_all (is_reset_in past) xs) (reset_below guest past v k legal ∙ ap (λ j. nat_lt j (resets v past)) (opens_facts guest xs v k page kept_xs.0).number)
    ∙ ap (λ b. nat_lt (opens v xs) (resets v past) && b) (covered_by guest past xs legal kept_xs.1)
    ∙ sym (all_raised (λ u. opens u xs) (λ u. resets u past) (vcpu_count guest) v (named guest xs v k page kept_xs.0))
covered_by guest past (e ∷ xs) legal kept_xs = covered_by guest past xs legal kept_xs.1

before_legal : (guest : Guest) (past : List Event) → IsLegalSoFar guest past → IsLegalSoFar guest (before is_asked past)
before_legal guest [] legal = tt
before_legal guest (Asked r ∷ past) legal = legal.1
before_legal guest (e ∷ past) legal = before_legal guest past legal.1

pub covered : (guest : Guest) (past : List Event) → IsLegalSoFar guest past → list_all (is_reset_in past) (before is_asked past) ≡ list_all (λ v. nat_le (opens v (before is_asked past)) (resets v past)) (below (vcpu_count guest))
covered guest past legal = covered_by guest past (before is_asked past) legal (before_legal guest past legal)
