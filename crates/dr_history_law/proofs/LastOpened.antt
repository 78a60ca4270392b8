-- An entry that is outstanding is the last one opened for its page.
use Rattle.std.proofs.Common.{◌≡◌, ℕ, ◌+◌, Bool, true, false, cond, List, [], ◌∷◌, ◌++◌, refl, arith, subst}
use Rattle.std.specs.Prelude.{◌&&◌, not, ◌==◌}
use Rattle.std.specs.List.{list_any}
use Rattle.std.proofs.lemmas.Bool.{eqb-true, eq-eqb, or_from, or_parts, false_from_ne_true, true≢false}
use Rattle.dr_types.specs.declared.guest.Guest.{Guest}
use Rattle.dr_history.specs.declared.event.Event.{Event}
use Rattle.dr_history.specs.declared.event.Event.TheVariants.{Opened, Reset}
use Rattle.dr_history.specs.Lookback.{count}
use Rattle.dr_history.specs.Kinds.{resets_entry, opens_page}
use Rattle.dr_history.specs.Protection.{writable, started, opened_last}
use Rattle.dr_history.specs.Legality.{IsLegalSoFar}
use Rattle.dr_history_law.specs.Outstanding.{is_outstanding, outstanding, LastForPage}
use Rattle.dr_history_law.proofs.Kept.{opens_facts}
use Rattle.dr_history_law.proofs.Earlier.{count_both}
use Rattle.dr_history_law.proofs.Outstanding.{last_outstanding}

some_case : (same gone : Bool) (c : ℕ) → same ≡ true → gone ≡ false → cond (same && not gone) (c + 1) c ≡ c + 1
some_case true true c s g = absurd (true≢false g)
some_case true false c s g = refl
some_case false gone c s g = cc

none_case : (last : Bool) (n : ℕ) → last ≡ false → n ≡ cond last 1 0 → n ≡ 0
none_case true n l h = absurd (true≢false l)
none_case false n l h = h

-- a page with an entry outstanding is opened last
outstanding_one : (guest : Guest) (v k page : ℕ) (later earlier : List Event) → IsLegalSoFar guest (later ++ Opened v k page ∷ earlier) → list_any (resets_entry v k) (later ++ Opened v k page ∷ earlier) ≡ false → opened_last page (later ++ Opened v k page ∷ earlier) ≡ false → ⊥
outstanding_one guest v k page later earlier legal u l =
    let past : List Event = later ++ Opened v k page ∷ earlier in
    let none : count (is_outstanding page past) past ≡ 0 = none_case (opened_last page past) (outstanding page past) l (last_outstanding guest past page legal) in
    let sum : count (is_outstanding page past) past ≡ count (is_outstanding page past) later + count (is_outstanding page past) (Opened v k page ∷ earlier) = count_both (is_outstanding page past) later (Opened v k page ∷ earlier) in
    let one : count (is_outstanding page past) (Opened v k page ∷ earlier) ≡ count (is_outstanding page past) earlier + 1 = some_case (page == page) (list_any (resets_entry v k) past) (count (is_outstanding page past) earlier) (eq-eqb page page refl) u in
    omega (arith, none, sum, one)

pub last_for_page : (guest : Guest) (v k page : ℕ) (later earlier : List Event) → IsLegalSoFar guest (later ++ Opened v k page ∷ earlier) → LastForPage v k page later earlier
last_for_page guest v k page [] earlier legal u = refl
last_for_page guest v k page (Opened w j q ∷ later) earlier legal u =
    or_from (q == page) (list_any (opens_page page) later)
    (false_from_ne_true (q == page) (λ s.
    outstanding_one guest v k page later earlier legal.1 u
    (or_parts (not (started (later ++ Opened v k page ∷ earlier))) (opened_last page (later ++ Opened v k page ∷ earlier))
    (subst (λ (p : ℕ). writable p (later ++ Opened v k page ∷ earlier) ≡ false) (eqb-true q page s) (opens_facts guest (later ++ Opened v k page ∷ earlier) w j q legal.0).protected)).1))
    (last_for_page guest v k page later earlier legal.1 u)
last_for_page guest v k page (Reset w j ∷ later) earlier legal u =
    last_for_page guest v k page later earlier legal.1 (or_parts (w == v && j == k) (list_any (resets_entry v k) (later ++ Opened v k page ∷ earlier)) u).1
last_for_page guest v k page (e ∷ later) earlier legal u = last_for_page guest v k page later earlier legal.1 u
