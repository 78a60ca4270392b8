-- Before Start no page is opened and none is cached.
use Rattle.std.proofs.Common.{◌≡◌, ℕ, Bool, true, false, cond, List, [], ◌∷◌, refl, sym, ◌∙◌, true≢false}
use Rattle.std.specs.Prelude.{Some, None}
use Rattle.std.proofs.lemmas.Bool.{and_parts, not-true}
use Rattle.dr_types.specs.declared.guest.Guest.{Guest}
use Rattle.dr_history.specs.declared.event.Event.{Event}
use Rattle.dr_history.specs.declared.event.Event.TheVariants.{Start, Opened, Filled, Reset, Flushed}
use Rattle.dr_history.specs.Entries.{page_of_entry}
use Rattle.dr_history.specs.Protection.{started, opened_last, resets_page}
use Rattle.dr_history.specs.Rules.{opens_protected, fills_writable, starts_paced}
use Rattle.dr_history.specs.Legality.{IsLegalSoFar}
use Rattle.dr_history_law.proofs.Kept.{keeps}
use Rattle.dr_state.specs.Pages.{IsUntouched}

-- an Opened and a Filled come after Start
opens_after : (guest : Guest) (past : List Event) (v k page : ℕ) → opens_protected guest past (Opened v k page) ≡ true → started past ≡ true
unfolding opens_protected
opens_after guest past v k page h = (and_parts _ _ (and_parts _ _ (and_parts _ _ h).0).0).0

fills_after : (guest : Guest) (past : List Event) (v page : ℕ) → fills_writable guest past (Filled v page) ≡ true → started past ≡ true
unfolding fills_writable
fills_after guest past v page h = (and_parts _ _ (and_parts _ _ h).0).0

no_more : {P : Type 0} (past : List Event) → started past ≡ true → started past ≡ false → P
no_more past h g = absurd (true≢false (sym h ∙ g))

pub untouched : (guest : Guest) (past : List Event) → IsLegalSoFar guest past → started past ≡ false → IsUntouched past
unfolding page_of_entry
untouched guest [] legal h = record { unopened = λ q. refl; uncached = λ v q. refl; no_entry = λ v k. refl }
untouched guest (Start at ∷ past) legal h = absurd (true≢false h)
untouched guest (Opened v k page ∷ past) legal h = no_more past (opens_after guest past v k page (keeps guest past (Opened v k page) legal.0).opens_protected_holds) h
untouched guest (Filled v page ∷ past) legal h = no_more past (fills_after guest past v page (keeps guest past (Filled v page) legal.0).fills_writable_holds) h
untouched guest (Flushed ∷ past) legal h =
    let u = untouched guest past legal.1 h in
    record { unopened = u.unopened; uncached = λ v q. refl; no_entry = u.no_entry }
untouched guest (Reset v k ∷ past) legal h =
    let u = untouched guest past legal.1 h in
    record {
      unopened = λ q. either (resets_page q (Reset v k) past) (opened_last q past) (u.unopened q);
      uncached = u.uncached;
      no_entry = u.no_entry;
    }
  where
    either : (b c : Bool) → c ≡ false → cond b false c ≡ false
    either true c is = refl
    either false c is = is
untouched guest (e ∷ past) legal h =
    let u = untouched guest past legal.1 h in
    record { unopened = u.unopened; uncached = u.uncached; no_entry = u.no_entry }

starts_once : (guest : Guest) (past : List Event) (at : ℕ) → starts_paced guest past (Start at) ≡ true → started past ≡ false
unfolding starts_paced
starts_once guest past at h = not-true (started past) (and_parts _ _ h).0

-- Start comes once
pub starts_untouched : (guest : Guest) (past : List Event) (at : ℕ) → IsLegalSoFar guest (Start at ∷ past) → IsUntouched past
starts_untouched guest past at legal = untouched guest past legal.1 (starts_once guest past at (keeps guest past (Start at) legal.0).starts_paced_holds)

-- an entry that has a page was opened after Start
pub resets_after : (guest : Guest) (past : List Event) (v k page : ℕ) → IsLegalSoFar guest past → page_of_entry v k past ≡ Some page → started past ≡ true
resets_after guest past v k page legal is = by_test (started past) (λ h. none_some page (sym is ∙ (untouched guest past legal h).no_entry v k))
  where
    none_some : (page : ℕ) → Some page ≡ None → ⊥
    none_some page e = cc

    by_test : (b : Bool) → (b ≡ false → ⊥) → b ≡ true
    by_test true h = refl
    by_test false h = absurd (h refl)
