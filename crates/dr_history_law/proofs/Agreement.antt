-- Memory and the destination agree on a page that is not dirty, closing or writable.
use Rattle.std.proofs.Common.{◌≡◌, inl, inr, ℕ, Bool, true, false, cond, List, [], ◌∷◌, refl, ap, subst}
use Rattle.std.specs.Prelude.{◌||◌, not, ◌==◌}
use Rattle.std.proofs.lemmas.Bool.{eqb-true, or_left, cases_Bool, false_from_ne_true, both_ways}
use Rattle.dr_types.specs.declared.guest.Guest.{Guest}
use Rattle.dr_types.specs.Pages.{page_of_address}
use Rattle.dr_history.specs.declared.event.Event.{Event}
use Rattle.dr_history.specs.declared.event.Event.TheVariants.{Start, Write, Paint, Opened, Reset, Flushed, Copied}
use Rattle.dr_history.specs.Lookback.{is_number}
use Rattle.dr_history.specs.Protection.{started, writable, opened_last, closing, cached, resets_page}
use Rattle.dr_history.specs.Dirty.{dirty}
use Rattle.dr_history.specs.Unsent.{has_uncopied_write}
use Rattle.dr_history.specs.Legality.{IsLegalSoFar}
use Rattle.dr_history_law.specs.Agreement.{is_owed, Agree, AgreeOrOwed}
use Rattle.dr_history_law.proofs.Kept.{write_cached, paint_facts}
use Rattle.dr_history_law.proofs.Caches.{cached_page}
use Rattle.dr_history_law.proofs.Listing.{either}

writable_owed : (d c w : Bool) → (w || c) ≡ true → (d || c || w) ≡ true
writable_owed true c w h = refl
writable_owed false true w h = refl
writable_owed false false true h = refl
writable_owed false false false h = h

-- a page that is written is writable or closing
written_owed : (page : ℕ) (past : List Event) → (started past ≡ true → (writable page past || closing page past) ≡ true) → is_owed page past ≡ true
written_owed page past f =
    elim (cases_Bool (started past)) [
      | inl s ↦ writable_owed (dirty page past) (closing page past) (writable page past) (f s)
      | inr s ↦ writable_owed (dirty page past) (closing page past) (writable page past) (or_left (writable page past) (closing page past) (or_left (not (started past)) (opened_last page past) (ap not s)))
    ]

opened_owed : (d c s same last : Bool) → (d || c || (not s || last)) ≡ true → (d || c || (not s || cond same true last)) ≡ true
opened_owed true c s same last h = refl
opened_owed false true s same last h = refl
opened_owed false false false same last h = refl
opened_owed false false true true last h = refl
opened_owed false false true false last h = h

reset_owed : (d c s reset last : Bool) → (d || c || (not s || last)) ≡ true → (d || (reset || c) || (not s || cond reset false last)) ≡ true
reset_owed true c s reset last h = refl
reset_owed false c s true last h = refl
reset_owed false c s false last h = h

flushed_owed : (d c w : Bool) → (d || c || w) ≡ true → ((c || d) || false || w) ≡ true
flushed_owed true true w h = refl
flushed_owed true false w h = refl
flushed_owed false true w h = refl
flushed_owed false false w h = h

copied_owed : (same u d c w : Bool) → (u ≡ true → (d || c || w) ≡ true) → cond same false u ≡ true → (cond same false d || c || w) ≡ true
copied_owed true u d c w f h = cc
copied_owed false u d c w f h = f h

pub uncopied_owed : (guest : Guest) (past : List Event) (page : ℕ) → IsLegalSoFar guest past → has_uncopied_write guest page past ≡ true → is_owed page past ≡ true
uncopied_owed guest [] page legal u = refl
uncopied_owed guest (Start at ∷ past) page legal u = refl
uncopied_owed guest (Write v i space address len value ∷ past) page legal u =
    either (is_number page (page_of_address guest space address)) (has_uncopied_write guest page past) (is_owed page past ≡ true)
    (λ w. written_owed page past (λ s. cached_page guest past v page legal.1 (write_cached guest past v i space address len value page legal.0 w s)))
    (uncopied_owed guest past page legal.1) u
uncopied_owed guest (Paint v i q byte ∷ past) page legal u =
    either (q == page) (has_uncopied_write guest page past) (is_owed page past ≡ true)
    (λ w. written_owed page past (λ s. cached_page guest past v page legal.1 (subst (λ (p : ℕ). cached v p past ≡ true) (eqb-true q page w) ((paint_facts guest past v i q byte legal.0).is_cached s))))
    (uncopied_owed guest past page legal.1) u
uncopied_owed guest (Opened w k q ∷ past) page legal u =
    opened_owed (dirty page past) (closing page past) (started past) (q == page) (opened_last page past) (uncopied_owed guest past page legal.1 u)
uncopied_owed guest (Reset w k ∷ past) page legal u =
    reset_owed (dirty page past) (closing page past) (started past) (resets_page page (Reset w k) past) (opened_last page past) (uncopied_owed guest past page legal.1 u)
uncopied_owed guest (Flushed ∷ past) page legal u =
    flushed_owed (dirty page past) (closing page past) (writable page past) (uncopied_owed guest past page legal.1 u)
uncopied_owed guest (Copied r q ∷ past) page legal u =
    copied_owed (q == page) (has_uncopied_write guest page past) (dirty page past) (closing page past) (writable page past) (uncopied_owed guest past page legal.1) u
uncopied_owed guest (e ∷ past) page legal u = uncopied_owed guest past page legal.1 u

unwritten : {X : Type 0} (w u : Bool) (x y z : X) → (u ≡ false → y ≡ z) → (w || u) ≡ false → cond w x y ≡ z
unwritten true u x y z f h = cc
unwritten false u x y z f h = f h

copied_last : {X : Type 0} (same u : Bool) (x y : X) → (u ≡ false → x ≡ y) → cond same false u ≡ false → x ≡ cond same x y
copied_last true u x y f h = refl
copied_last false u x y f h = f h

-- without a write since its last Copied the page is the same in both
pub uncopied_differs : (guest : Guest) (past : List Event) (page : ℕ) → has_uncopied_write guest page past ≡ false → Agree guest page past
uncopied_differs guest [] page u = refl
uncopied_differs guest (Write v i space address len value ∷ past) page u =
    unwritten (is_number page (page_of_address guest space address)) (has_uncopied_write guest page past) _ _ _ (uncopied_differs guest past page) u
uncopied_differs guest (Paint v i q byte ∷ past) page u =
    unwritten (q == page) (has_uncopied_write guest page past) _ _ _ (uncopied_differs guest past page) u
uncopied_differs guest (Copied r q ∷ past) page u =
    copied_last (q == page) (has_uncopied_write guest page past) _ _ (uncopied_differs guest past page) u
uncopied_differs guest (e ∷ past) page u = uncopied_differs guest past page u

pub agree_or_owed : (guest : Guest) (past : List Event) → IsLegalSoFar guest past → AgreeOrOwed guest past
agree_or_owed guest past legal page s =
    elim (cases_Bool (has_uncopied_write guest page past)) [
      | inl u ↦ inr (uncopied_owed guest past page legal u)
      | inr u ↦ inl (uncopied_differs guest past page u)
    ]

-- memory and the destination agree on a page that is not dirty, closing or writable
pub agreed : (guest : Guest) (past : List Event) (page : ℕ) → IsLegalSoFar guest past → is_owed page past ≡ false → Agree guest page past
agreed guest past page legal h =
    uncopied_differs guest past page (false_from_ne_true (has_uncopied_write guest page past) (λ u. both_ways (is_owed page past) h (uncopied_owed guest past page legal u)))
