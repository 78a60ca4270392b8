-- A cached page is writable or closing.
use Rattle.std.proofs.Common.{◌≡◌, ℕ, Bool, true, false, List, [], ◌∷◌, refl}
use Rattle.std.specs.Prelude.{◌||◌, ◌&&◌, not}
use Rattle.dr_types.specs.declared.guest.Guest.{Guest}
use Rattle.dr_history.specs.declared.event.Event.{Event}
use Rattle.dr_history.specs.declared.event.Event.TheVariants.{Start, Opened, Filled, Reset, Flushed}
use Rattle.dr_history.specs.Protection.{cached, writable, closing, started, opened_last, resets_page}
use Rattle.dr_history.specs.Legality.{IsLegalSoFar}
use Rattle.dr_history_law.proofs.Kept.{opens_facts, fills_facts, starts_facts}
use Rattle.std.specs.Prelude.{◌==◌}
use Rattle.std.proofs.lemmas.Bool.{eqb-true}
use Rattle.std.proofs.Common.{subst, cond}

-- nothing is cached before Start
pub none_cached : (guest : Guest) (past : List Event) (v page : ℕ) → IsLegalSoFar guest past → started past ≡ false → cached v page past ≡ false
none_cached guest [] v page legal s = refl
none_cached guest (Start at ∷ past) v page legal s = cc
none_cached guest (Opened w k q ∷ past) v page legal s = let h = (opens_facts guest past w k q legal.0).started in cc
none_cached guest (Filled w q ∷ past) v page legal s = let h = (fills_facts guest past w q legal.0).started in cc
none_cached guest (Flushed ∷ past) v page legal s = refl
none_cached guest (e ∷ past) v page legal s = none_cached guest past v page legal.1 s

opened_case : (s same last closed mine had : Bool) → (had ≡ true → ((not s || last) || closed) ≡ true) → ((mine && same) || had) ≡ true → ((not s || cond same true last) || closed) ≡ true
opened_case true true last closed mine had ih c = refl
opened_case false true last closed mine had ih c = refl
opened_case s false last closed true had ih c = ih c
opened_case s false last closed false had ih c = ih c

reset_case : (s reset last closed : Bool) → ((not s || last) || closed) ≡ true → ((not s || cond reset false last) || (reset || closed)) ≡ true
reset_case true true last closed h = refl
reset_case false true last closed h = refl
reset_case s false last closed h = h

filled_case : (mine same had : Bool) (G : Type 0) → (same ≡ true → G) → (had ≡ true → G) → ((mine && same) || had) ≡ true → G
filled_case true true had G f g c = f refl
filled_case true false had G f g c = g c
filled_case false same had G f g c = g c

or_left : (a b : Bool) → a ≡ true → (a || b) ≡ true
or_left true b h = refl
or_left false b h = cc

pub cached_page : (guest : Guest) (past : List Event) (v page : ℕ) → IsLegalSoFar guest past → cached v page past ≡ true → (writable page past || closing page past) ≡ true
cached_page guest [] v page legal c = refl
cached_page guest (Start at ∷ past) v page legal c = let h = none_cached guest past v page legal.1 (starts_facts guest past at legal.0) in cc
cached_page guest (Opened w k q ∷ past) v page legal c =
    opened_case (started past) (q == page) (opened_last page past) (closing page past) (w == v) (cached v page past) (cached_page guest past v page legal.1) c
cached_page guest (Filled w q ∷ past) v page legal c =
    let W : ℕ → Type 0 = λ p. writable p past ≡ true in
    filled_case (w == v) (q == page) (cached v page past) ((writable page past || closing page past) ≡ true)
    (λ h. or_left _ _ (subst W (eqb-true q page h) (fills_facts guest past w q legal.0).writable))
    (cached_page guest past v page legal.1) c
cached_page guest (Reset w k ∷ past) v page legal c =
    reset_case (started past) (resets_page page (Reset w k) past) (opened_last page past) (closing page past) (cached_page guest past v page legal.1 c)
cached_page guest (Flushed ∷ past) v page legal c = cc
cached_page guest (e ∷ past) v page legal c = cached_page guest past v page legal.1 c
