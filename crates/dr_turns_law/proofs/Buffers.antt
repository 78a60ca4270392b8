-- What a buffer that is pushed leaves.
use Rattle.std.proofs.Common.{◌≡◌, ℕ, zero, suc, ◌+◌, ◌-◌, ◌<◌, max, Bool, true, false, cond, List, ◌∷◌, refl, ap, sym, ◌∙◌, subst, arith, add-one}
use Rattle.std.specs.Prelude.{◌==◌, nat_le}
use Rattle.std.proofs.lemmas.Bool.{eq-eqb, eqb-true, leb-false}
use Rattle.dr_types.specs.declared.guest.Guest.{Guest}
use Rattle.dr_types.specs.Scripts.{vcpu_count}
use Rattle.dr_types.specs.Validity.{IsValid}
use Rattle.dr_history.specs.declared.event.Event.{Event}
use Rattle.dr_history.specs.declared.event.Event.TheVariants.{Pushed}
use Rattle.dr_history.specs.Entries.{opens, pushes, used}
use Rattle.dr_history.specs.Vcpus.{in_guest}
use Rattle.dr_history.specs.Legality.{IsLegalSoFar}
use Rattle.dr_history_law.specs.Room.{unpushed, FitsRing}
use Rattle.dr_history_law.proofs.Room.{finds_room}
use Rattle.dr_history_law.proofs.Outstanding.{pushed_opened}
use Rattle.dr_event_law.specs.May.{MayFollow, AtRest}
use Rattle.dr_event_law.proofs.Rest.{settles}
use Rattle.dr_event_law.proofs.Legally.{pushes_legally}
use Rattle.dr_turns.specs.Buffers.{pushed_after, all_pushed, pushed_where_full}
use Rattle.dr_turns.specs.Between.{AtTurnsEnd, OthersFew}

one_case : (same : Bool) (p n : ℕ) → cond same (p + cond same n 0 + 1) (p + cond same n 0) ≡ p + cond same (suc n) 0
one_case true p n = omega arith
one_case false p n = refl

none_more : (same : Bool) (p : ℕ) → p ≡ p + cond same 0 0
none_more true p = omega arith
none_more false p = omega arith

-- so many are pushed more, by the vCPU alone
pub pushes_pushed : (v u n : ℕ) (past : List Event) → pushes u (pushed_after v n past) ≡ pushes u past + cond (v == u) n 0
pushes_pushed v u zero past = none_more (v == u) (pushes u past)
pushes_pushed v u (suc n) past = rw (pushes_pushed v u n past) (one_case (v == u) (pushes u past) n)

-- so many are pushed more
pub own_pushes : (v n : ℕ) (past : List Event) → pushes v (pushed_after v n past) ≡ pushes v past + n
own_pushes v n past = pushes_pushed v v n past ∙ ap (λ b. pushes v past + cond b n 0) (eq-eqb v v refl)

-- none is opened
pub opens_pushed : (v u n : ℕ) (past : List Event) → opens u (pushed_after v n past) ≡ opens u past
opens_pushed v u zero past = refl
opens_pushed v u (suc n) past = opens_pushed v u n past

-- no vCPU enters the guest or leaves it
pub inside_pushed : (v u n : ℕ) (past : List Event) → in_guest u (pushed_after v n past) ≡ in_guest u past
inside_pushed v u zero past = refl
inside_pushed v u (suc n) past = inside_pushed v u n past

-- after each push the history is at rest
pub rest_pushed : (guest : Guest) (v n : ℕ) (past : List Event) → AtRest guest past → AtRest guest (pushed_after v n past)
rest_pushed guest v zero past h = h
rest_pushed guest v (suc n) past h = settles guest (pushed_after v n past) (Pushed v (pushes v (pushed_after v n past))) tt (rest_pushed guest v n past h).here

-- the reserve and the buffer of a valid guest fit into its ring
pub valid_ring : (guest : Guest) → IsValid guest → FitsRing guest
valid_ring guest valid = record { reserve = valid.settings.reserve_some; ring = valid.settings.room }

some_left : (v n : ℕ) (past : List Event) → n < unpushed v past → pushes v (pushed_after v n past) < opens v (pushed_after v n past)
some_left v n past lt = omega (arith, lt, own_pushes v n past, opens_pushed v v n past)

-- a push finds a place of its ring that isn't in use
pub finds_place : (guest : Guest) (past : List Event) (v n : ℕ) → IsValid guest → IsLegalSoFar guest (pushed_after v n past) → n < unpushed v past → used v (pushed_after v n past) < guest.settings.ring
finds_place guest past v n valid legal lt = finds_room guest (pushed_after v n past) v (valid_ring guest valid) legal (some_left v n past lt)

-- the next entry of the buffer is pushed by the rules
pub next_follows : (guest : Guest) (past : List Event) (v n k : ℕ) → v < vcpu_count guest → IsValid guest → AtRest guest past → IsLegalSoFar guest (pushed_after v n past) → n < unpushed v past → k ≡ pushes v past + n → MayFollow guest (pushed_after v n past) (Pushed v k)
next_follows guest past v n k hv valid rest legal lt is =
    subst (λ (j : ℕ). MayFollow guest (pushed_after v n past) (Pushed v j)) (own_pushes v n past ∙ sym is)
    (pushes_legally guest (pushed_after v n past) v (rest_pushed guest v n past rest)
    (record { vcpu = hv; opened = some_left v n past lt; room = finds_place guest past v n valid legal lt }))

-- one push more
pub next_pushed : (v n k : ℕ) (past : List Event) → k ≡ pushes v past + n → Pushed v k ∷ pushed_after v n past ≡ pushed_after v (n + 1) past
next_pushed v n k past is = ap (λ (j : ℕ). Pushed v j ∷ pushed_after v n past) (is ∙ sym (own_pushes v n past)) ∙ ap (λ m. pushed_after v m past) (sym (add-one n))

few_at : (same : Bool) (guest : Guest) (past : List Event) (v u : ℕ) → (same ≡ true → v ≡ u) → (same ≡ false → unpushed u past < max 1 guest.settings.buffer) → opens u past - (pushes u past + cond same (unpushed v past) 0) < max 1 guest.settings.buffer
few_at true guest past v u e f = let d : unpushed v past ≡ unpushed u past = ap (λ (w : ℕ). unpushed w past) (e refl) in omega (arith, d)
few_at false guest past v u e f = omega (arith, f refl)

few_own : (guest : Guest) (past : List Event) (v u : ℕ) → ((v == u) ≡ false → unpushed u past < max 1 guest.settings.buffer) → opens u past - (pushes u past + cond (v == u) (unpushed v past) 0) < max 1 guest.settings.buffer
few_own guest past v u f = few_at (v == u) guest past v u (eqb-true v u) f

-- where only the vCPU's own buffer may be full, none is full once it is pushed whole
pub all_pushed_ends : (guest : Guest) (past : List Event) (v : ℕ) → AtRest guest past → OthersFew guest past v → AtTurnsEnd guest (all_pushed v past)
all_pushed_ends guest past v rest others = record {
  rests = (rest_pushed guest v (unpushed v past) past rest).rests;
  buffers = λ u.
      rw (pushes_pushed v u (unpushed v past) past, opens_pushed v u (unpushed v past) past) (few_own guest past v u (others.few u));
}

each_few : (same : Bool) (past : List Event) (v u m : ℕ) → (same ≡ true → v ≡ u) → unpushed v past < m → (same ≡ false → unpushed u past < m) → unpushed u past < m
each_few true past v u m e own other = subst (λ (w : ℕ). unpushed w past < m) (e refl) own
each_few false past v u m e own other = other refl

full_case : (full : Bool) (guest : Guest) (past : List Event) (v : ℕ) → (full ≡ false → unpushed v past < max 1 guest.settings.buffer) → AtRest guest past → OthersFew guest past v → AtTurnsEnd guest (cond full (all_pushed v past) past)
full_case true guest past v own rest others = all_pushed_ends guest past v rest others
full_case false guest past v own rest others = record { rests = rest.rests; buffers = λ u. each_few (v == u) past v u (max 1 guest.settings.buffer) (eqb-true v u) (own refl) (others.few u) }

-- and where it is pushed if it is full
pub pushed_ends : (guest : Guest) (past : List Event) (v : ℕ) → AtRest guest past → OthersFew guest past v → AtTurnsEnd guest (pushed_where_full guest v past)
pushed_ends guest past v rest others =
    full_case (nat_le (max 1 guest.settings.buffer) (unpushed v past)) guest past v (leb-false (max 1 guest.settings.buffer) (unpushed v past)) rest others

-- a buffer that is pushed whole is empty
pub none_left : (guest : Guest) (past : List Event) (v : ℕ) → IsLegalSoFar guest past → pushes v (all_pushed v past) ≡ opens v (all_pushed v past)
none_left guest past v legal = omega (arith, own_pushes v (unpushed v past) past, opens_pushed v v (unpushed v past) past, pushed_opened guest past v legal)
