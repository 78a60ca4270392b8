-- How many entries of a ring are used or about to be.
use Rattle.std.proofs.Common.{◌≡◌, ℕ, ◌+◌, ◌-◌, ◌<◌, ◌≤◌, max, Bool, true, false, cond, List, [], ◌∷◌, refl, arith, subst}
use Rattle.std.specs.Prelude.{◌==◌}
use Rattle.std.proofs.lemmas.Bool.{eqb-true, true≢false, false≢true}
use Rattle.dr_types.specs.declared.guest.Guest.{Guest}
use Rattle.dr_types.specs.Pages.{soft_limit}
use Rattle.dr_history.specs.declared.event.Event.{Event}
use Rattle.dr_history.specs.declared.event.Event.TheVariants.{Write, Paint, Opened, Reset}
use Rattle.dr_history.specs.Entries.{opens, pushes, resets, used}
use Rattle.dr_history.specs.Legality.{IsLegalSoFar}
use Rattle.dr_history_law.specs.Order.{last_opens_for}
use Rattle.dr_history_law.specs.Room.{unpushed, room, FitsRing, RoomInRing}
use Rattle.dr_history_law.proofs.Kept.{op_facts, Executes}
use Rattle.dr_history_law.proofs.Outstanding.{pushed_opened}
use Rattle.dr_history_law.proofs.Order.{reset_pushed, owed, unowed, open_count, none_owed}

write_room_case : (same : Bool) (o p r soft b : ℕ) → p - r < soft → o - p < max 1 b → cond same (o + 1) o ≤ r + (soft - 1 + max 1 b)
write_room_case true o p r soft b h k = omega arith
write_room_case false o p r soft b h k = omega arith

-- the write that an Opened is for leaves no more than the room
write_room : (guest : Guest) (past : List Event) (v : ℕ) → last_opens_for v past ≡ true → Executes guest past v → opens v past ≤ resets v past + room guest
write_room guest [] v o x = absurd (false≢true o)
write_room guest (Opened w k q ∷ past) v o x =
    write_room_case (w == v) (opens v past) (pushes v past) (resets v past) (soft_limit guest) guest.settings.buffer x.room x.buffer
write_room guest (last ∷ past) v o x = absurd (false≢true o)

write_stays : (same last : Bool) (o b : ℕ) → (last ≡ true → same ≡ true) → (same ≡ true → last ≡ true → o ≤ b) → o ≤ b + cond last 1 0 → o ≤ b + 0
write_stays same true o b f g h = let l : o ≤ b = g (f refl) refl in omega arith
write_stays same false o b f g h = h

reset_stays : (same last : Bool) (o r b : ℕ) → last ≡ false → o ≤ (r + b) + cond last 1 0 → o ≤ (cond same (r + 1) r + b) + 0
reset_stays same true o r b z h = absurd (true≢false z)
reset_stays true false o r b z h = omega arith
reset_stays false false o r b z h = h

opens_in_room : (guest : Guest) (past : List Event) (v : ℕ) → IsLegalSoFar guest past → opens v past ≤ (resets v past + room guest) + cond (last_opens_for v past) 1 0
opens_in_room guest [] v legal = omega arith
opens_in_room guest (Opened w k q ∷ past) v legal =
    open_count (w == v) (last_opens_for v past) (opens v past) (resets v past + room guest) (unowed guest past v (Opened w k q) legal.0 refl) (opens_in_room guest past v legal.1)
opens_in_room guest (Write w i space address len value ∷ past) v legal =
    write_stays (w == v) (last_opens_for v past) (opens v past) (resets v past + room guest) (owed guest past v (Write w i space address len value) legal.0)
    (λ s o. write_room guest past v o (subst (λ (u : ℕ). Executes guest past u) (eqb-true w v s) (op_facts guest past (Write w i space address len value) w legal.0 refl)))
    (opens_in_room guest past v legal.1)
opens_in_room guest (Paint w i q byte ∷ past) v legal =
    write_stays (w == v) (last_opens_for v past) (opens v past) (resets v past + room guest) (owed guest past v (Paint w i q byte) legal.0)
    (λ s o. write_room guest past v o (subst (λ (u : ℕ). Executes guest past u) (eqb-true w v s) (op_facts guest past (Paint w i q byte) w legal.0 refl)))
    (opens_in_room guest past v legal.1)
opens_in_room guest (Reset w k ∷ past) v legal =
    reset_stays (w == v) (last_opens_for v past) (opens v past) (resets v past) (room guest) (unowed guest past v (Reset w k) legal.0 refl) (opens_in_room guest past v legal.1)
opens_in_room guest (e ∷ past) v legal =
    none_owed (last_opens_for v past) (opens v past) (resets v past + room guest) (unowed guest past v e legal.0 refl) (opens_in_room guest past v legal.1)

room_case : (last : Bool) (o p r b : ℕ) → last ≡ false → r ≤ p → p ≤ o → o ≤ (r + b) + cond last 1 0 → (p - r) + (o - p) ≤ b
room_case true o p r b z h k l = absurd (true≢false z)
room_case false o p r b z h k l = omega arith

pub stays_in_room : (guest : Guest) (past : List Event) (v : ℕ) → IsLegalSoFar guest past → last_opens_for v past ≡ false → used v past + unpushed v past ≤ room guest
stays_in_room guest past v legal z =
    room_case (last_opens_for v past) (opens v past) (pushes v past) (resets v past) (room guest) z (reset_pushed guest past v legal) (pushed_opened guest past v legal) (opens_in_room guest past v legal)

ring_case : (last : Bool) (o p r ring reserve buffer : ℕ) → 1 ≤ reserve → reserve + buffer < ring → p < o → o ≤ (r + (ring - reserve - buffer - 1 + max 1 buffer)) + cond last 1 0 → p - r < ring
ring_case true o p r ring reserve buffer a b c d = omega arith
ring_case false o p r ring reserve buffer a b c d = omega arith

pub finds_room : (guest : Guest) (past : List Event) (v : ℕ) → FitsRing guest → IsLegalSoFar guest past → pushes v past < opens v past → used v past < guest.settings.ring
finds_room guest past v fits legal lt =
    ring_case (last_opens_for v past) (opens v past) (pushes v past) (resets v past) guest.settings.ring guest.settings.reserve guest.settings.buffer fits.reserve fits.ring lt (opens_in_room guest past v legal)

room_in_case : (ring reserve buffer : ℕ) → reserve + buffer < ring → ring - reserve - buffer - 1 + max 1 buffer + reserve ≤ ring
room_in_case ring reserve buffer a = omega arith

pub room_in_ring : (guest : Guest) → FitsRing guest → RoomInRing guest
room_in_ring guest fits = room_in_case guest.settings.ring guest.settings.reserve guest.settings.buffer fits.ring

pub room_below_ring : (guest : Guest) → FitsRing guest → room guest < guest.settings.ring
room_below_ring guest fits = omega (arith, room_in_ring guest fits, fits.reserve)
