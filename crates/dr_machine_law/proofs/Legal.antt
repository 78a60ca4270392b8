-- What a legal history leaves open at its end.
use Rattle.std.proofs.Common.{◌≡◌, ℕ, ◌+◌, ◌≤◌, false, List, [], ◌∷◌, refl, true≢false}
use Rattle.std.proofs.lemmas.Bool.{and_parts, not-true}
use Rattle.dr_types.specs.declared.guest.Guest.{Guest}
use Rattle.dr_history.specs.declared.event.Event.{Event}
use Rattle.dr_history.specs.declared.event.Event.TheVariants.{Opened}
use Rattle.dr_history.specs.Entries.{used}
use Rattle.dr_history.specs.Kinds.{is_opened_of}
use Rattle.dr_history.specs.Legality.{IsLegal}
use Rattle.dr_history.specs.Rules.{owes_write, last_owes_write}
use Rattle.dr_history_law.specs.Order.{last_opens_for}
use Rattle.dr_history_law.specs.Room.{unpushed, room}
use Rattle.dr_history_law.proofs.Room.{stays_in_room}

not_opened : (v : ℕ) (e : Event) → owes_write e ≡ false → is_opened_of v e ≡ false
not_opened v (Opened w k page) h = absurd (true≢false h)
not_opened v e h = refl

opens_none : (v : ℕ) (past : List Event) → last_owes_write past ≡ false → last_opens_for v past ≡ false
opens_none v [] h = refl
opens_none v (e ∷ past) h = not_opened v e h

-- no Opened stands last
pub owes_no_opened : (guest : Guest) (past : List Event) (v : ℕ) → IsLegal guest past → last_opens_for v past ≡ false
owes_no_opened guest past v legal = opens_none v past (not-true (last_owes_write past) (and_parts _ _ legal.1).0)

-- the entries used and those unpushed are no more than the room
pub legal_room : (guest : Guest) (past : List Event) (v : ℕ) → IsLegal guest past → used v past + unpushed v past ≤ room guest
legal_room guest past v legal = stays_in_room guest past v legal.0 (owes_no_opened guest past v legal)
