-- What holds where no write and no throttle is owed.
use Rattle.std.proofs.Common.{◌≡◌, ℕ, Bool, true, false, cond, List, [], ◌∷◌, Option, Some, None, is_some, refl, sym}
use Rattle.std.specs.Prelude.{not, ◌&&◌}
use Rattle.std.proofs.lemmas.Bool.{and_parts, not-true}
use Rattle.dr_types.specs.declared.guest.Guest.{Guest}
use Rattle.dr_history.specs.declared.event.Event.{Event}
use Rattle.dr_history.specs.declared.event.Event.TheVariants.{Start, Read, Write, Paint, Local, Halted, Opened, Filled, Pushed, Exited, Deposited, Reset, Flushed, Asked, Copied, Stopped}
use Rattle.std.specs.List.{list_any}
use Rattle.std.specs.Prelude.{nat_le}
use Rattle.dr_history.specs.Kinds.{is_switched}
use Rattle.dr_history.specs.Vcpus.{stopped}
use Rattle.dr_history.specs.Throttles.{throttle_due}
use Rattle.dr_history.specs.Rules.{write_follows, may_end, last_owes_write, before_fault}
use Rattle.dr_event_law.specs.May.{AtRest, IsSettled}

none_some : {X : Type 0} (o : Option X) → is_some o ≡ false → o ≡ None
none_some None h = refl
none_some (Some x) h = cc

-- nothing is asked of the event that comes next
pub follows_rest : (guest : Guest) (past : List Event) (e : Event) → last_owes_write past ≡ false → write_follows guest past e ≡ true
unfolding write_follows
follows_rest guest [] e h = refl
follows_rest guest (Opened v k page ∷ past) e h = cc
follows_rest guest (Filled v page ∷ past) e h = cc
follows_rest guest (last ∷ past) e h = refl

pub rest_follows : (guest : Guest) (past : List Event) (e : Event) → may_end guest past ≡ true → write_follows guest past e ≡ true
rest_follows guest past e h = follows_rest guest past e (not-true (last_owes_write past) (and_parts _ _ h).0)

pub rest_due : (guest : Guest) (past : List Event) → may_end guest past ≡ true → throttle_due guest past ≡ None
rest_due guest past h = none_some (throttle_due guest past) (not-true (is_some (throttle_due guest past)) (and_parts _ _ h).1)

no_due : (b : Bool) (o : Option ℕ) → o ≡ None → cond b o None ≡ o
no_due true o h = refl
no_due false o h = sym h

pub unowed : (b : Bool) (o : Option ℕ) → o ≡ None → not (is_some (cond b o None)) ≡ true
unowed true o h = rw h refl
unowed false o h = refl

-- no throttle is due after an Opened or a Filled
pub due_opened : (guest : Guest) (past : List Event) (v k page : ℕ) → throttle_due guest (Opened v k page ∷ past) ≡ None
due_opened guest past v k page = no_due (nat_le 1 guest.settings.quota && not (stopped past)) None refl

pub due_filled : (guest : Guest) (past : List Event) (v page : ℕ) → throttle_due guest (Filled v page ∷ past) ≡ None
due_filled guest past v page = no_due (nat_le 1 guest.settings.quota && not (stopped past)) None refl

-- a settled event leaves the history at rest
pub settles : (guest : Guest) (past : List Event) (e : Event) → IsSettled e → list_any is_switched past ≡ false → AtRest guest (e ∷ past)
settles guest past (Start at) h here = record { rests = unowed (nat_le 1 guest.settings.quota && not (stopped past)) None refl; here = here }
settles guest past (Read v i space a x) h here = record { rests = unowed (nat_le 1 guest.settings.quota && not (stopped past)) None refl; here = here }
settles guest past (Write v i space a l x) h here = record { rests = unowed (nat_le 1 guest.settings.quota && not (stopped past)) None refl; here = here }
settles guest past (Paint v i q b) h here = record { rests = unowed (nat_le 1 guest.settings.quota && not (stopped past)) None refl; here = here }
settles guest past (Local v i) h here = record { rests = unowed (nat_le 1 guest.settings.quota && not (stopped past)) None refl; here = here }
settles guest past (Halted v i) h here = record { rests = unowed (nat_le 1 guest.settings.quota && not (stopped past)) None refl; here = here }
settles guest past (Pushed v k) h here = record { rests = unowed (nat_le 1 guest.settings.quota && not (stopped past)) None refl; here = here }
settles guest past (Exited v why) h here = record { rests = unowed (nat_le 1 guest.settings.quota && not (stopped past)) None refl; here = here }
settles guest past (Deposited v from to) h here = record { rests = unowed (nat_le 1 guest.settings.quota && not (stopped past)) None refl; here = here }
settles guest past (Reset v k) h here = record { rests = unowed (nat_le 1 guest.settings.quota && not (stopped past)) None refl; here = here }
settles guest past Flushed h here = record { rests = unowed (nat_le 1 guest.settings.quota && not (stopped past)) None refl; here = here }
settles guest past (Asked r) h here = record { rests = unowed (nat_le 1 guest.settings.quota && not (stopped past)) None refl; here = here }
settles guest past (Copied r page) h here = record { rests = unowed (nat_le 1 guest.settings.quota && not (stopped past)) None refl; here = here }
settles guest past Stopped h here = record { rests = unowed (nat_le 1 guest.settings.quota && not true) None refl; here = here }
settles guest past e h here = absurd h

-- at rest no Opened stands directly before
pub rest_before : (past : List Event) → last_owes_write past ≡ false → before_fault past ≡ past
rest_before [] h = refl
rest_before (Opened v k page ∷ past) h = cc
rest_before (last ∷ past) h = refl

pub ends_before : (guest : Guest) (past : List Event) → may_end guest past ≡ true → before_fault past ≡ past
ends_before guest past h = rest_before past (not-true (last_owes_write past) (and_parts _ _ h).0)
