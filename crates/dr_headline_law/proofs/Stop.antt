-- A history that has switched over was stopped, and its memory is what it was there.
use Rattle.std.proofs.Common.{◌≡◌, true, List, [], ◌∷◌, ◌++◌, refl, ap, sym, subst}
use Rattle.std.specs.List.{list_any}
use Rattle.std.proofs.lemmas.Bool.{both_ways, false≢true}
use Rattle.dr_types.specs.declared.guest.Guest.{Guest}
use Rattle.dr_history.specs.declared.event.Event.{Event}
use Rattle.dr_history.specs.declared.event.Event.TheVariants.{Stopped, Switched}
use Rattle.dr_history.specs.Kinds.{is_switched}
use Rattle.dr_history.specs.Legality.{IsLegalSoFar}
use Rattle.dr_history.specs.Memory.{memory}
use Rattle.dr_history.specs.Vcpus.{stopped}
use Rattle.dr_history_law.proofs.Kept.{switches_facts, unswitched}
use Rattle.dr_history_law.proofs.Stop.{memory_stays}
use Rattle.dr_headline_law.specs.Headline.{KeepsStoppedMemory}

-- a switch-over comes only after a stop, and nothing comes after it
switched_stopped : (guest : Guest) (past : List Event) → IsLegalSoFar guest past
    → list_any is_switched past ≡ true → stopped past ≡ true
switched_stopped guest [] legal h = absurd (false≢true h)
switched_stopped guest (Switched ∷ past) legal h = (switches_facts guest past legal.0).stopped
switched_stopped guest (e ∷ past) legal h =
    absurd (both_ways (list_any is_switched past) (unswitched guest past e legal.0) h)

-- the history has a Stopped
record HasStop (past : List Event) : Type 0 where
  later : List Event
  earlier : List Event
  stop : past ≡ later ++ Stopped ∷ earlier

-- where the guest is stopped the history has a Stopped
stop_of : (past : List Event) → stopped past ≡ true → HasStop past
stop_of [] h = absurd (false≢true h)
stop_of (Stopped ∷ past) h = record { later = []; earlier = past; stop = refl }
stop_of (e ∷ past) h =
    let has = stop_of past h in
    record {
      later = e ∷ has.later;
      earlier = has.earlier;
      stop = ap (λ (xs : List Event). e ∷ xs) has.stop;
    }

-- at a Stopped of a legal history memory is what it is at its end
stays_at : (guest : Guest) (past later earlier : List Event) → IsLegalSoFar guest past
    → past ≡ later ++ Stopped ∷ earlier → memory guest past ≡ memory guest earlier
stays_at guest past later earlier legal is =
    subst (λ (xs : List Event). memory guest xs ≡ memory guest earlier) (sym is)
    (memory_stays guest later earlier (subst (IsLegalSoFar guest) is legal))

-- a legal history that has switched over was stopped, and memory is what it was there
pub keeps_stopped : (guest : Guest) (past : List Event) → IsLegalSoFar guest past
    → list_any is_switched past ≡ true → KeepsStoppedMemory guest past
keeps_stopped guest past legal switched =
    let has = stop_of past (switched_stopped guest past legal switched) in
    record {
      later = has.later;
      earlier = has.earlier;
      stop = has.stop;
      stays = stays_at guest past has.later has.earlier legal has.stop;
    }
