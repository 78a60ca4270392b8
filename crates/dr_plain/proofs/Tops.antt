-- What the top call leaves.
use Rattle.std.proofs.Common.{◌≡◌, ◌≢◌, ℕ, ◌<◌, List, length, Option, Some, None, Result, Ok, Err, sym, subst, ◌∙◌, refl, arith, inl, inr}
use Rattle.dr_types.specs.declared.guest.Guest.{Guest}
use Rattle.dr_types.specs.declared.fault.FileFault.{FileFault}
use Rattle.dr_types.specs.declared.status.Status.{Status}
use Rattle.dr_types.specs.declared.status.Status.TheVariants.{Done, Words, GuestFile, Unfinished, Outlet, Source, Memory, TooLong}
use Rattle.dr_types.specs.Ports.{Ports, Rose}
use Rattle.dr_types.specs.Validity.{IsValid}
use Rattle.dr_guestfile.specs.GuestTexts.{guest_of}
use Rattle.dr_machine.specs.Views.{KeptView}
use Rattle.dr_command_io.specs.Taking.{IsDrained, Takes}
use Rattle.dr_plain.specs.Input.{IsGuestFile, IsRead, IsRefusal, most_guest_bytes}
use Rattle.dr_plain.specs.Top.{EndsRun, IsMigrated, RunSays, Says, SomeMigrated}
use Rattle.dr_command_io.proofs.Reading.{drained_part}

-- the status of a run says the same of the source that its guest was read from
pub says_run : (s : Status) (remaining : Option (List ℕ)) (guest : Guest) (kept : Option KeptView) (old new : Ports) → IsRead remaining guest → RunSays s guest kept old new
    → Says s remaining kept old new
says_run Done remaining guest kept old new read says = record { guest = guest; read = read; says = says }
says_run Unfinished remaining guest kept old new read says = record { guest = guest; read = read; says = says }
says_run Outlet remaining guest kept old new read says = record { guest = guest; read = read; says = says }
says_run Memory remaining guest kept old new read says = inr (record { guest = guest; read = read; says = says })
says_run s remaining guest kept old new read says = absurd says

-- however a run ends, all was read before it
pub takes_run : (s : Status) (remaining rest : Option (List ℕ)) (guest : Guest) (kept : Option KeptView) (old new : Ports) → IsDrained most_guest_bytes remaining rest → RunSays s guest kept old new
    → Takes most_guest_bytes s remaining rest
takes_run Done remaining rest guest kept old new all says = all
takes_run Unfinished remaining rest guest kept old new all says = all
takes_run Outlet remaining rest guest kept old new all says = all
takes_run Memory remaining rest guest kept old new all says = drained_part most_guest_bytes remaining rest all
takes_run s remaining rest guest kept old new all says = absurd says

-- where no guest was read nothing was put
pub says_quit : (s : Status) (remaining : Option (List ℕ)) (before now : ℕ) (ports : Ports) → IsRefusal s remaining before now → Says s remaining None ports ports
says_quit (GuestFile why) remaining before now ports is = (record { none = refl; ports = refl }, is.0, is.1)
says_quit Source remaining before now ports is = record { none = refl; ports = refl }
says_quit Memory remaining before now ports is = inl (record { none = refl; ports = refl })
says_quit TooLong remaining before now ports is = (record { none = refl; ports = refl }, is)
says_quit s remaining before now ports is = absurd is

-- a read failed only where the count of faults has risen
pub source_rose : (s : Status) (remaining : Option (List ℕ)) (before now : ℕ) → IsRefusal s remaining before now → s ≡ Source → Rose before now
source_rose Source remaining before now refusal is = refusal
source_rose s remaining before now refusal is = cc

-- a run never refuses the words
pub run_knows_words : (s : Status) (guest : Guest) (kept : Option KeptView) (old new : Ports) → RunSays s guest kept old new → s ≢ Words
run_knows_words Words guest kept old new says is = absurd says
run_knows_words s guest kept old new says is = cc

-- nor does a source of which no guest was read
pub refusal_knows_words : (s : Status) (remaining : Option (List ℕ)) (before now : ℕ) → IsRefusal s remaining before now → s ≢ Words
refusal_knows_words Words remaining before now refusal is = absurd refusal
refusal_knows_words s remaining before now refusal is = cc

both_guests : (r : Result Guest FileFault) (guest : Guest) (why : FileFault) → r ≡ Ok guest → r ≡ Err why → ⊥
both_guests r guest why ok err = let e : Ok guest ≡ Err why = sym ok ∙ err in cc

-- a guest that was read and migrated is valid
pub some_migrated : (s : Status) (read : Option (List ℕ)) (guest : Guest) (kept : Option KeptView) (old new : Ports) → IsRead read guest → RunSays s guest kept old new
    → s ≡ Done → SomeMigrated kept old new
some_migrated Done read guest (Some view) old new file says is = record {
  view = view;
  is = refl;
  valid = subst IsValid (sym says.run.same) file.valid;
  migrated = subst (λ (g : Guest). IsMigrated g view old new) (sym says.run.same) says;
}
some_migrated Done read guest None old new file says is = absurd says
some_migrated s read guest kept old new file says is = cc

-- a status whose clause holds and whose source tells a guest file is no refusal
pub runs : (s : Status) (remaining : Option (List ℕ)) (kept : Option KeptView) (old new : Ports) (bytes : List ℕ) → Says s remaining kept old new → (s ≡ Words → ⊥) → remaining ≡ Some bytes → IsGuestFile bytes
    → EndsRun s
runs Done remaining kept old new bytes says step told file = tt
runs Unfinished remaining kept old new bytes says step told file = tt
runs Words remaining kept old new bytes says step told file = step refl
runs (GuestFile why) remaining kept old new bytes says step told file = let no : guest_of bytes ≡ Err why = (says.2 bytes told).1 in both_guests (guest_of bytes) file.guest why file.file.1 no
runs Outlet remaining kept old new bytes says step told file = tt
runs Source remaining kept old new bytes says step told file = tt
runs Memory remaining kept old new bytes says step told file = tt
runs TooLong remaining kept old new bytes says step told file = let long : most_guest_bytes < length bytes = says.1 bytes told in omega (arith, long, file.file.0)
runs other remaining kept old new bytes says step told file = absurd says

-- how a command ends that reads a guest file and runs its guest
pub ruleset input_ends = (says_run, takes_run, says_quit, source_rose, some_migrated, runs, run_knows_words, refusal_knows_words)
