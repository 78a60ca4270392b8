-- What the top call says, by the command that its words are.
use Rattle.std.proofs.Common.{◌≡◌, ℕ, true, false, refl, List, Option, Some, None}
use Rattle.dr_types.specs.declared.status.Status.{Status}
use Rattle.dr_types.specs.declared.status.Status.TheVariants.{BadStream}
use Rattle.dr_types.specs.Ports.{Ports}
use Rattle.dr_command.specs.declared.command.Command.{Command}
use Rattle.dr_command.specs.declared.command.Command.TheVariants.{Step, Run, Load}
use Rattle.dr_command.specs.Words.{says_run, says_step}
use Rattle.dr_command_io.specs.Taking.{IfTold, Takes}
use Rattle.dr_loader.specs.Loads.{EndsLoaded, EndsRefused, IsDamaged, IsLoadable, LoadEnds, is_bad_stream}
use Rattle.dr_machine.specs.Views.{KeptView}
use Rattle.dr_plain.specs.Commands.{EndsOf, PutsNone, SaysOf, TakesOf}
use Rattle.dr_plain.specs.Input.{IsGuestFile, most_guest_bytes}
use Rattle.dr_plain.specs.Top.{EndsRun, Says}

-- what `step` says
pub step_says : (said : Option Command) (s : Status) (remaining : Option (List ℕ)) (kept : Option KeptView) (old new : Ports) → says_step said ≡ true
    → SaysOf said s remaining kept old new → Says s remaining kept old new
step_says (Some (Step paths)) s remaining kept old new is says = says
step_says (Some (Run paths)) s remaining kept old new is says = cc is
step_says (Some (Load paths)) s remaining kept old new is says = cc is
step_says None s remaining kept old new is says = cc is

-- what `run` says
pub says_of_run : (said : Option Command) (s : Status) (remaining : Option (List ℕ)) (kept : Option KeptView) (old new : Ports) → says_run said ≡ true
    → Says s remaining kept old new → SaysOf said s remaining kept old new
says_of_run (Some (Run paths)) s remaining kept old new is says = says
says_of_run (Some (Step paths)) s remaining kept old new is says = cc is
says_of_run (Some (Load paths)) s remaining kept old new is says = cc is
says_of_run None s remaining kept old new is says = cc is

-- what `run` takes
pub takes_of_run : (said : Option Command) (s : Status) (old new : Option (List ℕ)) → says_run said ≡ true → Takes most_guest_bytes s old new → TakesOf said s old new
takes_of_run (Some (Run paths)) s old new is takes = takes
takes_of_run (Some (Step paths)) s old new is takes = cc is
takes_of_run (Some (Load paths)) s old new is takes = cc is
takes_of_run None s old new is takes = cc is

-- how `run` ends
pub ends_of_run : (said : Option Command) (s : Status) (remaining : Option (List ℕ)) → says_run said ≡ true
    → IfTold remaining (λ bytes. IsGuestFile bytes → EndsRun s) → EndsOf said s remaining
ends_of_run (Some (Run paths)) s remaining is ends = ends
ends_of_run (Some (Step paths)) s remaining is ends = cc is
ends_of_run (Some (Load paths)) s remaining is ends = cc is
ends_of_run None s remaining is ends = cc is

-- `run` puts nothing where it keeps nothing
pub run_puts : (said : Option Command) (s : Option Status) (kept : Option KeptView) → says_run said ≡ true → PutsNone said s kept → kept ≡ None
run_puts (Some (Run paths)) s kept is none = none
run_puts (Some (Step paths)) s kept is none = cc is
run_puts (Some (Load paths)) s kept is none = cc is
run_puts None s kept is none = cc is

-- `run` refuses no migration stream
pub run_is_no_load : (s : Status) (remaining : Option (List ℕ)) (kept : Option KeptView) (old new : Ports) → Says s remaining kept old new → is_bad_stream s ≡ false
run_is_no_load (BadStream why) remaining kept old new says = absurd says
run_is_no_load s remaining kept old new says = refl

-- how `load` ends, over bytes that are a stream and over others
pub load_ends : (s : Status) (remaining : Option (List ℕ)) → IfTold remaining (λ bytes. IsLoadable bytes → EndsLoaded s)
    → IfTold remaining (λ bytes. IsDamaged bytes → EndsRefused s) → IfTold remaining (λ bytes. LoadEnds s bytes)
load_ends s remaining whole damaged bytes told = record { whole = whole bytes told; damaged = damaged bytes told }

pub ruleset for_run = (says_of_run, takes_of_run, ends_of_run, run_puts, run_is_no_load)
