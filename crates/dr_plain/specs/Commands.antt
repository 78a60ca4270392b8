-- What the top call says, by the command that its words are.
use Rattle.std.specs.Prelude.{◌≡◌, ◌≢◌, ℕ, Bool, true, false, List, Option, Some, None}
use Rattle.dr_types.specs.declared.status.Status.{Status}
use Rattle.dr_types.specs.declared.status.Status.TheVariants.{Done, Words, Outlet}
use Rattle.dr_types.specs.Ports.{Ports}
use Rattle.dr_command.specs.declared.command.Command.{Command}
use Rattle.dr_command.specs.declared.command.Command.TheVariants.{Step, Run, Load}
use Rattle.dr_command_io.specs.Taking.{IfTold, Takes}
use Rattle.dr_loader.specs.Loads.{LoadEnds, LoadSays, is_bad_stream, most_stream_bytes}
use Rattle.dr_machine.specs.Views.{KeptView}
use Rattle.dr_plain.specs.Input.{IsGuestFile, most_guest_bytes}
use Rattle.dr_plain.specs.Top.{EndsRun, HasQuit, Says}

-- what the status of `load` says; no machine is kept
pub record LoadLeaves (s : Status) (remaining : Option (List ℕ)) (kept : Option KeptView)
    (old new : Ports) : Type 0 where
  pub none : kept ≡ None
  pub says : LoadSays s remaining old new

-- the words are no command, and nothing was done
pub record HasRefused (s : Status) (kept : Option KeptView) (old new : Ports) : Type 0 where
  pub words : s ≡ Words
  pub quit : HasQuit kept old new

-- what a command's status says of the source's bytes, of what is kept, and of the ports
abbrev pub SaysOf : Option Command → Status → Option (List ℕ) → Option KeptView → Ports → Ports
    → Type 0
SaysOf (Some (Step paths)) s remaining kept old new = Says s remaining kept old new
SaysOf (Some (Run paths)) s remaining kept old new = Says s remaining kept old new
SaysOf (Some (Load paths)) s remaining kept old new = LoadLeaves s remaining kept old new
SaysOf None s remaining kept old new = HasRefused s kept old new

-- how many bytes a command reads at most
abbrev pub limit_of : Option Command → ℕ
limit_of (Some (Load paths)) = most_stream_bytes
limit_of said = most_guest_bytes

-- what a command's status says of what the source told, and of what it tells then
abbrev pub TakesOf : Option Command → Status → Option (List ℕ) → Option (List ℕ) → Type 0
TakesOf said s remaining new = Takes (limit_of said) s remaining new

-- how a command may end, by what its source tells
abbrev pub EndsOf : Option Command → Status → Option (List ℕ) → Type 0
EndsOf (Some (Step paths)) s remaining =
    IfTold remaining (λ bytes. IsGuestFile bytes → EndsRun s)
EndsOf (Some (Run paths)) s remaining =
    IfTold remaining (λ bytes. IsGuestFile bytes → EndsRun s)
EndsOf (Some (Load paths)) s remaining = IfTold remaining (λ bytes. LoadEnds s bytes)
EndsOf None s remaining = Unit {0}

-- a command that ends so, and keeps this, puts nothing: `load` where it neither puts its image nor
-- fails to, and another command where it keeps no machine
abbrev pub PutsNone : Option Command → Option Status → Option KeptView → Type 0
PutsNone (Some (Load paths)) status kept = (status ≢ Some Done) × (status ≢ Some Outlet)
PutsNone said status kept = kept ≡ None

-- a migration stream was refused
abbrev pub has_refused_stream : Option Status → Bool
has_refused_stream (Some s) = is_bad_stream s
has_refused_stream None = false
