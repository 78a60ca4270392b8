-- The words that are a command, and the paths that they say.
use Rattle.std.specs.Prelude.{ℕ, Bool, true, false, ◌+◌, List, [], ◌∷◌, Option, Some, None}
use Rattle.std.specs.Prelude.{is_some, codes}
use Rattle.std.specs.Prelude.{if◌then◌else◌}
use Rattle.std.specs.Str.{bytes_eq}
use Rattle.dr_command.specs.declared.command.Command.{Command}
use Rattle.dr_command.specs.declared.command.Command.TheVariants as command
use Rattle.dr_command.specs.declared.paths.Paths.{Paths}

-- no path is said
abbrev pub no_paths : Paths
no_paths = record { input = None; stream = None; image = None; journal = None }

-- a path's place, where none was said before
abbrev pub said_once : Option ℕ → ℕ → Option (Option ℕ)
said_once None at = Some (Some at)
said_once (Some earlier) at = None

abbrev pub with_input : Paths → Option (Option ℕ) → Option Paths
with_input paths None = None
with_input paths (Some place) = Some (record paths { input = place })

abbrev pub with_stream : Paths → Option (Option ℕ) → Option Paths
with_stream paths None = None
with_stream paths (Some place) = Some (record paths { stream = place })

abbrev pub with_image : Paths → Option (Option ℕ) → Option Paths
with_image paths None = None
with_image paths (Some place) = Some (record paths { image = place })

abbrev pub with_journal : Paths → Option (Option ℕ) → Option Paths
with_journal paths None = None
with_journal paths (Some place) = Some (record paths { journal = place })

-- the paths with one more, whose option has this name and whose word stands at this place
abbrev pub with_named : Paths → List ℕ → ℕ → Option Paths
with_named paths name at =
    if bytes_eq name (codes "--in") then with_input paths (said_once paths.input at)
    else if bytes_eq name (codes "--stream") then with_stream paths (said_once paths.stream at)
    else if bytes_eq name (codes "--image") then with_image paths (said_once paths.image at)
    else if bytes_eq name (codes "--journal") then with_journal paths (said_once paths.journal at)
    else None

-- an option takes the next word as its path, whatever it is, but no empty one
abbrev pub with_option : Paths → List ℕ → List ℕ → ℕ → Option Paths
with_option paths name [] at = None
with_option paths name (byte ∷ path) at = with_named paths name at

-- the paths that these words say, of which the first stands at this place, after the paths said
-- before
abbrev pub paths_from : List (List ℕ) → ℕ → Option Paths → Option Paths
paths_from words at None = None
paths_from [] at (Some paths) = Some paths
paths_from (name ∷ []) at (Some paths) = None
paths_from (name ∷ path ∷ words) at (Some paths) =
    paths_from words (at + 2) (with_option paths name path (at + 1))

-- where the paths of a command stand
abbrev pub paths_of : Command → Paths
paths_of (command.Step paths) = paths
paths_of (command.Run paths) = paths
paths_of (command.Load paths) = paths

-- the command `load`, which has neither of the paths of a stream and a journal
abbrev pub load_with : Paths → Option Command
load_with paths =
    if is_some paths.stream then None
    else if is_some paths.journal then None
    else Some (command.Load paths)

-- the command of this name, with these paths
abbrev pub command_named : List ℕ → Paths → Option Command
command_named name paths =
    if bytes_eq name (codes "step") then Some (command.Step paths)
    else if bytes_eq name (codes "run") then Some (command.Run paths)
    else if bytes_eq name (codes "load") then load_with paths
    else None

-- the command of this name, where paths are said
abbrev pub with_paths : List ℕ → Option Paths → Option Command
with_paths name None = None
with_paths name (Some paths) = command_named name paths

-- the command that these words are: its name, and then each of its options at most once, with its
-- path
abbrev pub command_of : List (List ℕ) → Option Command
command_of [] = None
command_of (name ∷ words) = with_paths name (paths_from words 1 (Some no_paths))

-- the words are a command
abbrev pub is_command : List (List ℕ) → Bool
is_command words = is_some (command_of words)

abbrev pub says_step : Option Command → Bool
says_step (Some (command.Step paths)) = true
says_step said = false

abbrev pub says_run : Option Command → Bool
says_run (Some (command.Run paths)) = true
says_run said = false

abbrev pub says_load : Option Command → Bool
says_load (Some (command.Load paths)) = true
says_load said = false

-- the words are the command `step`
abbrev pub is_step : List (List ℕ) → Bool
is_step words = says_step (command_of words)

-- the words are the command `run`
abbrev pub is_run : List (List ℕ) → Bool
is_run words = says_run (command_of words)

-- the words are the command `load`
abbrev pub is_load : List (List ℕ) → Bool
is_load words = says_load (command_of words)
