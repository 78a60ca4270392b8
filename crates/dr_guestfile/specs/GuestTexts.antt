-- What a text says of a guest, or its first fault.
use Rattle.std.specs.Prelude.{ℕ, if◌then◌else◌, List, [], ◌∷◌, Option, Some}
use Rattle.std.specs.Prelude.{None, Result, Ok, Err, codes}
use Rattle.std.specs.Option.{ok_or}
use Rattle.std.specs.Str.{bytes_eq}
use Rattle.dr_types.specs.declared.fault.FileFault.{FileFault}
use Rattle.dr_types.specs.declared.fault.FileFault.TheVariants as fault
use Rattle.dr_types.specs.declared.guest.Guest.{Guest}
use Rattle.dr_guestfile_lines.specs.declared.lines.Line.{Line}
use Rattle.dr_guestfile_lines.specs.Input.{Input, input_of}
use Rattle.dr_guestfile_lines.specs.Reading.{◌>>=◌}
use Rattle.dr_guestfile.specs.ScriptLines.{scripts_in}
use Rattle.dr_guestfile.specs.SettingLines.{settings_in}
use Rattle.dr_guestfile.specs.SlotLines.{slots_in}
use Rattle.dr_guestfile_lines.specs.Words.{two_words}

-- the version that a word says
abbrev pub version_said : List ℕ → Option ℕ
version_said word =
    if bytes_eq word (codes "1") then Some 1
    else if bytes_eq word (codes "2") then Some 2
    else None

-- the version that the first line says: `dirtyguest 1` or `dirtyguest 2`
abbrev pub version_of : Option (List ℕ × List ℕ) → Option ℕ
version_of None = None
version_of (Some words) =
    if bytes_eq words.0 (codes "dirtyguest") then version_said words.1 else None

-- the version, and the lines after the first
abbrev pub magic_of : List Line → ℕ → Result (ℕ × Input) FileFault
magic_of [] past = Err (fault.Magic 1)
magic_of (line ∷ lines) past = do
  version ← ok_or (version_of (two_words line.words)) (fault.Magic line.number)
  Ok (version, record { lines = lines; past = past })

-- the version, from the first line of an input
abbrev pub magic_in : Input → Result (ℕ × Input) FileFault
magic_in input = magic_of input.lines input.past

-- the guest of these lines
unfoldable pub guest_in : Input → Result Guest FileFault
guest_in input = do
  magic ← magic_in input
  settings ← settings_in magic.1
  slots ← slots_in magic.0 settings.0.rounds settings.1
  scripts ← scripts_in magic.0 slots.0 slots.1
  Ok (
      record { version = magic.0; settings = settings.0; slots = slots.0; scripts = scripts }
      )

-- the guest of a text
abbrev pub guest_of : List ℕ → Result Guest FileFault
guest_of text = guest_in (input_of text)
