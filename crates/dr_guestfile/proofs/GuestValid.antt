-- A guest that was read is valid.
use Rattle.std.proofs.Common.{◌≡◌, ℕ, ◌≤◌, Bool, true, false, cond, Option, Some, None, Ok, List, [], ◌∷◌, ap, subst, arith}
use Rattle.std.specs.Prelude.{codes}
use Rattle.std.specs.Option.{ok_or}
use Rattle.std.specs.Str.{bytes_eq}
use Rattle.dr_types.specs.declared.fault.FileFault.TheVariants as fault
use Rattle.dr_guestfile_lines.specs.declared.lines.Line.{Line}
use Rattle.dr_guestfile_lines.specs.Words.{two_words}
use Rattle.dr_types.specs.declared.guest.SlotRow.{SlotRow}
use Rattle.dr_types.specs.declared.guest.Settings.{Settings}
use Rattle.dr_types.specs.declared.guest.Item.{Item}
use Rattle.dr_types.specs.declared.guest.Guest.{Guest}
use Rattle.dr_types.specs.Validity.{IsValid}
use Rattle.dr_guestfile.specs.GuestTexts.{version_said, version_of, magic_of, magic_in, guest_in, guest_of}
use Rattle.dr_guestfile_lines.specs.Input.{Input, input_of}
use Rattle.dr_guestfile.specs.ScriptLines.{no_sections, scripts_in}
use Rattle.dr_guestfile.specs.SettingLines.{settings_in}
use Rattle.dr_guestfile.specs.SlotLines.{slots_in}
use Rattle.dr_guestfile.proofs.ReadingParts.{steps, given}
use Rattle.dr_guestfile.proofs.SectionsValid.{sections_valid, none_read}
use Rattle.dr_guestfile.proofs.SettingsValid.{settings_valid}
use Rattle.dr_guestfile.proofs.SlotsValid.{slots_valid, none_so_far}

-- a version of the guest file
pub record IsVersion (version : ℕ) : Type 0 where
  pub some : 1 ≤ version
  pub few : version ≤ 2

said_case : (one two : Bool) (version : ℕ) → cond one (Some 1) (cond two (Some 2) None) ≡ Some version → IsVersion version
said_case true two version e = let same : 1 ≡ version = cc in record { some = omega (arith, same); few = omega (arith, same) }
said_case false true version e = let same : 2 ≡ version = cc in record { some = omega (arith, same); few = omega (arith, same) }
said_case false false version e = absurd cc

named_case : (named : Bool) (word : List ℕ) (version : ℕ) → cond named (version_said word) None ≡ Some version → IsVersion version
named_case true word version e = said_case (bytes_eq word (codes "1")) (bytes_eq word (codes "2")) version e
named_case false word version e = absurd cc

version_valid : (words : Option (List ℕ × List ℕ)) (version : ℕ) → version_of words ≡ Some version → IsVersion version
version_valid None version e = absurd cc
version_valid (Some words) version e = named_case (bytes_eq words.0 (codes "dirtyguest")) words.1 version e

first_valid : (lines : List Line) (past version : ℕ) (rest : Input) → magic_of lines past ≡ Ok (version, rest) → IsVersion version
first_valid [] past version rest e = absurd cc
first_valid (line ∷ lines) past version rest e =
    let found = steps (ok_or (version_of (two_words line.words)) (fault.Magic line.number)) _ _ e in
    let made : ℕ × Input = (found.value, record { lines = lines; past = past }) in
    let wanted : ℕ × Input = (version, rest) in
    let pair : made ≡ wanted = cc found.next in
    let same : found.value ≡ version = ap (λ (x : ℕ × Input). x.0) pair in
    subst IsVersion same (version_valid (two_words line.words) found.value (given _ _ found.value found.is))

pub magic_valid : (input : Input) (version : ℕ) (rest : Input) → magic_in input ≡ Ok (version, rest) → IsVersion version
magic_valid input version rest e = first_valid input.lines input.past version rest e

-- the parts that were read one after the other are a valid guest
pub parts_valid : (input first second third : Input) (version : ℕ) (settings : Settings) (slots : List SlotRow) (scripts : List (List Item)) → magic_in input ≡ Ok (version, first) → settings_in first ≡ Ok (settings, second)
    → slots_in version settings.rounds second ≡ Ok (slots, third) → scripts_in version slots third ≡ Ok scripts → IsValid (record { version = version; settings = settings; slots = slots; scripts = scripts })
parts_valid input first second third version settings slots scripts m a b d =
    let is = magic_valid input version first m in
    let of_slots = slots_valid version settings.rounds [] second.lines second.past slots third is.some (none_so_far version settings.rounds) b in
    let of_scripts = sections_valid version slots no_sections third.lines third.past scripts (none_read slots) d in
    record {
      version_some = is.some;
      version = is.few;
      spaces = of_slots.spaces;
      settings = settings_valid first settings second a;
      slots = of_slots.slots;
      copies = of_slots.copies;
      some_vcpu = of_scripts.some;
      vcpus = of_scripts.few;
      scripts = of_scripts.scripts;
      ops = of_scripts.ops;
    }

lines_valid : (input : Input) (guest : Guest) → guest_in input ≡ Ok guest → IsValid guest
unfolding guest_in
lines_valid input guest e =
    let magic = steps (magic_in input) _ _ e in
    let settings = steps (settings_in magic.value.1) _ _ magic.next in
    let slots = steps (slots_in magic.value.0 settings.value.0.rounds settings.value.1) _ _ settings.next in
    let scripts = steps (scripts_in magic.value.0 slots.value.0 slots.value.1) _ _ slots.next in
    let made : Guest = record { version = magic.value.0; settings = settings.value.0; slots = slots.value.0; scripts = scripts.value } in
    let same : made ≡ guest = cc scripts.next in
    subst IsValid same (parts_valid input magic.value.1 settings.value.1 slots.value.1 magic.value.0 settings.value.0 slots.value.0 scripts.value magic.is settings.is slots.is scripts.is)

pub guest_valid : (text : List ℕ) (guest : Guest) → guest_of text ≡ Ok guest → IsValid guest
guest_valid text guest e = lines_valid (input_of text) guest e
