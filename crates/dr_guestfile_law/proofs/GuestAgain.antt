-- A guest that was written is read again.
use Rattle.std.proofs.Common.{◌≡◌, ℕ, zero, suc, ◌+◌, ◌≤◌, Some, false, List, [], ◌∷◌, ◌++◌, length, map, Ok, refl, ap, ◌∙◌, arith}
use Rattle.std.specs.Prelude.{codes, decimal}
use Rattle.std.specs.List.{flat_map}
use Rattle.std.proofs.lemmas.Fmt.{decimal_digit}
use Rattle.std.proofs.lemmas.List.Concat.{flat_map-cons}
use Rattle.dr_types.specs.declared.guest.Item.{Item}
use Rattle.dr_types.specs.declared.guest.Guest.{Guest}
use Rattle.dr_types.specs.Validity.{IsValid}
use Rattle.dr_guestfile.specs.GuestTexts.{version_said, guest_in, guest_of}
use Rattle.dr_guestfile_lines.specs.Reading.{next_begins}
use Rattle.dr_types.specs.GuestText.{slot_line, script_lines, guest_lines, guest_text}
use Rattle.dr_guestfile_law.proofs.Again.{input, settings_again}
use Rattle.dr_guestfile_law.proofs.Lexing.{numbered, input_of-text}
use Rattle.dr_guestfile_law.proofs.OpsAgain.{HasSpaces}
use Rattle.dr_guestfile_law.proofs.PlainLines.{guest_plain}
use Rattle.dr_guestfile_law.proofs.SectionsAgain.{sections_again}
use Rattle.dr_guestfile_law.proofs.SlotsAgain.{slots_again}

no_slot : (scripts : List (List Item)) (n : ℕ) → next_begins (codes "slot") (numbered n (flat_map script_lines scripts)) ≡ false
no_slot [] n = refl
no_slot (script ∷ scripts) n = ap (λ (lines : List (List (List ℕ))). next_begins (codes "slot") (numbered n lines)) (flat_map-cons script_lines script scripts)

-- the version that was written is read again
magic_again : (version : ℕ) → 1 ≤ version → version ≤ 2 → version_said (decimal version) ≡ Some version
magic_again zero some few = absurd (omega (arith, some))
magic_again (suc zero) some few = ap version_said (decimal_digit 1 (omega arith))
magic_again (suc (suc zero)) some few = ap version_said (decimal_digit 2 (omega arith))
magic_again (suc (suc (suc version))) some few = absurd (omega (arith, few))

lines_again : (guest : Guest) (past : ℕ) → IsValid guest → guest_in (input (numbered 1 (guest_lines guest)) past) ≡ Ok guest
unfolding guest_in
lines_again guest past is =
    let has : HasSpaces guest.version guest.slots = record { some = is.version_some; few = is.version; below = is.spaces } in
    let rounds = guest.settings.rounds in
    let sections = flat_map script_lines guest.scripts in
    rw (
      magic_again guest.version is.version_some is.version,
      settings_again guest.settings 2 (map slot_line guest.slots ++ sections) past is.settings,
      slots_again guest.version rounds guest.slots is.version_some is.version is.spaces is.slots is.copies [] guest.slots 9 sections past (no_slot guest.scripts) refl,
      sections_again guest.version guest.slots has guest.scripts (9 + length guest.slots) past is.some_vcpu is.vcpus is.scripts is.ops,
    ) refl

pub guest_again : (guest : Guest) → IsValid guest → guest_of (guest_text guest) ≡ Ok guest
guest_again guest is =
    let plain = guest_plain guest is in
    ap guest_in (input_of-text (guest_lines guest) plain.words plain.starts) ∙ lines_again guest (length (guest_lines guest) + 1) is
