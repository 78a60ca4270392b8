-- Ops that were read are ops of a guest.
use Rattle.std.proofs.Common.{◌≡◌, ℕ, ◌/◌, ◌<◌, Option, Some, None, Ok, refl, List, [], ◌∷◌, sym, subst, arith}
use Rattle.std.specs.Prelude.{is_some}
use Rattle.std.specs.Option.{ok_or, option_map}
use Rattle.std.proofs.lemmas.Bool.{leb-true}
use Rattle.dr_types.specs.declared.fault.FileFault.TheVariants as fault
use Rattle.dr_types.specs.declared.guest.SlotRow.{SlotRow}
use Rattle.dr_types.specs.declared.guest.Op.{Op}
use Rattle.dr_types.specs.declared.guest.Op.TheVariants.{W, F, R, A, S, Nap, Halt}
use Rattle.dr_types.specs.Pages.{page_of_frame}
use Rattle.dr_types.specs.Validity.{Lies, IsOp}
use Rattle.dr_guestfile.specs.declared.keyword.Keyword.{Keyword}
use Rattle.dr_guestfile.specs.declared.keyword.Keyword.TheVariants as keyword
use Rattle.dr_guestfile_lines.specs.Numbers.{hex_number, hex_byte_of}
use Rattle.dr_guestfile.specs.OpLines.{greatest, placed, write_of, fill_of, read_of, add_of, store_of, nap_of, halt_of, op_of, going_on, op_of_body}
use Rattle.dr_guestfile_lines.specs.Reading.{check, number_of, spaced_number_of}
use Rattle.dr_guestfile_lines.specs.Words.{one_word, two_words}
use Rattle.dr_guestfile.proofs.SectionState.{IsOpOrHalt}
use Rattle.dr_guestfile_lines.proofs.Numerals.{hex_number-byte, hex_number-fits}
use Rattle.dr_guestfile.proofs.SectionParts.{or_halt}
use Rattle.dr_guestfile.proofs.ReadingParts.{steps, passed, given, number_range, spaced_range}

placed_valid : (slots : List SlotRow) (space address bytes line : ℕ) (u : Unit {0}) → placed slots space address bytes line ≡ Ok u → Lies slots space address bytes
placed_valid slots space address bytes line u e =
    let mapped = steps (check (is_some (page_of_frame slots space (address / 4096))) (fault.Unmapped line)) _ _ e in
    record { mapped = passed _ _ _ mapped.is; in_page = leb-true _ _ (passed _ _ u mapped.next) }

write_valid : (version : ℕ) (slots : List SlotRow) (arguments : List (List ℕ)) (line : ℕ) (op : Op) → write_of version slots arguments line ≡ Ok op → IsOp slots op
unfolding write_of
write_valid version slots arguments line op e =
    let words = steps (ok_or (two_words arguments) (fault.Line line)) _ _ e in
    let address = steps (spaced_number_of version greatest words.value.0 line) _ _ words.next in
    let bytes = steps (ok_or (hex_number 8 words.value.1) (fault.Number line)) _ _ address.next in
    let there = steps (placed slots address.value.0 address.value.1 bytes.value.0 line) _ _ bytes.next in
    let made : Op = W address.value.0 address.value.1 bytes.value.0 bytes.value.1 in
    let same : made ≡ op = cc there.next in
    let range = spaced_range version greatest words.value.0 line address.value address.is in
    let fits = hex_number-fits 8 words.value.1 (Some bytes.value) (sym (given _ _ bytes.value bytes.is)) in
    subst (IsOp slots) same (omega (arith, range.most), fits.0, fits.1, fits.2, placed_valid slots address.value.0 address.value.1 bytes.value.0 line there.value there.is)

byte_at : (found : Option (ℕ × ℕ)) (word : List ℕ) (byte : ℕ) → found ≡ hex_number 1 word → option_map (λ (number : ℕ × ℕ). number.1) found ≡ Some byte → byte < 256
byte_at None word byte is e = absurd cc
byte_at (Some number) word byte is e =
    let same : number.1 ≡ byte = cc in
    let below : number.1 < 256 = hex_number-byte 1 word (Some number) is (omega (arith, (hex_number-fits 1 word (Some number) is).1)) in
    omega (arith, same, below)

fill_valid : (version : ℕ) (slots : List SlotRow) (arguments : List (List ℕ)) (line : ℕ) (op : Op) → fill_of version slots arguments line ≡ Ok op → IsOp slots op
unfolding fill_of
fill_valid version slots arguments line op e =
    let words = steps (ok_or (two_words arguments) (fault.Line line)) _ _ e in
    let frame = steps (spaced_number_of version greatest words.value.0 line) _ _ words.next in
    let byte = steps (ok_or (hex_byte_of words.value.1) (fault.Number line)) _ _ frame.next in
    let mapped = steps (check (is_some (page_of_frame slots frame.value.0 frame.value.1)) (fault.Unmapped line)) _ _ byte.next in
    let made : Op = F frame.value.0 frame.value.1 byte.value in
    let same : made ≡ op = cc mapped.next in
    let range = spaced_range version greatest words.value.0 line frame.value frame.is in
    subst (IsOp slots) same (omega (arith, range.most), byte_at (hex_number 1 words.value.1) words.value.1 byte.value refl (given _ _ byte.value byte.is), passed _ _ _ mapped.is)

read_valid : (version : ℕ) (slots : List SlotRow) (arguments : List (List ℕ)) (line : ℕ) (op : Op) → read_of version slots arguments line ≡ Ok op → IsOp slots op
unfolding read_of
read_valid version slots arguments line op e =
    let word = steps (ok_or (one_word arguments) (fault.Line line)) _ _ e in
    let address = steps (spaced_number_of version greatest word.value line) _ _ word.next in
    let there = steps (placed slots address.value.0 address.value.1 8 line) _ _ address.next in
    let made : Op = R address.value.0 address.value.1 in
    let same : made ≡ op = cc there.next in
    let range = spaced_range version greatest word.value line address.value address.is in
    subst (IsOp slots) same (omega (arith, range.most), placed_valid slots address.value.0 address.value.1 8 line there.value there.is)

store_valid : (version : ℕ) (slots : List SlotRow) (arguments : List (List ℕ)) (line : ℕ) (op : Op) → store_of version slots arguments line ≡ Ok op → IsOp slots op
unfolding store_of
store_valid version slots arguments line op e =
    let word = steps (ok_or (one_word arguments) (fault.Line line)) _ _ e in
    let address = steps (spaced_number_of version greatest word.value line) _ _ word.next in
    let there = steps (placed slots address.value.0 address.value.1 8 line) _ _ address.next in
    let made : Op = S address.value.0 address.value.1 in
    let same : made ≡ op = cc there.next in
    let range = spaced_range version greatest word.value line address.value address.is in
    subst (IsOp slots) same (omega (arith, range.most), placed_valid slots address.value.0 address.value.1 8 line there.value there.is)

add_valid : (slots : List SlotRow) (arguments : List (List ℕ)) (line : ℕ) (op : Op) → add_of arguments line ≡ Ok op → IsOp slots op
unfolding add_of
add_valid slots arguments line op e =
    let word = steps (ok_or (one_word arguments) (fault.Line line)) _ _ e in
    let number = steps (number_of 0 greatest word.value line) _ _ word.next in
    let made : Op = A number.value in
    let same : made ≡ op = cc number.next in
    let range = number_range 0 greatest word.value line number.value number.is in
    subst (IsOp slots) same (omega (arith, range.1))

nap_valid : (slots : List SlotRow) (arguments : List (List ℕ)) (line : ℕ) (op : Op) → nap_of arguments line ≡ Ok op → IsOp slots op
unfolding nap_of
nap_valid slots arguments line op e =
    let word = steps (ok_or (one_word arguments) (fault.Line line)) _ _ e in
    let us = steps (number_of 0 10000 word.value line) _ _ word.next in
    let made : Op = Nap us.value in
    let same : made ≡ op = cc us.next in
    let range = number_range 0 10000 word.value line us.value us.is in
    subst (IsOp slots) same range.1

halt_valid : (slots : List SlotRow) (arguments : List (List ℕ)) (line : ℕ) (op : Op) → halt_of arguments line ≡ Ok op → IsOpOrHalt slots op
unfolding halt_of
halt_valid slots [] line op e = let same : Halt ≡ op = cc in subst (IsOpOrHalt slots) same tt
halt_valid slots (word ∷ words) line op e = absurd cc

pub op_valid : (version : ℕ) (slots : List SlotRow) (first : Option Keyword) (arguments : List (List ℕ)) (line : ℕ) (op : Op) → op_of version slots first arguments line ≡ Ok op → IsOpOrHalt slots op
unfolding op_of
op_valid version slots (Some keyword.Write) arguments line op e = or_halt slots op (write_valid version slots arguments line op e)
op_valid version slots (Some keyword.Fill) arguments line op e = or_halt slots op (fill_valid version slots arguments line op e)
op_valid version slots (Some keyword.Read) arguments line op e = or_halt slots op (read_valid version slots arguments line op e)
op_valid version slots (Some keyword.Add) arguments line op e = or_halt slots op (add_valid slots arguments line op e)
op_valid version slots (Some keyword.Store) arguments line op e = or_halt slots op (store_valid version slots arguments line op e)
op_valid version slots (Some keyword.Nap) arguments line op e = or_halt slots op (nap_valid slots arguments line op e)
op_valid version slots (Some keyword.Halt) arguments line op e = halt_valid slots arguments line op e
op_valid version slots first arguments line op e = absurd cc

step_valid : (slots : List SlotRow) (line : ℕ) (op step : Op) → IsOpOrHalt slots op → going_on line op ≡ Ok step → IsOp slots step
step_valid slots line Halt step is e = absurd cc
step_valid slots line op step is e = let same : op ≡ step = cc in subst (IsOp slots) same is

pub body_op_valid : (version : ℕ) (slots : List SlotRow) (first : Option Keyword) (arguments : List (List ℕ)) (line : ℕ) (op : Op) → op_of_body version slots first arguments line ≡ Ok op → IsOp slots op
unfolding op_of_body
body_op_valid version slots first arguments line op e =
    let found = steps (op_of version slots first arguments line) _ _ e in
    step_valid slots line found.value op (op_valid version slots first arguments line found.value found.is) found.next
