use Rattle.std.proofs.Common.{◌≡◌, ◌/◌, ◌∙◌, ℕ, arith, length, length-take, take, refl, sym}
use Rattle.dr_guestfile_lines.specs.Numbers.{hex_number}
use Rattle.dr_guestfile_lines.proofs.Numerals.{counted, eight_zeros, read_hex, hex_number-byte}
use Rattle.dr_guestfile_lines.proofs.numbers.hex_word.Goals as goal

found : (c : goal.After-from_le_bytes) → counted (length c.args.word.now / 2) c.from_le_bytes.result ≡ hex_number c.args.most c.args.word.now
found c =
    let n : ℕ = length c.args.word.now / 2 in
    read_hex c.args.most n c.from_le_bytes.result (length (take n eight_zeros)) c.args.word.now c.decode_to_slice.new.out c.decode_to_slice.result refl (omega arith) (omega arith) c.requires
    (omega (arith, length-take n eight_zeros)) c.decode_to_slice.auto.out c.decode_to_slice.ensures.value (sym c.ok.ensures.value ∙ c.in_ok-ok.was) c.from_le_bytes.ensures

pub returns-clause-value : goal.returns-clause-value
returns-clause-value c = found c

pub returns-clause-byte : goal.returns-clause-byte
returns-clause-byte c = λ one. hex_number-byte c.args.most c.args.word.now (counted (length c.args.word.now / 2) c.from_le_bytes.result) (found c) (omega arith)
