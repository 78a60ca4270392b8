use Rattle.std.proofs.Common.{◌≡◌, true, sym, ◌∙◌}
use Rattle.dr_guestfile_lines.specs.Numbers.{is_decimal_word}
use Rattle.dr_guestfile_lines.proofs.Numerals.{decimal_is_text, read_number}
use Rattle.dr_guestfile_lines.proofs.numbers.decimal.Goals as goal

pub returns-in-Ok : goal.returns-in-Ok
returns-in-Ok c =
    let is : is_decimal_word c.args.word.now ≡ true = sym c.is_decimal.ensures ∙ c.if-not-is_decimal.false in
    c.ok.ensures.value ∙ read_number c.args.word.now c.parse.result is (rw c.in-Ok.ensures.cases.0 at c.parse.ensures.value.0)

pub returns-in-Err : goal.returns-in-Err
returns-in-Err c =
    let is : is_decimal_word c.args.word.now ≡ true = sym c.is_decimal.ensures ∙ c.if-not-is_decimal.false in
    absurd (c.in-Err.ensures.cases.0 (decimal_is_text c.args.word.now is))
