-- What was written is read again.
use Rattle.std.proofs.Common.{◌≡◌, ℕ, ◌+◌, ◌^◌, ◌-◌, ◌<◌, ◌≤◌, true, List, ◌∷◌, ◌++◌, Ok, refl, ap, ◌∙◌, arith}
use Rattle.std.specs.Prelude.{nat_le, nat_lt, codes, decimal}
use Rattle.std.specs.Str.{bytes_eq}
use Rattle.std.proofs.lemmas.Bool.{le-leb, lt-ltb}
use Rattle.std.proofs.lemmas.Slice.Eq.{bytes_eq-Decides}
use Rattle.dr_types.specs.declared.guest.Settings.{Settings}
use Rattle.dr_types.specs.Validity.{AreSettings}
use Rattle.dr_guestfile_lines.specs.declared.lines.Line.{Line}
use Rattle.dr_guestfile_lines.specs.Input.{Input}
use Rattle.dr_guestfile_lines.specs.Numbers.{number_in_space}
use Rattle.dr_guestfile_lines.specs.Reading.{number_of, spaced_number_of}
use Rattle.dr_types.specs.Spaces.{spaced_word}
use Rattle.dr_types.proofs.Spaces.{spaced_again}
use Rattle.dr_types.specs.declared.fault.FileFault.TheVariants as fault
use Rattle.std.specs.Option.{ok_or}
use Rattle.dr_guestfile.specs.SettingLines.{setting_of, setting_in, settings_in, is_ring_size}
use Rattle.dr_types.specs.GuestText.{settings_lines}
use Rattle.dr_types.specs.Lines.{named}
use Rattle.dr_guestfile_law.proofs.Lexing.{numbered, decimal_number-decimal}

-- these lines, and the number of the line after the last
abbrev pub input : List Line → ℕ → Input
input lines past = record { lines = lines; past = past }

pub same_word : (word : List ℕ) → bytes_eq word word ≡ true
same_word word = (bytes_eq-Decides word word).1 refl

pub number_again : (low high n line : ℕ) → low ≤ n → n ≤ high → n < 2 ^ 64 → number_of low high (decimal n) line ≡ Ok n
number_again low high n line above below fits =
    let a : nat_le low n ≡ true = le-leb _ _ above in
    let b : nat_le n high ≡ true = le-leb _ _ below in
    rw (decimal_number-decimal n fits, a, b) refl

-- a number with its space
pub spaced_number_again : (version most space n line : ℕ) → 1 ≤ version → version ≤ 2 → space < version → n ≤ most → n < 2 ^ 64 → spaced_number_of version most (spaced_word space n) line ≡ Ok (space, n)
spaced_number_again version most space n line some few within below fits =
    let a : nat_le 0 n ≡ true = le-leb _ _ (omega arith) in
    let b : nat_le n most ≡ true = le-leb _ _ below in
    ap (λ (split : ℕ × List ℕ). ok_or (number_in_space most split) (fault.Number line)) (spaced_again version space n some few within fits)
    ∙ rw (decimal_number-decimal n fits, a, b) refl

setting_of-again : (name : List ℕ) (low high n line : ℕ) → low ≤ n → n ≤ high → n < 2 ^ 64 → setting_of name low high (record { number = line; words = named name n }) ≡ Ok (record { no = line; number = n })
unfolding setting_of
setting_of-again name low high n line above below fits = rw (same_word name, number_again low high n line above below fits) refl

pub setting_again : (name : List ℕ) (low high n line : ℕ) (rest : List Line) (past : ℕ) → low ≤ n → n ≤ high → n < 2 ^ 64
    → setting_in name low high (input (record { number = line; words = named name n } ∷ rest) past) ≡ Ok (record { no = line; number = n }, input rest past)
unfolding setting_in
setting_again name low high n line rest past above below fits = rw (setting_of-again name low high n line above below fits) refl

ring_again : (s : Settings) → AreSettings s → is_ring_size s.ring ≡ true
ring_again s are =
    let least : nat_le 4 s.ring ≡ true = le-leb _ _ are.ring_least in
    let most : nat_le s.ring 65536 ≡ true = le-leb _ _ are.ring_most in
    rw (least, most, are.ring_power) refl

-- the settings that were written are read again, whatever follows them
pub settings_again : (s : Settings) (line : ℕ) (more : List (List (List ℕ))) (past : ℕ) → AreSettings s
    → settings_in (input (numbered line (settings_lines s ++ more)) past) ≡ Ok (s, input (numbered (line + 1 + 1 + 1 + 1 + 1 + 1 + 1) more) past)
unfolding settings_in
settings_again s line more past are =
    let ring_is = ring_again s are in
    let room : nat_lt (s.reserve + s.buffer) s.ring ≡ true = lt-ltb _ _ are.room in
    rw (
      setting_again (codes "ring") 0 (2 ^ 64 - 1) s.ring line _ past (omega arith) (omega (arith, are.ring_most)) (omega (arith, are.ring_most)),
      ring_is,
      setting_again (codes "reserve") 1 65535 s.reserve (line + 1) _ past are.reserve_some are.reserve (omega (arith, are.reserve)),
      setting_again (codes "buffer") 0 512 s.buffer (line + 1 + 1) _ past (omega arith) are.buffer (omega (arith, are.buffer)),
      room,
      setting_again (codes "pace") 1 200000 s.pace (line + 1 + 1 + 1) _ past are.pace_some are.pace (omega (arith, are.pace)),
      setting_again (codes "threshold") 0 16384 s.threshold (line + 1 + 1 + 1 + 1) _ past (omega arith) are.threshold (omega (arith, are.threshold)),
      setting_again (codes "rounds") 1 64 s.rounds (line + 1 + 1 + 1 + 1 + 1) _ past are.rounds_some are.rounds (omega (arith, are.rounds)),
      setting_again (codes "quota") 0 1000000000 s.quota (line + 1 + 1 + 1 + 1 + 1 + 1) _ past (omega arith) are.quota (omega (arith, are.quota)),
    ) refl
