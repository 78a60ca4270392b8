-- The settings of a guest, one a line, in their order.
use Rattle.std.specs.Prelude.{ℕ, ◌+◌, ◌-◌, ◌^◌, ◌&&◌, nat_le, nat_lt, Bool, List, Result, Ok, codes}
use Rattle.std.specs.Int.{is_power_of_two}
use Rattle.std.specs.Option.{ok_or}
use Rattle.std.specs.Str.{bytes_eq}
use Rattle.dr_types.specs.declared.fault.FileFault.{FileFault}
use Rattle.dr_types.specs.declared.fault.FileFault.TheVariants as fault
use Rattle.dr_types.specs.declared.guest.Settings.{Settings}
use Rattle.dr_guestfile_lines.specs.declared.lines.Line.{Line}
use Rattle.dr_guestfile.specs.declared.settings.Setting.{Setting}
use Rattle.dr_guestfile_lines.specs.Input.{Input}
use Rattle.dr_guestfile_lines.specs.Reading.{◌>>=◌, check, line_in, number_of}
use Rattle.dr_guestfile_lines.specs.Words.{two_words}

-- a line of this name and a number in this range
unfoldable pub setting_of : List ℕ → ℕ → ℕ → Line → Result Setting FileFault
setting_of name low high line = do
  words ← ok_or (two_words line.words) (fault.Line line.number)
  named ← check (bytes_eq words.0 name) (fault.Line line.number)
  number ← number_of low high words.1 line.number
  Ok (record { no = line.number; number = number })

-- the next line, of this name and a number in this range
unfoldable pub setting_in : List ℕ → ℕ → ℕ → Input → Result (Setting × Input) FileFault
setting_in name low high input = do
  line ← line_in input
  setting ← setting_of name low high line.0
  Ok (setting, line.1)

-- a power of two from 4 to 65536
abbrev pub is_ring_size : ℕ → Bool
is_ring_size n = nat_le 4 n && nat_le n 65536 && is_power_of_two n

-- the reserve and the buffer together are less than the ring
abbrev pub room_in : Setting → Setting → Setting → Result (Unit {0}) FileFault
room_in ring reserve buffer =
    check (nat_lt (reserve.number + buffer.number) ring.number) (fault.Reserve buffer.no)

-- the settings, and the lines after them
unfoldable pub settings_in : Input → Result (Settings × Input) FileFault
settings_in input = do
  ring ← setting_in (codes "ring") 0 (2 ^ 64 - 1) input
  sized ← check (is_ring_size ring.0.number) (fault.RingSize ring.0.no)
  reserve ← setting_in (codes "reserve") 1 65535 ring.1
  buffer ← setting_in (codes "buffer") 0 512 reserve.1
  room ← room_in ring.0 reserve.0 buffer.0
  pace ← setting_in (codes "pace") 1 200000 buffer.1
  threshold ← setting_in (codes "threshold") 0 16384 pace.1
  rounds ← setting_in (codes "rounds") 1 64 threshold.1
  quota ← setting_in (codes "quota") 0 1000000000 rounds.1
  Ok (
    record {
      ring = ring.0.number;
      reserve = reserve.0.number;
      buffer = buffer.0.number;
      pace = pace.0.number;
      threshold = threshold.0.number;
      rounds = rounds.0.number;
      quota = quota.0.number;
    },
    quota.1,
  )
