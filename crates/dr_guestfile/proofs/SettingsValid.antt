-- Settings that were read are within their ranges.
use Rattle.std.proofs.Common.{◌≡◌, ℕ, ◌+◌, ◌-◌, ◌^◌, ◌≤◌, ◌<◌, true, ◌&&◌, Result, Ok, List, ap, subst}
use Rattle.std.specs.Prelude.{nat_le, nat_lt, codes}
use Rattle.std.specs.Int.{is_power_of_two}
use Rattle.std.specs.Option.{ok_or}
use Rattle.std.specs.Str.{bytes_eq}
use Rattle.std.proofs.lemmas.Bool.{leb-true, ltb-true}
use Rattle.dr_types.specs.declared.fault.FileFault.{FileFault}
use Rattle.dr_types.specs.declared.fault.FileFault.TheVariants as fault
use Rattle.dr_types.specs.declared.guest.Settings.{Settings}
use Rattle.dr_types.specs.Validity.{AreSettings}
use Rattle.dr_guestfile_lines.specs.declared.lines.Line.{Line}
use Rattle.dr_guestfile.specs.declared.settings.Setting.{Setting}
use Rattle.dr_guestfile_lines.specs.Input.{Input}
use Rattle.dr_guestfile_lines.specs.Reading.{check, line_in, number_of}
use Rattle.dr_guestfile_lines.specs.Words.{two_words}
use Rattle.dr_guestfile.specs.SettingLines.{setting_of, setting_in, settings_in, is_ring_size}
use Rattle.dr_guestfile.proofs.ReadingParts.{steps, passed, both, number_range}

setting_range_of : (name : List ℕ) (low high : ℕ) (line : Line) (setting : Setting) → setting_of name low high line ≡ Ok setting → (low ≤ setting.number) × (setting.number ≤ high)
unfolding setting_of
setting_range_of name low high line setting e =
    let words = steps (ok_or (two_words line.words) (fault.Line line.number)) _ _ e in
    let named = steps (check (bytes_eq words.value.0 name) (fault.Line line.number)) _ _ words.next in
    let number = steps (number_of low high words.value.1 line.number) _ _ named.next in
    let range = number_range low high words.value.1 line.number number.value number.is in
    let made : Setting = record { no = line.number; number = number.value } in
    let same : made ≡ setting = cc in
    subst (λ (s : Setting). (low ≤ s.number) × (s.number ≤ high)) same range

setting_range : (name : List ℕ) (low high : ℕ) (input : Input) (setting : Setting) (rest : Input) → setting_in name low high input ≡ Ok (setting, rest) → (low ≤ setting.number) × (setting.number ≤ high)
unfolding setting_in
setting_range name low high input setting rest e =
    let line = steps (line_in input) _ _ e in
    let found = steps (setting_of name low high line.value.0) _ _ line.next in
    let made : Setting × Input = (found.value, line.value.1) in
    let gave : Setting × Input = (setting, rest) in
    let same : made ≡ gave = cc in
    subst (λ (s : Setting × Input). (low ≤ s.0.number) × (s.0.number ≤ high)) same (setting_range_of name low high line.value.0 found.value found.is)

ring_range : (n : ℕ) → is_ring_size n ≡ true → (4 ≤ n) × (n ≤ 65536) × (is_power_of_two n ≡ true)
ring_range n is =
    let whole = both (nat_le 4 n && nat_le n 65536) (is_power_of_two n) is in
    let range = both (nat_le 4 n) (nat_le n 65536) whole.0 in
    (leb-true 4 n range.0, leb-true n 65536 range.1, whole.1)

abbrev read : Settings → Input → Result (Settings × Input) FileFault
read settings rest = Ok (settings, rest)

same_settings : (made settings : Settings) (left rest : Input) → read made left ≡ read settings rest → made ≡ settings
same_settings made settings left rest e =
    let one : Settings × Input = (made, left) in
    let other : Settings × Input = (settings, rest) in
    let same : one ≡ other = cc in
    ap (λ (x : Settings × Input). x.0) same

-- the settings that lines say
pub settings_valid : (input : Input) (settings : Settings) (rest : Input) → settings_in input ≡ Ok (settings, rest) → AreSettings settings
unfolding settings_in
settings_valid input settings rest e =
    let ring = steps (setting_in (codes "ring") 0 (2 ^ 64 - 1) input) _ _ e in
    let sized = steps (check (is_ring_size ring.value.0.number) (fault.RingSize ring.value.0.no)) _ _ ring.next in
    let reserve = steps (setting_in (codes "reserve") 1 65535 ring.value.1) _ _ sized.next in
    let buffer = steps (setting_in (codes "buffer") 0 512 reserve.value.1) _ _ reserve.next in
    let room = steps (check (nat_lt (reserve.value.0.number + buffer.value.0.number) ring.value.0.number) (fault.Reserve buffer.value.0.no)) _ _ buffer.next in
    let pace = steps (setting_in (codes "pace") 1 200000 buffer.value.1) _ _ room.next in
    let threshold = steps (setting_in (codes "threshold") 0 16384 pace.value.1) _ _ pace.next in
    let rounds = steps (setting_in (codes "rounds") 1 64 threshold.value.1) _ _ threshold.next in
    let quota = steps (setting_in (codes "quota") 0 1000000000 rounds.value.1) _ _ rounds.next in
    let made : Settings = record {
      ring = ring.value.0.number;
      reserve = reserve.value.0.number;
      buffer = buffer.value.0.number;
      pace = pace.value.0.number;
      threshold = threshold.value.0.number;
      rounds = rounds.value.0.number;
      quota = quota.value.0.number;
    } in
    let same = same_settings made settings quota.value.1 rest quota.next in
    let size = ring_range ring.value.0.number (passed _ _ _ sized.is) in
    let of_reserve = setting_range (codes "reserve") 1 65535 ring.value.1 reserve.value.0 reserve.value.1 reserve.is in
    let of_buffer = setting_range (codes "buffer") 0 512 reserve.value.1 buffer.value.0 buffer.value.1 buffer.is in
    let of_pace = setting_range (codes "pace") 1 200000 buffer.value.1 pace.value.0 pace.value.1 pace.is in
    let of_threshold = setting_range (codes "threshold") 0 16384 pace.value.1 threshold.value.0 threshold.value.1 threshold.is in
    let of_rounds = setting_range (codes "rounds") 1 64 threshold.value.1 rounds.value.0 rounds.value.1 rounds.is in
    let of_quota = setting_range (codes "quota") 0 1000000000 rounds.value.1 quota.value.0 quota.value.1 quota.is in
    let fits : reserve.value.0.number + buffer.value.0.number < ring.value.0.number = ltb-true _ _ (passed _ _ _ room.is) in
    subst AreSettings {x = made} same (record {
      ring_least = size.0;
      ring_most = size.1;
      ring_power = size.2;
      reserve_some = of_reserve.0;
      reserve = of_reserve.1;
      buffer = of_buffer.1;
      room = fits;
      pace_some = of_pace.0;
      pace = of_pace.1;
      threshold = of_threshold.1;
      rounds_some = of_rounds.0;
      rounds = of_rounds.1;
      quota = of_quota.1;
    })
