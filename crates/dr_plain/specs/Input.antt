-- What a command says of the bytes of its source.
use Rattle.std.specs.Prelude.{◌≡◌, ◌≢◌, ℕ, ◌<◌, ◌≤◌, List, length, Option, Ok, Err}
use Rattle.dr_types.specs.declared.guest.Guest.{Guest}
use Rattle.dr_types.specs.declared.fault.FileFault.{FileFault}
use Rattle.dr_types.specs.declared.fault.FileFault.TheVariants as fault
use Rattle.dr_types.specs.declared.status.Status.{Status}
use Rattle.dr_types.specs.declared.status.Status.TheVariants.{GuestFile, Source, Memory, TooLong}
use Rattle.dr_types.specs.Ports.{Rose}
use Rattle.dr_types.specs.Validity.{IsValid}
use Rattle.dr_command_io.specs.Taking.{IfTold}
use Rattle.dr_guestfile.specs.GuestTexts.{guest_of}

-- a guest file has at most so many bytes
abbrev pub most_guest_bytes : ℕ
most_guest_bytes = 16777216

-- the bytes are no guest file: they are short enough, and this is their first fault
abbrev pub IsRefused : FileFault → List ℕ → Type 0
IsRefused why bytes = (length bytes ≤ most_guest_bytes) × (guest_of bytes ≡ Err why)

-- the bytes are a guest file that says this guest
abbrev pub IsFileOf : Guest → List ℕ → Type 0
IsFileOf guest bytes = (length bytes ≤ most_guest_bytes) × (guest_of bytes ≡ Ok guest)

-- the guest was read from the source; over a source that tells nothing it is some valid guest
pub record IsRead (remaining : Option (List ℕ)) (guest : Guest) : Type 0 where
  pub file : IfTold remaining (IsFileOf guest)
  pub valid : IsValid guest

-- the bytes are a guest file
pub record IsGuestFile (bytes : List ℕ) : Type 0 where
  pub guest : Guest
  pub file : IsFileOf guest bytes

-- why no guest was read
abbrev pub IsRefusal : Status → Option (List ℕ) → ℕ → ℕ → Type 0
IsRefusal (GuestFile why) remaining before now =
    (why ≢ fault.Memory) × IfTold remaining (IsRefused why)
IsRefusal Source remaining before now = Rose before now
IsRefusal Memory remaining before now = Unit {0}
IsRefusal TooLong remaining before now = IfTold remaining (λ bytes. most_guest_bytes < length bytes)
IsRefusal other remaining before now = ⊥

-- the status of a guest file that was not read
abbrev pub status_of_fault : FileFault → Status
status_of_fault fault.Memory = Memory
status_of_fault why = GuestFile why
