-- What reading a guest file says of its source.
use Rattle.std.proofs.Common.{◌≡◌, ◌≢◌, ℕ, List, Option, Ok, Err}
use Rattle.dr_types.specs.declared.guest.Guest.{Guest}
use Rattle.dr_types.specs.declared.fault.FileFault.{FileFault}
use Rattle.dr_types.specs.declared.fault.FileFault.TheVariants as fault
use Rattle.dr_types.specs.declared.status.Status.{Status}
use Rattle.dr_types.specs.declared.status.Status.TheVariants.{Source, Memory, TooLong}
use Rattle.dr_types.specs.Validity.{IsValid}
use Rattle.dr_guestfile.specs.GuestTexts.{guest_of}
use Rattle.dr_command_io.specs.Taking.{IfTold, IsAll, IsDrained, IsUnread, Takes}
use Rattle.dr_command_io.proofs.Reading.{drained_part, of_told}
use Rattle.dr_plain.specs.Input.{IsRead, IsRefusal, IsRefused, most_guest_bytes, status_of_fault}

-- a fault of the file, where it isn't want of memory
pub refusal_of : (remaining : Option (List ℕ)) (before now : ℕ) (why : FileFault) → (why ≢ fault.Memory → IfTold remaining (IsRefused why)) → IsRefusal (status_of_fault why) remaining before now
refusal_of remaining before now fault.Memory h = tt
refusal_of remaining before now why h = ((λ e. cc e), h (λ e. cc e))

-- where the file wasn't read whole no guest was read
pub unread_refusal : (s : Status) (remaining : Option (List ℕ)) (before now : ℕ) → IsUnread most_guest_bytes s remaining before now → IsRefusal s remaining before now
unread_refusal Source remaining before now unread = unread
unread_refusal Memory remaining before now unread = unread
unread_refusal TooLong remaining before now unread = unread
unread_refusal s remaining before now unread = absurd unread

-- a fault of the file comes when all was read
pub fault_takes : (why : FileFault) (old new : Option (List ℕ)) → IsDrained most_guest_bytes old new → Takes most_guest_bytes (status_of_fault why) old new
fault_takes fault.Memory old new all = drained_part most_guest_bytes old new all
fault_takes why old new all = all

-- the guest that the bytes say was read from the source that told them
pub guest_told : (remaining : Option (List ℕ)) (bytes : List ℕ) (guest : Guest) → IfTold remaining (IsAll most_guest_bytes bytes) → guest_of bytes ≡ Ok guest → IsValid guest → IsRead remaining guest
guest_told remaining bytes guest all says valid = record {
  file = of_told most_guest_bytes remaining bytes (λ told. guest_of told ≡ Ok guest) all says;
  valid = valid;
}

-- the fault that the bytes have is that of the source that told them
pub fault_told : (remaining : Option (List ℕ)) (before now : ℕ) (bytes : List ℕ) (why : FileFault) (s : Status) → s ≡ status_of_fault why → IfTold remaining (IsAll most_guest_bytes bytes)
    → (why ≢ fault.Memory → guest_of bytes ≡ Err why) → IsRefusal s remaining before now
fault_told remaining before now bytes why s is all says =
    rw is (refusal_of remaining before now why (λ known. of_told most_guest_bytes remaining bytes (λ told. guest_of told ≡ Err why) all (says known)))

-- what was taken where the file has a fault
pub fault_took : (why : FileFault) (old new : Option (List ℕ)) (s : Status) → s ≡ status_of_fault why → IsDrained most_guest_bytes old new → Takes most_guest_bytes s old new
fault_took why old new s is all = rw is (fault_takes why old new all)
