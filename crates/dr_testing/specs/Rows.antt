-- What a row of a table says of a text.
use Rattle.std.specs.Prelude.{◌≡◌, ℕ, List, Ok}
use Rattle.dr_types.specs.declared.fault.FileFault.{FileFault}
use Rattle.dr_types.specs.declared.fault.FileFault.TheVariants as fault
use Rattle.dr_types.specs.declared.guest.Guest.{Guest}
use Rattle.dr_types.specs.GuestText.{guest_text}
use Rattle.dr_guestfile.specs.GuestTexts.{guest_of}
use Rattle.dr_testing.specs.declared.faults.Kind.{Kind}
use Rattle.dr_testing.specs.declared.faults.Kind.TheVariants.{Magic, Line, Number, RingSize}
use Rattle.dr_testing.specs.declared.faults.Kind.TheVariants.{Reserve, SlotTwice, Unmapped}
use Rattle.dr_testing.specs.declared.faults.Kind.TheVariants.{CrossPage, TooLarge}

-- the fault of the line with this number
abbrev pub fault_at : Kind → ℕ → FileFault
fault_at Magic line = fault.Magic line
fault_at Line line = fault.Line line
fault_at Number line = fault.Number line
fault_at RingSize line = fault.RingSize line
fault_at Reserve line = fault.Reserve line
fault_at SlotTwice line = fault.SlotTwice line
fault_at Unmapped line = fault.Unmapped line
fault_at CrossPage line = fault.CrossPage line
fault_at (TooLarge what) line = fault.TooLarge what line

-- the text says a guest, whose canonical text is this
pub record Says (text canonical : List ℕ) : Type 0 where
  pub guest : Guest
  pub read : guest_of text ≡ Ok guest
  pub written : guest_text guest ≡ canonical
