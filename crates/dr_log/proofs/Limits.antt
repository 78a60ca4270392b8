-- How large the numbers of a guest are.
use Rattle.std.proofs.Common.{◌≡◌, ℕ, ◌/◌, ◌%◌, ◌<◌, ◌≤◌, ◌^◌, true, List, Option, Some, None, is_some, arith}
use Rattle.std.specs.Prelude.{IfSome}
use Rattle.std.proofs.lemmas.Bool.{false≢true}
use Rattle.dr_slots.proofs.Spaces.{mapped_below}
use Rattle.dr_types.specs.Pages.{page_count, page_of_address, pages_of_slots}
use Rattle.dr_types.specs.Validity.{Lies}
use Rattle.dr_types.specs.declared.guest.Guest.{Guest}
use Rattle.dr_types.specs.declared.guest.Op.TheVariants as op
use Rattle.dr_history.specs.declared.event.Event.TheVariants.{Read, Write}
use Rattle.dr_history.specs.Lines.{FitsLine}
use Rattle.dr_script.specs.Fits.{IsOpOrHalt}
use Rattle.dr_types.specs.Validity.{IsValid}
use Rattle.dr_history.specs.declared.event.Event.{Event}
use Rattle.dr_history.specs.Memory.{page_bytes, loaded}
use Rattle.dr_event_law.specs.Operations.{loaded_from, value_at}

pub few_pages : (guest : Guest) → IsValid guest → page_count guest < 2 ^ 32
few_pages guest valid = let few : pages_of_slots guest.slots ≤ 16384 = valid.slots.pages in omega arith

-- the space of an operation is one of a journal's line
pub space_fits : (guest : Guest) (space address bytes : ℕ) → IsValid guest → Lies guest.slots space address bytes → space ≤ 1
space_fits guest space address bytes valid lies =
    let below : space < guest.version = mapped_below guest.slots 0 space (address / 4096) guest.version valid.spaces lies.mapped in
    omega (arith, below, valid.version)

-- the events of a valid guest's operations have lines of their own
pub write_fits : (guest : Guest) (v i space address len value : ℕ) → IsValid guest → v < 2 ^ 32 → i < 2 ^ 32 → IsOpOrHalt guest.slots (op.W space address len value) → FitsLine (Write v i space address len value)
write_fits guest v i space address len value valid hv hi is =
    (hv, hi, space_fits guest space address len valid is.4, is.0, is.1, is.2, is.3)

pub store_fits : (guest : Guest) (v i space address value : ℕ) → IsValid guest → v < 2 ^ 32 → i < 2 ^ 32 → IsOpOrHalt guest.slots (op.S space address) → value < 2 ^ 64 → FitsLine (Write v i space address 8 value)
store_fits guest v i space address value valid hv hi is few =
    (hv, hi, space_fits guest space address 8 valid is.1, is.0, omega arith, omega arith, omega (arith, few))

pub read_fits : (guest : Guest) (v i space address value : ℕ) → IsValid guest → v < 2 ^ 32 → i < 2 ^ 32 → IsOpOrHalt guest.slots (op.R space address) → value < 2 ^ 64 → FitsLine (Read v i space address value)
read_fits guest v i space address value valid hv hi is few =
    (hv, hi, space_fits guest space address 8 valid is.1, is.0, few)

loaded_is : (guest : Guest) (past : List Event) (at value : ℕ) (place : Option ℕ) → is_some place ≡ true → IfSome place (λ page. value ≡ loaded (page_bytes guest page past) at) → value ≡ loaded_from guest past at place
loaded_is guest past at value None some is = absurd (false≢true some)
loaded_is guest past at value (Some page) some is = is

-- what a load gives, where its bytes lie in one page
pub value_is : (guest : Guest) (past : List Event) (space address value : ℕ) → Lies guest.slots space address 8
    → IfSome (page_of_address guest space address) (λ page. value ≡ loaded (page_bytes guest page past) (address % 4096)) → value ≡ value_at guest past space address
unfolding value_at
value_is guest past space address value lies is = loaded_is guest past (address % 4096) value (page_of_address guest space address) lies.mapped is
