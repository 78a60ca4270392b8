-- The event of a vCPU's next operation.
use Rattle.std.specs.Prelude.{◌≡◌, ℕ, ◌%◌, true, List, Option, Some, None, is_some}
use Rattle.dr_types.specs.declared.guest.Guest.{Guest}
use Rattle.dr_types.specs.declared.guest.Op.{Op}
use Rattle.dr_types.specs.declared.guest.Op.TheVariants.{W, F, R, A, S, Nap, Halt}
use Rattle.dr_types.specs.Pages.{page_of_address, page_of_frame}
use Rattle.dr_history.specs.declared.event.Event.{Event}
use Rattle.dr_history.specs.declared.event.Event.TheVariants.{Read, Write, Paint, Local, Halted}
use Rattle.dr_history.specs.Execution.{ops, acc}
use Rattle.dr_history.specs.Memory.{page_bytes, loaded}
use Rattle.dr_history.specs.Rules.{in_one_page}

-- what memory has from a place of a page on, or 0 where there is no page
abbrev pub loaded_from : Guest → List Event → ℕ → Option ℕ → ℕ
loaded_from guest past at None = 0
loaded_from guest past at (Some page) = loaded (page_bytes guest page past) at

-- the value that a load at the address gives
unfoldable pub value_at : Guest → List Event → ℕ → ℕ → ℕ
value_at guest past space address =
    loaded_from guest past (address % 4096) (page_of_address guest space address)

abbrev pub page_or_zero : Option ℕ → ℕ
page_or_zero None = 0
page_or_zero (Some page) = page

-- the event of the vCPU's next operation
abbrev pub op_event : Guest → ℕ → List Event → Op → Event
op_event guest v past (W space address len value) = Write v (ops v past) space address len value
op_event guest v past (F space frame byte) =
    Paint v (ops v past) (page_or_zero (page_of_frame guest.slots space frame)) byte
op_event guest v past (R space address) =
    Read v (ops v past) space address (value_at guest past space address)
op_event guest v past (A n) = Local v (ops v past)
op_event guest v past (S space address) = Write v (ops v past) space address 8 (acc guest v past)
op_event guest v past (Nap us) = Local v (ops v past)
op_event guest v past Halt = Halted v (ops v past)

-- the page that an operation writes
abbrev pub op_page : Guest → Op → Option ℕ
op_page guest (W space address len value) = page_of_address guest space address
op_page guest (F space frame byte) = page_of_frame guest.slots space frame
op_page guest (S space address) = page_of_address guest space address
op_page guest op = None

-- the bytes that an operation stores or loads lie in one page of the guest
abbrev pub OpFits : Guest → Op → Type 0
OpFits guest (W space address len value) = in_one_page guest space address len ≡ true
OpFits guest (F space frame byte) = is_some (page_of_frame guest.slots space frame) ≡ true
OpFits guest (R space address) = in_one_page guest space address 8 ≡ true
OpFits guest (S space address) = in_one_page guest space address 8 ≡ true
OpFits guest op = Unit {0}
