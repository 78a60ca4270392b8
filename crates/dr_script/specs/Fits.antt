-- The ops of a valid guest.
use Rattle.std.specs.Prelude.{List}
use Rattle.dr_types.specs.declared.guest.SlotRow.{SlotRow}
use Rattle.dr_types.specs.declared.guest.Op.{Op}
use Rattle.dr_types.specs.declared.guest.Op.TheVariants.{Halt}
use Rattle.dr_types.specs.Validity.{IsOp}

-- an op whose numbers are in their ranges, with its bytes in one page of these slots; or a halt
abbrev pub IsOpOrHalt : List SlotRow → Op → Type 0
IsOpOrHalt slots Halt = Unit {0}
IsOpOrHalt slots op = IsOp slots op
