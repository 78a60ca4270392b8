-- The lines of faults.
use Rattle.std.specs.Prelude.{ℕ, Option, Some, None}
use Rattle.dr_types.specs.declared.fault.FileFault.{FileFault}
use Rattle.dr_types.specs.declared.fault.FileFault.TheVariants as fault

-- the line that a fault names
abbrev pub line_of : FileFault → Option ℕ
line_of (fault.Magic line) = Some line
line_of (fault.Line line) = Some line
line_of (fault.Number line) = Some line
line_of (fault.RingSize line) = Some line
line_of (fault.Reserve line) = Some line
line_of (fault.SlotTwice line) = Some line
line_of (fault.Overlap a b) = None
line_of (fault.Unmapped line) = Some line
line_of (fault.CrossPage line) = Some line
line_of (fault.TooLarge what line) = Some line
line_of fault.Memory = None
