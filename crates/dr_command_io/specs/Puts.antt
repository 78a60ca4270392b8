-- Puts that come to an early end.
use Rattle.std.specs.Prelude.{◌≡◌, ℕ, List, take, Result, Ok, Err}
use Rattle.dr_types.specs.declared.port.Port.{Port}
use Rattle.dr_types.specs.declared.status.Status.{Status}
use Rattle.dr_types.specs.declared.status.Status.TheVariants.{Outlet, Memory}
use Rattle.dr_types.specs.Ports.{Ports, put_at, Rose}
use Rattle.dr_command_io.specs.declared.fault.PutFault.{PutFault}
use Rattle.dr_command_io.specs.declared.fault.PutFault.TheVariants as fault

-- a first part of the bytes was put
abbrev pub PutsPart : Port → List ℕ → Ports → Ports → Type 0
PutsPart at bytes old new = (n : ℕ) × (new ≡ put_at at (take n bytes) old)

-- where the outlet failed its count of faults has risen
abbrev pub IsFault : ℕ → ℕ → PutFault → Type 0
IsFault before now fault.Outlet = Rose before now
IsFault before now fault.Memory = Unit {0}

-- the status of a command, by what its puts answered
abbrev pub status_of_end : Result Status PutFault → Status
status_of_end (Ok s) = s
status_of_end (Err fault.Outlet) = Outlet
status_of_end (Err fault.Memory) = Memory
