-- What is found where a record begins.
use Rattle.std.specs.Prelude.{ℕ, ◌+◌, nat_le, if◌then◌else◌, List, length, Option, Some, None}
use Rattle.dr_stream_law.specs.Faults.{number_at}

-- the number in the four bytes from a place on, where they are all there
abbrev pub number_found : ℕ → List ℕ → Option ℕ
number_found at bytes = if nat_le (at + 4) (length bytes) then Some (number_at at bytes) else None
