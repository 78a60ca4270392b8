-- What reads do to a source.
use Rattle.std.specs.Prelude.{◌≡◌, ℕ, ◌+◌, ◌≤◌, ◌<◌, List, [], take, drop, length, Option, Some}
use Rattle.std.specs.Prelude.{Result, Ok, Err}
use Rattle.dr_types.specs.Ports.{Rose}
use Rattle.dr_io.specs.declared.source.ReadTurn.{ReadTurn}
use Rattle.dr_io.specs.declared.source.ReadTurn.TheVariants.{Bytes, End, Failed}
use Rattle.dr_io.specs.declared.reading.ReadFault.{ReadFault}
use Rattle.dr_io.specs.declared.reading.ReadFault.TheVariants as fault

-- one read: bytes that stood first in what was left, or its end, or a fault that was counted
pub record Reads (old : Option (List ℕ)) (before : ℕ) (buf : List ℕ) (result : ReadTurn)
    (new : Option (List ℕ)) (now : ℕ) : Type 0 where
  pub some : (n : ℕ) → result ≡ Bytes n → (1 ≤ n) × (n ≤ length buf)
  pub given : (n : ℕ) (told : List ℕ) → result ≡ Bytes n → old ≡ Some told
      → (n ≤ length told) × (take n buf ≡ take n told) × (new ≡ Some (drop n told))
  pub ended : (told : List ℕ) → result ≡ End → old ≡ Some told → (told ≡ []) × (new ≡ Some [])
  pub kept : result ≡ Failed → new ≡ old
  pub later : before ≤ now
  pub risen : result ≡ Failed → Rose before now

-- some first part of what was told is gone, and the rest is left
abbrev pub IsPartTaken : List ℕ → Option (List ℕ) → Type 0
IsPartTaken told new = (n : ℕ) × (n ≤ length told) × (new ≡ Some (drop n told))

-- All that is left: at most so many bytes, or more of them were taken, or a fault was counted. In
-- each case no more was taken than the limit and one piece of 4,096 bytes.
pub record ReadsAll (limit : ℕ) (old : Option (List ℕ)) (before : ℕ)
    (result : Result (List ℕ) ReadFault)
    (new : Option (List ℕ)) (now : ℕ) : Type 0 where
  pub all : (bytes told : List ℕ) → result ≡ Ok bytes → old ≡ Some told → (bytes ≡ told)
      × (new ≡ Some [])
  pub fits : (bytes : List ℕ) → result ≡ Ok bytes → length bytes ≤ limit
  pub part : (why : ReadFault) (told : List ℕ) → result ≡ Err why → old ≡ Some told
      → IsPartTaken told new
  pub most : (told rest : List ℕ) → old ≡ Some told → new ≡ Some rest
      → length told ≤ limit + 4096 + length rest
  pub long : (told rest : List ℕ) → result ≡ Err fault.TooLong → old ≡ Some told → new ≡ Some rest
      → limit + length rest < length told
  pub short : (told rest : List ℕ) → result ≡ Err fault.Failed → old ≡ Some told → new ≡ Some rest
      → length told ≤ limit + length rest
  pub later : before ≤ now
  pub risen : result ≡ Err fault.Failed → Rose before now
