-- Where a vCPU's script ends.
use Rattle.std.specs.Prelude.{◌≡◌, ℕ, ◌+◌, ◌≤◌, length, Some, None, slice_get}
use Rattle.dr_types.specs.declared.guest.Guest.{Guest}
use Rattle.dr_types.specs.declared.guest.Op.TheVariants.{Halt}
use Rattle.dr_types.specs.Scripts.{script_of, operation}

-- the script has an operation, its last and no other is a halt, and after that there is none
pub record HaltsLast (guest : Guest) (v : ℕ) : Type 0 where
  pub some : 1 ≤ length (script_of (slice_get guest.scripts v))
  pub last : (i : ℕ) → i + 1 ≡ length (script_of (slice_get guest.scripts v))
      → operation guest v i ≡ Some Halt
  pub alone : (i : ℕ) → operation guest v i ≡ Some Halt
      → i + 1 ≡ length (script_of (slice_get guest.scripts v))
  pub ended : (i : ℕ) → operation guest v i ≡ None
      → length (script_of (slice_get guest.scripts v)) ≤ i
  pub past : (i : ℕ) → length (script_of (slice_get guest.scripts v)) ≤ i
      → operation guest v i ≡ None
