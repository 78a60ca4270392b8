-- What a command takes of its source, which has a limit of so many bytes.
use Rattle.std.specs.Prelude.{◌≡◌, ◌+◌, ℕ, ◌<◌, ◌≤◌, List, [], length, Option, Some}
use Rattle.dr_types.specs.declared.status.Status.{Status}
use Rattle.dr_types.specs.declared.status.Status.TheVariants.{Done, Words, GuestFile, Unfinished}
use Rattle.dr_types.specs.declared.status.Status.TheVariants.{Outlet, Source, Memory, TooLong}
use Rattle.dr_types.specs.declared.status.Status.TheVariants.{BadStream}
use Rattle.dr_types.specs.Ports.{Rose}
use Rattle.dr_io.specs.Reading.{IsPartTaken}

-- where the source tells its bytes, they are as the fact says
abbrev pub IfTold : Option (List ℕ) → (List ℕ → Type 0) → Type 0
IfTold remaining P = (bytes : List ℕ) → remaining ≡ Some bytes → P bytes

-- these bytes are all that was told, and within the limit
abbrev pub IsAll : ℕ → List ℕ → List ℕ → Type 0
IsAll limit bytes told = (bytes ≡ told) × (length told ≤ limit)

-- where the source tells its bytes, nothing of them is left, and there were no more than the limit
abbrev pub IsDrained : ℕ → Option (List ℕ) → Option (List ℕ) → Type 0
IsDrained limit remaining new =
    IfTold remaining (λ bytes. (new ≡ Some []) × (length bytes ≤ limit))

-- of these bytes a first part was taken: at most as many as the limit, and one piece more
pub record TakesPart (limit : ℕ) (bytes : List ℕ) (new : Option (List ℕ)) : Type 0 where
  pub part : IsPartTaken bytes new
  pub rest : List ℕ
  pub remaining : new ≡ Some rest
  pub most : length bytes ≤ limit + 4096 + length rest

-- of these bytes no more were taken than the limit
pub record TakesFew (limit : ℕ) (bytes : List ℕ) (new : Option (List ℕ)) : Type 0 where
  pub rest : List ℕ
  pub remaining : new ≡ Some rest
  pub few : length bytes ≤ limit + length rest

-- of these bytes more were taken than the limit, and at most one piece more
pub record TakesMany (limit : ℕ) (bytes : List ℕ) (new : Option (List ℕ)) : Type 0 where
  pub rest : List ℕ
  pub remaining : new ≡ Some rest
  pub many : limit + length rest < length bytes
  pub most : length bytes ≤ limit + 4096 + length rest

-- what a status says of what the source told, and of what it tells then
abbrev pub Takes : ℕ → Status → Option (List ℕ) → Option (List ℕ) → Type 0
Takes limit Done remaining new = IsDrained limit remaining new
Takes limit Words remaining new = new ≡ remaining
Takes limit (GuestFile why) remaining new = IsDrained limit remaining new
Takes limit (BadStream why) remaining new = IsDrained limit remaining new
Takes limit Unfinished remaining new = IsDrained limit remaining new
Takes limit Outlet remaining new = IsDrained limit remaining new
Takes limit Source remaining new = IfTold remaining (λ bytes. TakesFew limit bytes new)
Takes limit Memory remaining new = IfTold remaining (λ bytes. TakesPart limit bytes new)
Takes limit TooLong remaining new = IfTold remaining (λ bytes. TakesMany limit bytes new)
Takes limit other remaining new = ⊥

-- why the input was not read whole
abbrev pub IsUnread : ℕ → Status → Option (List ℕ) → ℕ → ℕ → Type 0
IsUnread limit Source remaining before now = Rose before now
IsUnread limit Memory remaining before now = Unit {0}
IsUnread limit TooLong remaining before now = IfTold remaining (λ bytes. limit < length bytes)
IsUnread limit other remaining before now = ⊥
