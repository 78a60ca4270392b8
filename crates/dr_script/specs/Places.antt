-- Places in a script whose repetitions aren't written out.
use Rattle.std.specs.Prelude.{◌≡◌, ℕ, suc, ◌-◌, ◌<◌, List, [], ◌∷◌, ◌++◌, drop, length}
use Rattle.dr_types.specs.declared.guest.Op.{Op}
use Rattle.dr_types.specs.declared.guest.Item.{Item}
use Rattle.dr_types.specs.declared.guest.Item.TheVariants.{One, Rep}
use Rattle.dr_types.specs.Scripts.{expanded, repeated}

-- the operations of these items, from a place in the first on
abbrev pub rest_of : List Item → ℕ → ℕ → List Op
rest_of [] done place = []
rest_of (One op ∷ later) done place = op ∷ expanded later
rest_of (Rep n body ∷ later) done place =
    drop place body ++ repeated (n - suc done) body ++ expanded later

-- the operations from a place on: an item, how often its part was repeated, and a place in that
-- part
unfoldable pub rest : List Item → ℕ → ℕ → ℕ → List Op
rest items item done place = rest_of (drop item items) done place

-- no repetition is empty
abbrev pub AllRun : List Item → Type 0
AllRun [] = Unit {0}
AllRun (One op ∷ later) = AllRun later
AllRun (Rep n body ∷ later) = (0 < n) × (0 < length body) × AllRun later

-- a place in the first of these items, or the end
abbrev pub IsPlaceOf : List Item → ℕ → ℕ → Type 0
IsPlaceOf [] done place = (done ≡ 0) × (place ≡ 0)
IsPlaceOf (One op ∷ later) done place = (done ≡ 0) × (place ≡ 0)
IsPlaceOf (Rep n body ∷ later) done place = (done < n) × (place < length body)

-- a place in a script that can be run
pub record IsPlace (items : List Item) (item done place : ℕ) : Type 0 where
  pub run : AllRun items
  pub there : IsPlaceOf (drop item items) done place
