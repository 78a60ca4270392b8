-- What a put does to an outlet.
use Rattle.std.specs.Prelude.{◌≡◌, ℕ, ◌≤◌, List, take}
use Rattle.dr_types.specs.declared.port.Port.{Port}
use Rattle.dr_types.specs.Ports.{Ports, put_at, Rose}
use Rattle.dr_io.specs.declared.outlet.PutTurn.{PutTurn}
use Rattle.dr_io.specs.declared.outlet.PutTurn.TheVariants.{Done, Failed}

-- a put of these bytes: all of them, or where it failed some first part of them, and then the count
-- rose
pub record Puts (old : Ports) (before : ℕ) (port : Port) (bytes : List ℕ) (result : PutTurn)
    (new : Ports) (now : ℕ) : Type 0 where
  pub done : result ≡ Done → new ≡ put_at port bytes old
  pub failed : result ≡ Failed → (n : ℕ) × (new ≡ put_at port (take n bytes) old)
  pub later : before ≤ now
  pub risen : result ≡ Failed → Rose before now
