-- What a sender shows.
use Rattle.std.specs.Prelude.{◌≡◌, ℕ, List}
use Rattle.dr_types.specs.declared.port.Port.TheVariants.{Stream}
use Rattle.dr_types.specs.Ports.{Ports}
use Rattle.dr_io.specs.declared.outlet.PutTurn.{PutTurn}
use Rattle.dr_io.specs.Puts.{Puts}

-- what its outlet tells of the ports, the outlet's count of faults, and how many records of pages
-- were put
pub record Sending : Type 0 where
  pub told : Ports
  pub faults : ℕ
  pub records : ℕ

-- a put of these bytes on the stream, after which so many records of pages were put
pub record Sends (old : Sending) (bytes : List ℕ) (result : PutTurn) (new : Sending) (records : ℕ)
    : Type 0 where
  pub puts : Puts old.told old.faults Stream bytes result new.told new.faults
  pub counted : new.records ≡ records
