-- A put of an outlet as a put of its sender.
use Rattle.std.proofs.Common.{◌≡◌, ℕ, List, refl, subst}
use Rattle.dr_types.specs.declared.port.Port.TheVariants.{Stream}
use Rattle.dr_types.specs.Ports.{Ports}
use Rattle.dr_io.specs.declared.outlet.PutTurn.{PutTurn}
use Rattle.dr_io.specs.Puts.{Puts}
use Rattle.dr_stream.specs.Sending.{Sending, Sends}

abbrev pub sending : Ports → ℕ → ℕ → Sending
sending told faults records = record { told = told; faults = faults; records = records }

pub sent : (step : ℕ → ℕ) (was told : Ports) (before now records : ℕ) (old : Sending) (bytes put : List ℕ) (result : PutTurn)
    → sending was before records ≡ old → put ≡ bytes → Puts was before Stream put result told now
    → Sends old bytes result (sending told now (step records)) (step old.records)
sent step was told before now records old bytes put result is same puts =
    let here : Sends (sending was before records) bytes result (sending told now (step records)) (step records) =
    record { puts = subst (λ xs. Puts was before Stream xs result told now) same puts; counted = refl } in
    subst (λ start. Sends start bytes result (sending told now (step records)) (step start.records)) is here
