-- The four ports of an outlet, and what puts do to them.
use Rattle.std.specs.Prelude.{◌≡◌, ℕ, ◌+◌, ◌^◌, ◌-◌, ◌≤◌, min, List, [], ◌∷◌, ◌++◌, take, Option}
use Rattle.std.specs.Prelude.{Some, None, ◌⊎◌}
use Rattle.dr_types.specs.declared.port.Port.{Port}
use Rattle.dr_types.specs.declared.port.Port.TheVariants.{Report, Stream, Image, Journal}

-- what an outlet tells of each port: its bytes, or nothing
pub record Ports : Type 0 where
  pub report : Option (List ℕ)
  pub stream : Option (List ℕ)
  pub image : Option (List ℕ)
  pub journal : Option (List ℕ)

-- nothing is told of any port
abbrev pub silent : Ports
silent = record { report = None; stream = None; image = None; journal = None }

-- what is told of a port
abbrev pub told_at : Port → Ports → Option (List ℕ)
told_at Report p = p.report
told_at Stream p = p.stream
told_at Image p = p.image
told_at Journal p = p.journal

-- a port's bytes with more after them; of a port that isn't told, nothing is
abbrev pub grown : Option (List ℕ) → List ℕ → Option (List ℕ)
grown None more = None
grown (Some bytes) more = Some (bytes ++ more)

-- the ports with more after one of them
abbrev pub put_at : Port → List ℕ → Ports → Ports
put_at Report more p = record p { report = grown p.report more }
put_at Stream more p = record p { stream = grown p.stream more }
put_at Image more p = record p { image = grown p.image more }
put_at Journal more p = record p { journal = grown p.journal more }

-- the ports after all these puts, in their order
abbrev pub put_all : List (Port × List ℕ) → Ports → Ports
put_all [] ports = ports
put_all (p ∷ ps) ports = put_all ps (put_at p.0 p.1 ports)

-- the ports after some first of these puts, and a first part of the next
abbrev pub PutsCut : List (Port × List ℕ) → Ports → Ports → Type 0
PutsCut [] old new = new ≡ old
PutsCut (p ∷ ps) old new =
    ((n : ℕ) × (new ≡ put_at p.0 (take n p.1) old)) ⊎ PutsCut ps (put_at p.0 p.1 old) new

-- a count has risen, or stands at its last value
abbrev pub Rose : ℕ → ℕ → Type 0
Rose before now = min (before + 1) (2 ^ 64 - 1) ≤ now
