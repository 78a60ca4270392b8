-- The bytes of ports, and of those that wait for their writers.
use Rattle.std.specs.Prelude.{◌≡◌, ℕ, Bool, true, false, List, [], Option, None, ⊤}
use Rattle.std.specs.Io.KnownBytes.{append_known, Appends, Keeps}
use Rattle.dr_types.specs.declared.port.Port.{Port}
use Rattle.dr_types.specs.declared.port.Port.TheVariants.{Report, Stream, Image, Journal}
use Rattle.dr_io_files.specs.declared.pieces.Pieces.{Pieces}
use Rattle.dr_io_files.specs.declared.port_end.PortEnd.{PortEnd}
use Rattle.dr_io_files.specs.declared.port_end.PortEnd.TheVariants.{Discarded, Open, Broken}

-- what the writer holds, where that is known, and after it what waits
abbrev pub held : {T : Type 0} → (T → Option (List ℕ)) → Pieces T → Option (List ℕ)
held contents p = append_known (contents p.writer) p.waiting.items

-- what an open port holds, where that is known
abbrev pub held_at : {T : Type 0} → (T → Option (List ℕ)) → PortEnd T → Option (List ℕ)
held_at contents Discarded = None
held_at contents (Open p) = held contents p
held_at contents (Broken cause) = None

-- the port takes no bytes any more
abbrev pub is_broken : {T : Type 0} → PortEnd T → Bool
is_broken Discarded = false
is_broken (Open p) = false
is_broken (Broken cause) = true

-- nothing waits at the port
abbrev pub NothingWaits : {T : Type 0} → PortEnd T → Type 0
NothingWaits Discarded = ⊤
NothingWaits (Open p) = p.waiting.items ≡ []
NothingWaits (Broken cause) = ⊤

-- both are one port
abbrev pub is_same : Port → Port → Bool
is_same Report Report = true
is_same Stream Stream = true
is_same Image Image = true
is_same Journal Journal = true
is_same here port = false

-- known bytes grow by these where they are meant, and stay as they were where not
abbrev pub Grows : Bool → Option (List ℕ) → Option (List ℕ) → List ℕ → Type 0
Grows true old new bytes = Appends old new bytes
Grows false old new bytes = Keeps old new

-- known bytes of the first port grow by those that are put on the second, where it is the same
abbrev pub Gets : Port → Port → Option (List ℕ) → Option (List ℕ) → List ℕ → Type 0
Gets here port = Grows (is_same here port)
