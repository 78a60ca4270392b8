-- Bytes in memory as a source.
use Rattle.std.specs.Prelude.{ℕ, ◌==◌, min, if◌then◌else◌, List, drop, length}
use Rattle.dr_io.specs.Numbers.{one_more, is_listed}
use Rattle.dr_io.specs.declared.source.ReadTurn.{ReadTurn}
use Rattle.dr_io.specs.declared.source.ReadTurn.TheVariants.{Bytes, End, Failed}

-- the bytes left, how many a read gives at most, the reads that fail, and how many reads and
-- failures there were
pub record Feed : Type 0 where
  pub remaining : List ℕ
  pub piece : ℕ
  pub fails : List ℕ
  pub reads : ℕ
  pub faults : ℕ

-- a feed of these bytes, of which no read was made
abbrev pub new_feed : List ℕ → ℕ → List ℕ → Feed
new_feed bytes piece fails =
    record { remaining = bytes; piece = piece; fails = fails; reads = 0; faults = 0 }

-- what the next read into so much room answers
abbrev pub next_turn : Feed → ℕ → ReadTurn
next_turn feed room =
    if is_listed (one_more feed.reads) feed.fails then Failed
    else if length feed.remaining == 0 then End
    else Bytes (min (min (length feed.remaining) feed.piece) room)

-- the feed after a read with this answer
abbrev pub after_read : Feed → ReadTurn → Feed
after_read feed (Bytes n) =
    record feed { remaining = drop n feed.remaining; reads = one_more feed.reads }
after_read feed End = record feed { reads = one_more feed.reads }
after_read feed Failed = record feed { reads = one_more feed.reads; faults = one_more feed.faults }
