-- What a reader keeps of the records so far, for the next one.
use Rattle.std.specs.Prelude.{◌≡◌, ℕ, ◌+◌, ◌&&◌, nat_lt, nat_le, Bool, List}
use Rattle.dr_history.specs.Lookback.{count}
use Rattle.dr_history.specs.Parts.{Part, Round, Page, Zeros, has_pages}
use Rattle.dr_stream_law.specs.Grammar.{last_round, least_page}
use Rattle.dr_stream_reader.specs.declared.standing.Standing.{Standing}

-- nothing came but a header
abbrev pub start : ℕ → ℕ → Standing
start version pages =
    record { version = version; pages = pages; round = 0; least = 0; records = 0 }

-- a round of this number may begin
abbrev pub begins_round : Standing → ℕ → Bool
begins_round standing r = nat_lt standing.round r && nat_le r 65

-- this page may be the next one that is named
abbrev pub names_page : Standing → ℕ → Bool
names_page standing page =
    nat_lt page standing.pages && (nat_lt 0 standing.round && nat_le standing.least page)

-- after one record more
abbrev pub standing_after : Standing → Part → Standing
standing_after standing (Round r) = record standing { round = r; least = 0 }
standing_after standing (Page page bytes) =
    record standing { least = page + 1; records = standing.records + 1 }
standing_after standing (Zeros first n) =
    record standing { least = first + n; records = standing.records + 1 }
standing_after standing part = standing

-- the standing is that after these records
pub record StandsAfter (parts : List Part) (standing : Standing) : Type 0 where
  pub round : standing.round ≡ last_round parts
  pub least : standing.least ≡ least_page parts
  pub records : standing.records ≡ count has_pages parts
