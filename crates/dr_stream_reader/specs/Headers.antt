-- What the header of a stream says.
use Rattle.std.specs.Prelude.{◌≡◌, ◌≤◌, ℕ, true, List, [], length, drop}
use Rattle.dr_stream_law.specs.Grammar.{Begins}
use Rattle.dr_stream_law.specs.Faults.{is_known, is_page_count, number_at}
use Rattle.dr_stream_reader.specs.declared.standing.Standing.{Standing}
use Rattle.dr_stream_reader.specs.Standings.{start}

-- the version stands in its bytes, and is known
pub record SaysVersion (bytes : List ℕ) (version : ℕ) : Type 0 where
  pub long : 12 ≤ length bytes
  pub known : is_known version ≡ true
  pub is : number_at 8 bytes ≡ version

-- the number of pages stands in its bytes, and a stream may have as many
pub record SaysPages (bytes : List ℕ) (pages : ℕ) : Type 0 where
  pub long : 16 ≤ length bytes
  pub some : is_page_count pages ≡ true
  pub is : number_at 12 bytes ≡ pages

-- the bytes begin with a header, and nothing else was read of them
pub record HasHeader (bytes : List ℕ) (standing : Standing) : Type 0 where
  pub begins : Begins bytes standing.version standing.pages [] (drop 16 bytes)
  pub starts : standing ≡ start standing.version standing.pages
