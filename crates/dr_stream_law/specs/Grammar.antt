-- Which parts of a migration stream may stand where, in version 1 or 2.
use Rattle.std.specs.Prelude.{◌≡◌, ◌≤◌, ℕ, ◌+◌, ◌&&◌, nat_lt, nat_le, Bool, true, false}
use Rattle.std.specs.Prelude.{List, [], ◌∷◌, ◌++◌, length}
use Rattle.dr_history.specs.Parts.{Part, Header, Round, Page, Zeros, End, header, parts_bytes}

-- the number of the last round, or 0 where none has begun
abbrev pub last_round : List Part → ℕ
last_round [] = 0
last_round (Round r ∷ earlier) = r
last_round (part ∷ earlier) = last_round earlier

-- a round of this number may begin
abbrev pub round_rises : ℕ → List Part → Bool
round_rises r earlier = nat_lt (last_round earlier) r && nat_le r 65

-- a round has begun, and the page's number is greater than that of the last page named in it
abbrev pub page_rises : ℕ → List Part → Bool
page_rises page [] = false
page_rises page (Round r ∷ earlier) = true
page_rises page (Page last bytes ∷ earlier) = nat_lt last page
page_rises page (Zeros first n ∷ earlier) = nat_le (first + n) page
page_rises page (part ∷ earlier) = false

-- the least page that may be named next, where a round has begun
abbrev pub least_page : List Part → ℕ
least_page [] = 0
least_page (Page last bytes ∷ earlier) = last + 1
least_page (Zeros first n ∷ earlier) = first + n
least_page (part ∷ earlier) = 0

-- a record of this first page may stand here, in a stream of so many pages
abbrev pub page_fits : ℕ → ℕ → List Part → Bool
page_fits pages page earlier = nat_lt page pages && page_rises page earlier

-- there are so many pages from a first one on, of so many
abbrev pub zeros_fit : ℕ → ℕ → ℕ → Bool
zeros_fit pages first n = nat_le 1 n && nat_le (first + n) pages

-- what a record needs of those before it, in a stream of this version and so many pages
abbrev pub MayStand : ℕ → ℕ → Part → List Part → Type 0
MayStand version pages (Header v n) earlier = ⊥
MayStand version pages (Round r) earlier = round_rises r earlier ≡ true
MayStand version pages (Page page bytes) earlier =
    (page_fits pages page earlier ≡ true) × (length bytes ≡ 4096)
MayStand version pages (Zeros first n) earlier =
    (version ≡ 2) × (page_fits pages first earlier ≡ true) × (zeros_fit pages first n ≡ true)
MayStand version pages (End records) earlier = ⊥

-- each record may stand where it does
abbrev pub AreParts : ℕ → ℕ → List Part → Type 0
AreParts version pages [] = Unit {0}
AreParts version pages (part ∷ earlier) =
    MayStand version pages part earlier × AreParts version pages earlier

-- the bytes begin with a header of a known version and these records, each in its place, and then
-- this rest
pub record Begins (bytes : List ℕ) (version pages : ℕ) (parts : List Part) (rest : List ℕ)
    : Type 0 where
  pub some_version : 1 ≤ version
  pub known : version ≤ 2
  pub some : 1 ≤ pages
  pub few : pages ≤ 16384
  pub in_place : AreParts version pages parts
  pub bytes_are : bytes ≡ header version pages ++ parts_bytes parts ++ rest
