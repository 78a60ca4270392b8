-- What bytes say as a migration stream, and its laws.
use Rattle.std.specs.Prelude.{◌≡◌, ℕ, ◌+◌, ◌==◌, ◌&&◌, nat_le, nat_lt, true, if◌then◌else◌}
use Rattle.std.specs.Prelude.{List, [], ◌∷◌, map}
use Rattle.std.specs.List.{list_any}
use Rattle.dr_types.specs.declared.guest.Guest.{Guest}
use Rattle.dr_types.specs.Validity.{IsValid}
use Rattle.dr_history.specs.declared.event.Event.{Event}
use Rattle.dr_history.specs.Lookback.{count, below}
use Rattle.dr_history.specs.Kinds.{is_switched}
use Rattle.dr_history.specs.Memory.{filled, destination}
use Rattle.dr_history.specs.Parts.{Part, Page, Zeros, end_record, has_pages}
use Rattle.dr_history.specs.Stream.{stream_of, sent_records}
use Rattle.dr_history.specs.Legality.{IsLegalSoFar}
use Rattle.dr_stream_law.specs.Grammar.{Begins}

-- the page once the parts are loaded: zeros at first, and then what the last record says that names
-- it
abbrev pub loaded_page : ℕ → List Part → List ℕ
loaded_page page [] = filled 0
loaded_page page (Page q bytes ∷ earlier) = if q == page then bytes else loaded_page page earlier
loaded_page page (Zeros first n ∷ earlier) =
    if nat_le first page && nat_lt page (first + n) then filled 0 else loaded_page page earlier
loaded_page page (part ∷ earlier) = loaded_page page earlier

-- so many pages, in the order of their numbers
abbrev pub loaded_image : ℕ → List Part → List (List ℕ)
loaded_image pages parts = map (λ page. loaded_page page parts) (below pages)

-- the bytes are a stream that loads as this image, by so many records of pages
pub record IsStream (bytes : List ℕ) (image : List (List ℕ)) (records : ℕ) : Type 0 where
  pub version : ℕ
  pub pages : ℕ
  pub parts : List Part
  pub begins : Begins bytes version pages parts (end_record (count has_pages parts))
  pub image_is : image ≡ loaded_image pages parts
  pub counted : records ≡ count has_pages parts

-- where a valid guest has switched over, the stream loads as the destination's memory
abbrev pub StreamLoads : Guest → List Event → Type 0
StreamLoads guest past =
    IsValid guest
    → IsLegalSoFar guest past
    → list_any is_switched past ≡ true
    → IsStream (stream_of guest past) (destination guest past) (sent_records guest past)

-- bytes load as one image only, by one number of records
abbrev pub LoadsOnce : List ℕ → Type 0
LoadsOnce bytes =
    (a b : List (List ℕ)) (n m : ℕ)
    → IsStream bytes a n
    → IsStream bytes b m
    → (a ≡ b) × (n ≡ m)
