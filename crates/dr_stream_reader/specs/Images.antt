-- The image that bytes load as, and how each record changes it.
use Rattle.std.specs.Prelude.{◌≡◌, ℕ, zero, suc, ◌+◌, ◌*◌, List, ◌++◌, length, take, drop}
use Rattle.std.specs.List.{concat}
use Rattle.dr_history.specs.Lookback.{count}
use Rattle.dr_history.specs.Memory.{filled}
use Rattle.dr_history.specs.Parts.{Part, Page, Zeros, end_record, has_pages}
use Rattle.dr_stream_law.specs.Loading.{IsStream, loaded_image}
use Rattle.dr_stream_reader.specs.Reading.{Reading, HasRead}
use Rattle.dr_stream_reader.specs.declared.image.Image.{Image}

-- the bytes are a stream that loads as this image
pub record IsImageOf (bytes : List ℕ) (image : Image) : Type 0 where
  pub memory : List (List ℕ)
  pub stream : IsStream bytes memory image.records
  pub counted : image.pages ≡ length memory
  pub bytes_are : image.bytes ≡ concat memory

-- these bytes are read, and the image is what the records so far load as
pub record HasLoaded (bytes : List ℕ) (reading : Reading) (image : List ℕ) : Type 0 where
  pub parts : List Part
  pub same : reading.bytes ≡ bytes
  pub has : HasRead parts reading
  pub loaded : image ≡ concat (loaded_image reading.standing.pages parts)

-- the same of all records: the end is next, and counts them
pub record HasLoadedAll (bytes : List ℕ) (reading : Reading) (image : List ℕ) : Type 0 where
  pub parts : List Part
  pub same : reading.bytes ≡ bytes
  pub has : HasRead parts reading
  pub loaded : image ≡ concat (loaded_image reading.standing.pages parts)
  pub ends : reading.rest ≡ end_record (count has_pages parts)

-- an image with these bytes for a page
abbrev pub with_page : ℕ → List ℕ → List ℕ → List ℕ
with_page page bytes image =
    take (page * 4096) image ++ bytes ++ drop (page * 4096 + 4096) image

-- an image with zeros for the pages from a first one on
abbrev pub with_zeros : ℕ → ℕ → List ℕ → List ℕ
with_zeros first zero image = image
with_zeros first (suc n) image = with_page (first + n) (filled 0) (with_zeros first n image)

-- an image after a record
abbrev pub with_part : Part → List ℕ → List ℕ
with_part (Page page bytes) image = with_page page bytes image
with_part (Zeros first n) image = with_zeros first n image
with_part part image = image
