-- What `load` puts on its two ports.
use Rattle.std.specs.Prelude.{ℕ, List, [], ◌∷◌, codes}
use Rattle.std.specs.Fmt.{decimal}
use Rattle.dr_types.specs.declared.port.Port.{Port}
use Rattle.dr_types.specs.declared.port.Port.TheVariants as port
use Rattle.dr_types.specs.Lines.{line_text}
use Rattle.dr_stream_reader.specs.declared.image.Image.{Image}

-- the line of a stream that was loaded: how many pages and how many records of pages it has
abbrev pub line_of : ℕ → ℕ → List ℕ
line_of pages records =
    line_text (codes "loaded" ∷ codes "pages" ∷ decimal pages ∷ codes "records" ∷ decimal records
    ∷ [])

-- what is put of an image, in this order
abbrev pub puts_of : Image → List (Port × List ℕ)
puts_of image =
    (port.Image, image.bytes) ∷ (port.Report, line_of image.pages image.records) ∷ []
