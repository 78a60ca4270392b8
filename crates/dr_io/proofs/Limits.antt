-- What a source that tells what is left is known to answer.
use Rattle.std.proofs.Common.{◌≡◌, ◌≢◌, ℕ, ◌≤◌, ◌<◌, List, drop, length, Option, Some, Result, Ok, Err, refl, subst, arith}
use Rattle.dr_io.specs.Reading.{ReadsAll, IsPartTaken}
use Rattle.dr_io.specs.declared.reading.ReadFault.{ReadFault}
use Rattle.dr_io.specs.declared.reading.ReadFault.TheVariants as fault

-- what fits the limit is never too long
pub never_too_long : (limit before now : ℕ) (told : List ℕ) (result : Result (List ℕ) ReadFault) (new : Option (List ℕ))
    → ReadsAll limit (Some told) before result new now → length told ≤ limit → result ≢ Err fault.TooLong
never_too_long limit before now told result new r fits is =
    let part : IsPartTaken told new = r.part fault.TooLong told is refl in
    let over = r.long told (drop part.0 told) is refl part.2 in
    absurd (omega (arith, over))

-- what is longer than the limit never comes whole
pub never_whole : (limit before now : ℕ) (told bytes : List ℕ) (result : Result (List ℕ) ReadFault) (new : Option (List ℕ))
    → ReadsAll limit (Some told) before result new now → limit < length told → result ≢ Ok bytes
never_whole limit before now told bytes result new r longer is =
    let same : bytes ≡ told = (r.all bytes told is refl).0 in
    let fits : length told ≤ limit = subst (λ xs. length xs ≤ limit) same (r.fits bytes is) in
    absurd (omega (arith, fits))
