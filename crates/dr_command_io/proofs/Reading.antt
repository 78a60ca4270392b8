-- What reading a source to its end says of its bytes.
use Rattle.std.proofs.Common.{◌≡◌, ℕ, ◌+◌, ◌<◌, ◌≤◌, List, [], length, drop, Option, Some, Result, Ok, Err, ap, sym, ◌∙◌, subst, arith}
use Rattle.dr_io.specs.declared.reading.ReadFault.{ReadFault}
use Rattle.dr_io.specs.declared.reading.ReadFault.TheVariants.{Failed, TooLong}
use Rattle.dr_io.specs.Reading.{ReadsAll}
use Rattle.std.proofs.lemmas.List.{drop_all}
use Rattle.dr_command_io.specs.Taking.{IfTold, IsAll, IsDrained, TakesFew, TakesMany, TakesPart}

-- more bytes than the limit were there
pub too_long : (limit : ℕ) (old : Option (List ℕ)) (before : ℕ) (r : Result (List ℕ) ReadFault) (new : Option (List ℕ)) (now : ℕ)
    → ReadsAll limit old before r new now → r ≡ Err TooLong → IfTold old (λ bytes. limit < length bytes)
too_long limit old before r new now reads is bytes told =
    let part = reads.part TooLong bytes is told in
    let more : limit + length (drop part.0 bytes) < length bytes = reads.long bytes (drop part.0 bytes) is told part.2 in
    omega (arith, more)

-- the bytes that were read are those that were there, and they are within the limit
pub read_all_told : (limit : ℕ) (old : Option (List ℕ)) (before : ℕ) (r : Result (List ℕ) ReadFault) (new : Option (List ℕ)) (now : ℕ) (bytes : List ℕ)
    → ReadsAll limit old before r new now → r ≡ Ok bytes → IfTold old (IsAll limit bytes)
read_all_told limit old before r new now bytes reads is told at =
    let same = (reads.all bytes told is at).0 in
    let Short : List ℕ → Type 0 = λ xs. length xs ≤ limit in
    (same, subst Short same (reads.fits bytes is))

-- what holds of the bytes that were read holds of those that were there
pub of_told : (limit : ℕ) (old : Option (List ℕ)) (bytes : List ℕ) (P : List ℕ → Type 0) → IfTold old (IsAll limit bytes) → P bytes
    → IfTold old (λ told. (length told ≤ limit) × P told)
of_told limit old bytes P all p told at = let is = all told at in (is.1, subst P is.0 p)

-- all that was told was read
pub drained : (limit : ℕ) (old : Option (List ℕ)) (before : ℕ) (r : Result (List ℕ) ReadFault) (new : Option (List ℕ)) (now : ℕ) (bytes : List ℕ)
    → ReadsAll limit old before r new now → r ≡ Ok bytes → IsDrained limit old new
drained limit old before r new now bytes reads is told at =
    let all = reads.all bytes told is at in
    let Short : List ℕ → Type 0 = λ xs. length xs ≤ limit in
    (all.1, subst Short all.0 (reads.fits bytes is))

-- then some first part of it was taken
pub drained_part : (limit : ℕ) (old new : Option (List ℕ)) → IsDrained limit old new → IfTold old (λ bytes. TakesPart limit bytes new)
drained_part limit old new all told at =
    let gone = all told at in
    record {
      part = (length told, omega arith, gone.0 ∙ ap (λ xs. Some xs) (sym (drop_all (length told) told (omega arith))));
      rest = [];
      remaining = gone.0;
      most = omega (arith, gone.1);
    }

pub some_part : (limit : ℕ) (old : Option (List ℕ)) (before : ℕ) (r : Result (List ℕ) ReadFault) (new : Option (List ℕ)) (now : ℕ) (why : ReadFault)
    → ReadsAll limit old before r new now → r ≡ Err why → IfTold old (λ bytes. TakesPart limit bytes new)
some_part limit old before r new now why reads is told at =
    let part = reads.part why told is at in
    record { part = part; rest = drop part.0 told; remaining = part.2; most = reads.most told (drop part.0 told) at part.2 }

pub took_many : (limit : ℕ) (old : Option (List ℕ)) (before : ℕ) (r : Result (List ℕ) ReadFault) (new : Option (List ℕ)) (now : ℕ)
    → ReadsAll limit old before r new now → r ≡ Err TooLong → IfTold old (λ bytes. TakesMany limit bytes new)
took_many limit old before r new now reads is told at =
    let part = reads.part TooLong told is at in
    record { rest = drop part.0 told; remaining = part.2; many = reads.long told (drop part.0 told) is at part.2; most = reads.most told (drop part.0 told) at part.2 }

pub took_few : (limit : ℕ) (old : Option (List ℕ)) (before : ℕ) (r : Result (List ℕ) ReadFault) (new : Option (List ℕ)) (now : ℕ)
    → ReadsAll limit old before r new now → r ≡ Err Failed → IfTold old (λ bytes. TakesFew limit bytes new)
took_few limit old before r new now reads is told at =
    let part = reads.part Failed told is at in
    record { rest = drop part.0 told; remaining = part.2; few = reads.short told (drop part.0 told) is at part.2 }
