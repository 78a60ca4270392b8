-- The header, as it is read.
use Rattle.std.proofs.Common.{◌≡◌, ℕ, zero, suc, ◌+◌, ◌≤◌, true, false, cond, List, [], ◌∷◌, ◌++◌, length, take, drop, Some, refl, ap, sym, subst, ◌∙◌, arith, codes}
use Rattle.std.specs.Prelude.{nat_le}
use Rattle.std.specs.Str.{bytes_eq}
use Rattle.std.proofs.lemmas.Nat.{le_bytes_4}
use Rattle.std.proofs.lemmas.Slice.Eq.{bytes_eq-Decides}
use Rattle.std.proofs.lemmas.List.{length-drop, drop-drop, take-append-drop, take_all}
use Rattle.std.proofs.lemmas.Bool.{le-ltb, leb-true, and_parts}
use Rattle.dr_types.specs.declared.fault.StreamFault.TheVariants.{Magic, Version, Cut}
use Rattle.dr_history.specs.Parts.{word, header}
use Rattle.dr_stream_law.specs.Grammar.{Begins}
use Rattle.dr_stream_law.specs.Faults.{has_magic, header_fault, is_known, number_at, numbers_fault, pages_fault, unless}
use Rattle.dr_stream_reader.specs.Reading.{AreBytes, HasRead, IsReading, reading_of}
use Rattle.dr_stream_reader.specs.Standings.{StandsAfter}
use Rattle.dr_stream_reader.specs.Headers.{HasHeader, SaysPages, SaysVersion}
use Rattle.dr_stream_reader.specs.declared.standing.Standing.{Standing}
use Rattle.dr_stream_reader.specs.Standings.{start}

pub magic_fault : (bytes : List ℕ) → has_magic bytes ≡ false → header_fault bytes ≡ Some Magic
unfolding header_fault
magic_fault bytes h = ap (λ b. unless b Magic (numbers_fault bytes)) h

pub magic_passes : (bytes : List ℕ) → has_magic bytes ≡ true → header_fault bytes ≡ numbers_fault bytes
unfolding header_fault
magic_passes bytes h = ap (λ b. unless b Magic (numbers_fault bytes)) h

pub version_passes : (bytes : List ℕ) (version : ℕ) → SaysVersion bytes version → numbers_fault bytes ≡ pages_fault bytes
version_passes bytes version says =
    ap (λ b. cond b (Some (Cut (length bytes))) (unless (is_known (number_at 8 bytes)) (Version (number_at 8 bytes)) (pages_fault bytes))) (le-ltb (length bytes) 12 says.long)
    ∙ ap (λ n. unless (is_known n) (Version (number_at 8 bytes)) (pages_fault bytes)) says.is
    ∙ ap (λ b. unless b (Version (number_at 8 bytes)) (pages_fault bytes)) says.known

-- the bytes begin with their first number
pub first_word : (bytes : List ℕ) (n : ℕ) → AreBytes bytes → 4 ≤ length bytes → number_at 0 bytes ≡ n → bytes ≡ word n ++ drop 4 bytes
first_word [] n are long is = absurd (omega (arith, long))
first_word (a ∷ []) n are long is = absurd (omega (arith, long))
first_word (a ∷ b ∷ []) n are long is = absurd (omega (arith, long))
first_word (a ∷ b ∷ c ∷ []) n are long is = absurd (omega (arith, long))
first_word (a ∷ b ∷ c ∷ d ∷ bytes) n are long is =
    ap (λ xs. xs ++ bytes) (sym (le_bytes_4 (a ∷ b ∷ c ∷ d ∷ []) n refl (small a b c d bytes are) (sym is)))
  where
    small : (a b c d : ℕ) (bytes : List ℕ) → AreBytes (a ∷ b ∷ c ∷ d ∷ bytes) → AreBytes (a ∷ b ∷ c ∷ d ∷ [])
    small a b c d bytes are zero = are 0
    small a b c d bytes are (suc zero) = are 1
    small a b c d bytes are (suc (suc zero)) = are 2
    small a b c d bytes are (suc (suc (suc zero))) = are 3
    small a b c d bytes are (suc (suc (suc (suc i)))) = omega arith

pub are_later : (n : ℕ) (bytes : List ℕ) → AreBytes bytes → AreBytes (drop n bytes)
are_later zero bytes are = are
are_later (suc n) [] are = are
are_later (suc n) (byte ∷ bytes) are = are_later n bytes (λ i. are (suc i))

-- the bytes begin with the number at a place, from that place on
pub word_at : (at : ℕ) (bytes : List ℕ) (n : ℕ) → AreBytes bytes → at + 4 ≤ length bytes → number_at at bytes ≡ n → drop at bytes ≡ word n ++ drop (at + 4) bytes
word_at at bytes n are long is =
    first_word (drop at bytes) n (are_later at bytes are) (omega (arith, length-drop at bytes, long)) is
    ∙ ap (λ xs. word n ++ xs) (drop-drop 4 at bytes)

same_bytes : (xs ys : List ℕ) → bytes_eq xs ys ≡ true → xs ≡ ys
same_bytes xs ys h = (bytes_eq-Decides xs ys).0 h

magic_is : (bytes : List ℕ) → 16 ≤ length bytes → has_magic bytes ≡ true → bytes ≡ codes "DRSTREAM" ++ drop 8 bytes
magic_is bytes long h =
    let first : take 8 bytes ≡ take (length bytes) (codes "DRSTREAM") = same_bytes (take 8 bytes) (take (length bytes) (codes "DRSTREAM")) h in
    sym (take-append-drop 8 bytes) ∙ ap (λ xs. xs ++ drop 8 bytes) (first ∙ take_all (length bytes) (codes "DRSTREAM") (omega (arith, long)))

pub header_read : (bytes : List ℕ) (version pages : ℕ) (standing : Standing) → AreBytes bytes → has_magic bytes ≡ true → SaysVersion bytes version → SaysPages bytes pages → standing ≡ start version pages → HasHeader bytes standing
unfolding header
header_read bytes version pages standing are magic v p is =
    let known = and_parts (nat_le 1 version) (nat_le version 2) v.known in
    let some = and_parts (nat_le 1 pages) (nat_le pages 16384) p.some in
    let eight : 8 + 4 ≤ length bytes = v.long in
    let twelve : 12 + 4 ≤ length bytes = p.long in
    let whole : bytes ≡ codes "DRSTREAM" ++ word version ++ word pages ++ drop 16 bytes =
    magic_is bytes p.long magic ∙ ap (λ xs. codes "DRSTREAM" ++ xs) (word_at 8 bytes version are eight v.is ∙ ap (λ xs. word version ++ xs) (word_at 12 bytes pages are twelve p.is)) in
    subst (HasHeader bytes) (sym is) (record {
      begins = record {
        some_version = leb-true 1 version known.0;
        known = leb-true version 2 known.1;
        some = leb-true 1 pages some.0;
        few = leb-true pages 16384 some.1;
        in_place = tt;
        bytes_are = whole;
      };
      starts = refl;
    })

pub header_long : (bytes : List ℕ) (standing : Standing) → HasHeader bytes standing → 16 ≤ length bytes
unfolding header
header_long bytes standing has = subst (λ xs. 16 ≤ length xs) (sym has.begins.bytes_are) (omega arith)

stands_start : (standing : Standing) → standing ≡ start standing.version standing.pages → StandsAfter [] standing
stands_start standing is = record { round = ap (λ s. s.round) is; least = ap (λ s. s.least) is; records = ap (λ s. s.records) is }

-- a reader that has read the header
pub begun : (bytes rest : List ℕ) (standing : Standing) → HasHeader bytes standing → rest ≡ drop 16 bytes → HasRead [] (reading_of bytes rest standing)
begun bytes rest standing has is = record {
  begins = subst (λ xs. Begins bytes standing.version standing.pages [] xs) (sym is) has.begins;
  stands = stands_start standing has.starts;
}

pub is_reading : (bytes rest : List ℕ) (standing : Standing) → AreBytes bytes → HasHeader bytes standing → rest ≡ drop 16 bytes → IsReading (reading_of bytes rest standing)
is_reading bytes rest standing are has is = record {
  parts = [];
  has = begun bytes rest standing has is;
  are_bytes = subst AreBytes (sym is) (are_later 16 bytes are);
}
