-- A record that may stand where it does has no fault, nor has a good header or a good end.
use Rattle.std.proofs.Common.{◌≡◌, ℕ, ◌-◌, ◌^◌, ◌<◌, ◌≤◌, cond, List, [], ◌++◌, length, Some, None, refl, ap, ◌∙◌, sym, arith, length-append, append_assoc, append-nil, codes}
use Rattle.std.specs.Int.{w32, from_le_bytes}
use Rattle.std.proofs.lemmas.Nat.{from_le_bytes-to_le_bytes_4}
use Rattle.std.proofs.lemmas.Bool.{le-ltb, le-leb, eq-eqb}
use Rattle.dr_types.specs.declared.fault.StreamFault.TheVariants.{Cut}
use Rattle.dr_history.specs.Lookback.{count}
use Rattle.dr_history.specs.Parts.{Part, Header, Round, Page, Zeros, End, word, header, round_record, page_record, zeros_record, end_record, part_bytes, parts_bytes, has_pages}
use Rattle.dr_stream_law.specs.Grammar.{MayStand, Begins}
use Rattle.dr_stream_law.specs.Faults.{number_at, kind_fault, record_fault, header_fault}
use Rattle.dr_stream_law.proofs.Records.{Fits}

word_read : (n : ℕ) (tail : List ℕ) → n < 2 ^ 32 → from_le_bytes w32 (word n ++ tail) ≡ n
word_read n tail lt = from_le_bytes-to_le_bytes_4 n lt

-- a record of eight bytes and more has the fault of its kind and number
pub by_head : (version pages len kind number : ℕ) (earlier : List Part) (rest : List ℕ) → 8 ≤ length rest → number_at 0 rest ≡ kind → number_at 4 rest ≡ number → record_fault version pages earlier len rest ≡ kind_fault version pages kind number earlier (len - length rest) len rest
unfolding record_fault
by_head version pages len kind number earlier rest long is said =
    ap (λ b. cond b (Some (Cut len)) (kind_fault version pages (number_at 0 rest) (number_at 4 rest) earlier (len - length rest) len rest)) (le-ltb (length rest) 8 long)
    ∙ ap (λ k. kind_fault version pages k (number_at 4 rest) earlier (len - length rest) len rest) is
    ∙ ap (λ n. kind_fault version pages kind n earlier (len - length rest) len rest) said

-- the same for a record that is written out
headed : (version pages len kind number : ℕ) (earlier : List Part) (tail : List ℕ) → number < 2 ^ 32 → kind < 2 ^ 32 → record_fault version pages earlier len (word kind ++ word number ++ tail) ≡ kind_fault version pages kind number earlier (len - length (word kind ++ word number ++ tail)) len (word kind ++ word number ++ tail)
headed version pages len kind number earlier tail ln lk =
    let rest : List ℕ = word kind ++ word number ++ tail in
    let long : 8 ≤ length rest = omega arith in
    by_head version pages len kind number earlier rest long (word_read kind (word number ++ tail) lk) (word_read number tail ln)

page_long : (page : ℕ) (bytes tail : List ℕ) → length bytes ≡ 4096 → 4104 ≤ length (word 2 ++ word page ++ bytes ++ tail)
page_long page bytes tail is = omega (arith, length-append bytes tail, is)

pub good_record : (version pages len : ℕ) (part : Part) (earlier : List Part) (tail : List ℕ) → Fits part → MayStand version pages part earlier → record_fault version pages earlier len (part_bytes part ++ tail) ≡ None
unfolding round_record page_record zeros_record
good_record version pages len (Header v n) earlier tail fits may = absurd fits
good_record version pages len (End n) earlier tail fits may = absurd fits
good_record version pages len (Round r) earlier tail fits may =
    let one : 1 < 2 ^ 32 = omega arith in
    headed version pages len 1 r earlier tail fits one ∙ rw may refl
good_record version pages len (Page page bytes) earlier tail fits may =
    let two : 2 < 2 ^ 32 = omega arith in
    headed version pages len 2 page earlier (bytes ++ tail) fits.0 two
    ∙ rw (may.0, le-leb 4104 (length (word 2 ++ word page ++ bytes ++ tail)) (page_long page bytes tail fits.1)) refl
good_record version pages len (Zeros first n) earlier tail fits may =
    let four : 4 < 2 ^ 32 = omega arith in
    let long : 12 ≤ length (word 4 ++ word first ++ word n ++ tail) = omega arith in
    headed version pages len 4 first earlier (word n ++ tail) fits.0 four
    ∙ rw (eq-eqb version 2 may.0, may.1, le-leb 12 (length (word 4 ++ word first ++ word n ++ tail)) long, word_read n tail fits.1, may.2) refl

-- an end that counts the records has no fault
pub good_end : (version pages len : ℕ) (parts : List Part) → count has_pages parts < 2 ^ 32 → record_fault version pages parts len (end_record (count has_pages parts)) ≡ None
unfolding end_record
good_end version pages len parts few =
    let three : 3 < 2 ^ 32 = omega arith in
    ap (record_fault version pages parts len) (ap (λ xs. word 3 ++ xs) (sym (append-nil (word (count has_pages parts)))))
    ∙ headed version pages len 3 (count has_pages parts) parts [] few three
    ∙ rw (eq-eqb (count has_pages parts) (count has_pages parts) refl) refl

good_header : (v p : ℕ) (xs : List ℕ) → 1 ≤ v → v ≤ 2 → 1 ≤ p → p ≤ 16384 → header_fault (header v p ++ xs) ≡ None
unfolding header header_fault
good_header v p xs sv fv sp fp =
    let lv : v < 2 ^ 32 = omega arith in
    let lp : p < 2 ^ 32 = omega arith in
    let bytes : List ℕ = codes "DRSTREAM" ++ word v ++ word p ++ xs in
    let long : 16 ≤ length bytes = omega arith in
    let version : number_at 8 bytes ≡ v = from_le_bytes-to_le_bytes_4 v lv in
    let pages : number_at 12 bytes ≡ p = from_le_bytes-to_le_bytes_4 p lp in
    rw (le-ltb (length bytes) 12 (omega (arith, long)), le-ltb (length bytes) 16 long, version, pages, le-leb 1 v sv, le-leb v 2 fv, le-leb 1 p sp, le-leb p 16384 fp) refl

-- bytes that begin with a good header have no fault in it
pub begun_header : (bytes : List ℕ) (v p : ℕ) (ps : List Part) (x : List ℕ) → Begins bytes v p ps x → header_fault bytes ≡ None
begun_header bytes v p ps x a =
    ap header_fault (a.bytes_are ∙ append_assoc (header v p) (parts_bytes ps) x) ∙ good_header v p (parts_bytes ps ++ x) a.some_version a.known a.some a.few
