-- The numbers of a record that may stand where it does fit their words.
use Rattle.std.proofs.Common.{◌≡◌, ℕ, ◌+◌, ◌^◌, ◌<◌, ◌≤◌, List, length, arith}
use Rattle.std.specs.Prelude.{nat_le, nat_lt}
use Rattle.std.proofs.lemmas.Bool.{leb-true, ltb-true, and_parts}
use Rattle.dr_history.specs.Parts.{Part, Header, Round, Page, Zeros, End}
use Rattle.dr_stream_law.specs.Grammar.{last_round, page_rises, MayStand}

-- a record whose numbers fit their words, and its bytes a page
abbrev pub Fits : Part → Type 0
Fits (Header version pages) = ⊥
Fits (Round r) = r < 2 ^ 32
Fits (Page page bytes) = (page < 2 ^ 32) × (length bytes ≡ 4096)
Fits (Zeros first n) = (first < 2 ^ 32) × (n < 2 ^ 32)
Fits (End records) = ⊥

pub stands_fits : (version pages : ℕ) (part : Part) (earlier : List Part) → pages ≤ 16384
    → MayStand version pages part earlier → Fits part
stands_fits version pages (Header v n) earlier few may = may
stands_fits version pages (Round r) earlier few may =
    let le : r ≤ 65 = leb-true r 65 (and_parts (nat_lt (last_round earlier) r) (nat_le r 65) may).1 in
    omega arith
stands_fits version pages (Page page bytes) earlier few may =
    let lt : page < pages = ltb-true page pages (and_parts (nat_lt page pages) (page_rises page earlier) may.0).0 in
    let fits : page < 2 ^ 32 = omega arith in
    (fits, may.1)
stands_fits version pages (Zeros first n) earlier few may =
    let lt : first < pages = ltb-true first pages (and_parts (nat_lt first pages) (page_rises first earlier) may.1).0 in
    let le : first + n ≤ pages = leb-true (first + n) pages (and_parts (nat_le 1 n) (nat_le (first + n) pages) may.2).1 in
    let one : first < 2 ^ 32 = omega arith in
    let two : n < 2 ^ 32 = omega arith in
    (one, two)
stands_fits version pages (End records) earlier few may = may
