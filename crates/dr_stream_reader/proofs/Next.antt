-- What comes next in a stream.
use Rattle.std.proofs.Common.{◌≡◌, ℕ, ◌+◌, ◌-◌, ◌^◌, ◌<◌, ◌≤◌, Bool, true, false, cond, List, [], ◌∷◌, ◌++◌, length, take, drop, Some, None, Option, refl, ap, sym, subst, ◌∙◌, arith, Bor, append_assoc, length-append}
use Rattle.std.specs.Prelude.{Ok, Err, nat_le, nat_lt, ◌==◌, ◌&&◌}
use Rattle.std.proofs.lemmas.Bool.{leb-true, ltb-true, and_parts, le-leb, lt-ltb, lt-leb, eq-eqb, eqb-true, ne_eqb}
use Rattle.std.proofs.lemmas.List.{length-drop, drop-drop, take-append-drop, length-take-le, drop_all}
use Rattle.dr_types.specs.declared.fault.StreamFault.{StreamFault}
use Rattle.dr_types.specs.declared.fault.StreamFault.TheVariants.{Cut, Place, Count, After, Kind}
use Rattle.dr_history.specs.Lookback.{count}
use Rattle.dr_history.specs.Parts.{Part, word, round_record, page_record, zeros_record, end_record, part_bytes, parts_bytes, has_pages, header}
use Rattle.dr_stream_law.specs.Grammar.{last_round, round_rises, page_rises, page_fits, zeros_fit, MayStand, Begins}
use Rattle.dr_stream_law.specs.Faults.{number_at, unless, kind_fault, record_fault}
use Rattle.dr_stream_law.proofs.Faultless.{by_head}
use Rattle.dr_stream_law.proofs.Few.{named_is, few_records}
use Rattle.dr_stream_reader.specs.declared.record.Record.{Record}
use Rattle.dr_stream_reader.specs.declared.record.Record.TheVariants as kind
use Rattle.dr_stream_reader.specs.declared.standing.Standing.{Standing}
use Rattle.dr_stream_reader.specs.Records.{part_of, size_of}
use Rattle.dr_stream_reader.specs.Standings.{begins_round, names_page, standing_after, StandsAfter}
use Rattle.dr_stream_reader.specs.Reading.{Reading, HasRead, SaysNext, ReadsNext, HasHead, AreBytes, IsReading, reading_of, next_fault}
use Rattle.dr_stream_reader.proofs.Headers.{word_at, are_later}

-- where the next record begins
abbrev pub place : Reading → ℕ
place r = length r.bytes - length r.rest

by_kind : (r : Reading) (parts : List Part) (of number : ℕ) → HasHead r of number → next_fault r parts ≡ kind_fault r.standing.version r.standing.pages of number parts (place r) (length r.bytes) r.rest
by_kind r parts of number head =
    by_head r.standing.version r.standing.pages (length r.bytes) of number parts r.rest head.long head.is head.says

head_bytes : (r : Reading) (of number : ℕ) → HasHead r of number → AreBytes r.rest → r.rest ≡ word of ++ word number ++ drop 8 r.rest
head_bytes r of number head are =
    let four : 4 + 4 ≤ length r.rest = head.long in
    let none : 0 + 4 ≤ length r.rest = omega (arith, head.long) in
    word_at 0 r.rest of are none head.is ∙ ap (λ xs. word of ++ xs) (word_at 4 r.rest number are four head.says)

begins_is : (r : Reading) (parts : List Part) (n : ℕ) → HasRead parts r → begins_round r.standing n ≡ round_rises n parts
begins_is r parts n has = ap (λ l. nat_lt l n && nat_le n 65) has.stands.round

names_is : (r : Reading) (parts : List Part) (page : ℕ) → HasRead parts r → names_page r.standing page ≡ page_fits r.standing.pages page parts
names_is r parts page has =
    ap (λ l. nat_lt page r.standing.pages && (nat_lt 0 l && nat_le r.standing.least page)) has.stands.round
    ∙ ap (λ l. nat_lt page r.standing.pages && (nat_lt 0 (last_round parts) && nat_le l page)) has.stands.least
    ∙ ap (λ b. nat_lt page r.standing.pages && b) (named_is r.standing.version r.standing.pages page parts has.begins.in_place)

-- a round that may not begin
pub round_misplaced : (r : Reading) (number : ℕ) (why : StreamFault) → HasHead r 1 number → begins_round r.standing number ≡ false → why ≡ Place (place r) → SaysNext r (Err why)
unfolding SaysNext
round_misplaced r number why head not is = λ parts has.
    by_kind r parts 1 number head ∙ ap (λ b. unless b (Place (place r)) None) (sym (begins_is r parts number has) ∙ not) ∙ ap Some (sym is)

pub round_comes : (r : Reading) (number : ℕ) → HasHead r 1 number → AreBytes r.rest → begins_round r.standing number ≡ true → SaysNext r (Ok (Some (kind.Round number)))
unfolding round_record SaysNext
round_comes r number head are h = λ parts has. record {
  may = sym (begins_is r parts number has) ∙ h;
  bytes_are = head_bytes r 1 number head are;
}

-- a page that may not be named
pub page_misplaced : (r : Reading) (page : ℕ) (why : StreamFault) → HasHead r 2 page → names_page r.standing page ≡ false → why ≡ Place (place r) → SaysNext r (Err why)
unfolding SaysNext
page_misplaced r page why head not is = λ parts has.
    by_kind r parts 2 page head
    ∙ ap (λ b. unless b (Place (place r)) (unless (nat_le 4104 (length r.rest)) (Cut (length r.bytes)) None)) (sym (names_is r parts page has) ∙ not) ∙ ap Some (sym is)

short : (n m : ℕ) → n < m → nat_le m n ≡ false
short n m lt = lt-leb m n lt

pub page_cut : (r : Reading) (page : ℕ) (why : StreamFault) → HasHead r 2 page → names_page r.standing page ≡ true → length r.rest < 4104 → why ≡ Cut (length r.bytes) → SaysNext r (Err why)
unfolding SaysNext
page_cut r page why head named less is = λ parts has.
    by_kind r parts 2 page head
    ∙ ap (λ b. unless b (Place (place r)) (unless (nat_le 4104 (length r.rest)) (Cut (length r.bytes)) None)) (sym (names_is r parts page has) ∙ named)
    ∙ ap (λ b. unless b (Cut (length r.bytes)) None) (short (length r.rest) 4104 less) ∙ ap Some (sym is)

page_whole : (rest : List ℕ) → 4104 ≤ length rest → length (take 4096 (drop 8 rest)) ≡ 4096
page_whole rest long = length-take-le 4096 (drop 8 rest) (omega (arith, length-drop 8 rest, long))

cut_page : (rest : List ℕ) → drop 8 rest ≡ take 4096 (drop 8 rest) ++ drop 4104 rest
cut_page rest = sym (take-append-drop 4096 (drop 8 rest)) ∙ ap (λ xs. take 4096 (drop 8 rest) ++ xs) (drop-drop 4096 8 rest)

pub page_comes : (r : Reading) (page : ℕ) (bytes : Bor (List ℕ)) → HasHead r 2 page → AreBytes r.rest → names_page r.standing page ≡ true → 4104 ≤ length r.rest → bytes.now ≡ take 4096 (drop 8 r.rest) → SaysNext r (Ok (Some (kind.Page page bytes)))
unfolding page_record SaysNext
page_comes r page bytes head are named long is = λ parts has. record {
  may = (sym (names_is r parts page has) ∙ named, ap length is ∙ page_whole r.rest long);
  bytes_are = head_bytes r 2 page head are ∙ ap (λ xs. word 2 ++ word page ++ xs) (cut_page r.rest) ∙ ap (λ xs. word 2 ++ word page ++ xs ++ drop 4104 r.rest) (sym is);
}

-- pages of zeros that may not be named
abbrev zeros_at : Reading → ℕ → ℕ → Bool → Bool → Bool → Option StreamFault
zeros_at r first n named long fits =
    unless named (Place (place r)) (unless long (Cut (length r.bytes)) (unless fits (Place (place r)) None))

zeros_are : (r : Reading) (parts : List Part) (first : ℕ) → HasHead r 4 first → r.standing.version ≡ 2 → next_fault r parts ≡ zeros_at r first 0 (page_fits r.standing.pages first parts) (nat_le 12 (length r.rest)) (zeros_fit r.standing.pages first (number_at 8 r.rest))
zeros_are r parts first head two =
    by_kind r parts 4 first head
    ∙ ap (λ v. cond (v == 2) (zeros_at r first 0 (page_fits r.standing.pages first parts) (nat_le 12 (length r.rest)) (zeros_fit r.standing.pages first (number_at 8 r.rest))) (Some (Kind (place r)))) two

pub zeros_misplaced : (r : Reading) (first : ℕ) (why : StreamFault) → HasHead r 4 first → r.standing.version ≡ 2 → names_page r.standing first ≡ false → why ≡ Place (place r) → SaysNext r (Err why)
unfolding SaysNext
zeros_misplaced r first why head two not is = λ parts has.
    zeros_are r parts first head two
    ∙ ap (λ b. zeros_at r first 0 b (nat_le 12 (length r.rest)) (zeros_fit r.standing.pages first (number_at 8 r.rest))) (sym (names_is r parts first has) ∙ not) ∙ ap Some (sym is)

pub zeros_cut : (r : Reading) (first : ℕ) (why : StreamFault) → HasHead r 4 first → r.standing.version ≡ 2 → names_page r.standing first ≡ true → length r.rest < 12 → why ≡ Cut (length r.bytes) → SaysNext r (Err why)
unfolding SaysNext
zeros_cut r first why head two named less is = λ parts has.
    zeros_are r parts first head two
    ∙ ap (λ b. zeros_at r first 0 b (nat_le 12 (length r.rest)) (zeros_fit r.standing.pages first (number_at 8 r.rest))) (sym (names_is r parts first has) ∙ named)
    ∙ ap (λ b. zeros_at r first 0 true b (zeros_fit r.standing.pages first (number_at 8 r.rest))) (short (length r.rest) 12 less) ∙ ap Some (sym is)

pub zeros_overrun : (r : Reading) (first n : ℕ) (why : StreamFault) → HasHead r 4 first → r.standing.version ≡ 2 → names_page r.standing first ≡ true → 12 ≤ length r.rest → number_at 8 r.rest ≡ n → zeros_fit r.standing.pages first n ≡ false → why ≡ Place (place r) → SaysNext r (Err why)
unfolding SaysNext
zeros_overrun r first n why head two named long said not is = λ parts has.
    zeros_are r parts first head two
    ∙ ap (λ b. zeros_at r first 0 b (nat_le 12 (length r.rest)) (zeros_fit r.standing.pages first (number_at 8 r.rest))) (sym (names_is r parts first has) ∙ named)
    ∙ ap (λ b. zeros_at r first 0 true b (zeros_fit r.standing.pages first (number_at 8 r.rest))) (le-leb 12 (length r.rest) long)
    ∙ ap (λ b. zeros_at r first 0 true true b) (ap (λ m. zeros_fit r.standing.pages first m) said ∙ not) ∙ ap Some (sym is)

pub zeros_come : (r : Reading) (first n : ℕ) → HasHead r 4 first → AreBytes r.rest → r.standing.version ≡ 2 → names_page r.standing first ≡ true → 12 ≤ length r.rest → number_at 8 r.rest ≡ n → zeros_fit r.standing.pages first n ≡ true → SaysNext r (Ok (Some (kind.Zeros first n)))
unfolding zeros_record SaysNext
zeros_come r first n head are two named long said fits = λ parts has.
    let twelve : 8 + 4 ≤ length r.rest = long in
    record {
      may = (two, sym (names_is r parts first has) ∙ named, fits);
      bytes_are = head_bytes r 4 first head are ∙ ap (λ xs. word 4 ++ word first ++ xs) (word_at 8 r.rest n are twelve said);
    }

-- an end that counts wrong, and one that something follows
abbrev end_at : Reading → List Part → ℕ → Bool → Option StreamFault
end_at r parts said follows =
    unless (said == count has_pages parts) (Count said (count has_pages parts)) (unless follows (After (place r + 8)) None)

pub miscounted : (r : Reading) (said : ℕ) (why : StreamFault) → HasHead r 3 said → (said ≡ r.standing.records → ⊥) → why ≡ Count said r.standing.records → SaysNext r (Err why)
unfolding SaysNext
miscounted r said why head not is = λ parts has.
    let same : r.standing.records ≡ count has_pages parts = has.stands.records in
    by_kind r parts 3 said head
    ∙ ap (λ b. unless b (Count said (count has_pages parts)) (unless (nat_le (length r.rest) 8) (After (place r + 8)) None)) (ne_eqb said (count has_pages parts) (λ e. not (e ∙ sym same)))
    ∙ ap (λ n. Some (Count said n)) (sym same) ∙ ap Some (sym is)

counted : (r : Reading) (parts : List Part) (said : ℕ) → HasHead r 3 said → HasRead parts r → said ≡ r.standing.records → next_fault r parts ≡ unless (nat_le (length r.rest) 8) (After (place r + 8)) None
counted r parts said head has is =
    by_kind r parts 3 said head
    ∙ ap (λ b. unless b (Count said (count has_pages parts)) (unless (nat_le (length r.rest) 8) (After (place r + 8)) None)) (eq-eqb said (count has_pages parts) (is ∙ has.stands.records))

pub followed : (r : Reading) (said : ℕ) (why : StreamFault) → HasHead r 3 said → said ≡ r.standing.records → nat_le (length r.rest) 8 ≡ false → why ≡ After (place r + 8) → SaysNext r (Err why)
unfolding SaysNext
followed r said why head same more is = λ parts has.
    counted r parts said head has same
    ∙ ap (λ b. unless b (After (place r + 8)) None) more ∙ ap Some (sym is)

nothing_left : (xs : List ℕ) → length xs ≤ 8 → drop 8 xs ≡ []
nothing_left xs le = drop_all 8 xs le

pub ends : (r : Reading) (said : ℕ) → HasHead r 3 said → AreBytes r.rest → said ≡ r.standing.records → nat_le (length r.rest) 8 ≡ true → SaysNext r (Ok None)
unfolding end_record SaysNext
ends r said head are same le = λ parts has.
    head_bytes r 3 said head are ∙ ap (λ xs. word 3 ++ word said ++ xs) (nothing_left r.rest (leb-true (length r.rest) 8 le))
    ∙ ap (λ n. word 3 ++ word n) (same ∙ has.stands.records)

-- fewer bytes than a kind and a number have
pub head_cut : (r : Reading) (why : StreamFault) → length r.rest < 8 → why ≡ Cut (length r.bytes) → SaysNext r (Err why)
unfolding record_fault SaysNext
head_cut r why less is = λ parts has.
    ap (λ b. cond b (Some (Cut (length r.bytes))) (kind_fault r.standing.version r.standing.pages (number_at 0 r.rest) (number_at 4 r.rest) parts (place r) (length r.bytes) r.rest)) (lt-ltb (length r.rest) 8 less)
    ∙ ap Some (sym is)

no_kind : (version pages of number : ℕ) (parts : List Part) (at len : ℕ) (rest : List ℕ) → (of ≡ 1 → ⊥) → (of ≡ 2 → ⊥) → (of ≡ 3 → ⊥) → (of == 4 && version == 2) ≡ false → kind_fault version pages of number parts at len rest ≡ Some (Kind at)
no_kind version pages of number parts at len rest a b c d =
    rw (ne_eqb of 1 a, ne_eqb of 2 b, ne_eqb of 3 c, d) refl

pub unknown_kind : (r : Reading) (of number : ℕ) (why : StreamFault) → HasHead r of number → (of ≡ 1 → ⊥) → (of ≡ 2 → ⊥) → (of ≡ 3 → ⊥) → (of == 4 && r.standing.version == 2) ≡ false → why ≡ Kind (place r) → SaysNext r (Err why)
unfolding SaysNext
unknown_kind r of number why head a b c d is = λ parts has.
    by_kind r parts of number head
    ∙ no_kind r.standing.version r.standing.pages of number parts (place r) (length r.bytes) r.rest a b c d ∙ ap Some (sym is)

-- the kind of a record of zeros, and its version
pub zeros_kind : (of version : ℕ) → (of == 4 && version == 2) ≡ true → of ≡ 4
zeros_kind of version h = eqb-true of 4 (and_parts (of == 4) (version == 2) h).0

pub zeros_version : (of version : ℕ) → (of == 4 && version == 2) ≡ true → version ≡ 2
zeros_version of version h = eqb-true version 2 (and_parts (of == 4) (version == 2) h).1

-- how long a record is that may stand somewhere
size_is : (version pages : ℕ) (next : Record) (parts : List Part) → MayStand version pages (part_of next) parts → length (part_bytes (part_of next)) ≡ size_of next
unfolding round_record page_record zeros_record
size_is version pages (kind.Round r) parts may = refl
size_is version pages (kind.Page page bytes) parts may = let is : length bytes.now ≡ 4096 = may.1 in omega (arith, is)
size_is version pages (kind.Zeros first n) parts may = refl

-- a record that comes next is all there
pub size_fits : (r : Reading) (next : Record) → IsReading r → SaysNext r (Ok (Some next)) → size_of next ≤ length r.rest
unfolding SaysNext
size_fits r next reading says =
    let comes = says reading.parts reading.has in
    let size : length (part_bytes (part_of next)) ≡ size_of next = size_is r.standing.version r.standing.pages next reading.parts comes.may in
    let all : length r.rest ≡ length (part_bytes (part_of next)) + length (drop (size_of next) r.rest) = ap length comes.bytes_are ∙ length-append (part_bytes (part_of next)) (drop (size_of next) r.rest) in
    omega (arith, size, all)

least_fits : (s : Standing) (parts : List Part) (next : Record) → s.pages ≤ 16384 → MayStand s.version s.pages (part_of next) parts → (standing_after s (part_of next)).least < 2 ^ 32
least_fits s parts (kind.Round r) few may = omega arith
least_fits s parts (kind.Page page bytes) few may =
    let lt : page < s.pages = ltb-true page s.pages (and_parts (nat_lt page s.pages) (page_rises page parts) may.0).0 in omega (arith, lt, few)
least_fits s parts (kind.Zeros first n) few may =
    let le : first + n ≤ s.pages = leb-true (first + n) s.pages (and_parts (nat_le 1 n) (nat_le (first + n) s.pages) may.2).1 in omega (arith, le, few)

pub least_small : (r : Reading) (next : Record) → IsReading r → SaysNext r (Ok (Some next)) → (standing_after r.standing (part_of next)).least < 2 ^ 32
unfolding SaysNext
least_small r next reading says =
    least_fits r.standing reading.parts next reading.has.begins.few (says reading.parts reading.has).may

pub records_small : (r : Reading) → IsReading r → r.standing.records + 1 < 2 ^ 32
records_small r reading =
    let few : count has_pages reading.parts ≤ 1064960 = few_records r.standing.version r.standing.pages reading.parts reading.has.begins.few reading.has.begins.in_place in
    let is : r.standing.records ≡ count has_pages reading.parts = reading.has.stands.records in
    omega (arith, few, is)

stands_on : (s : Standing) (parts : List Part) (version pages : ℕ) (next : Record) → StandsAfter parts s → MayStand version pages (part_of next) parts → StandsAfter (part_of next ∷ parts) (standing_after s (part_of next))
stands_on s parts version pages (kind.Round r) stands may = record { round = refl; least = refl; records = stands.records }
stands_on s parts version pages (kind.Page page bytes) stands may = record { round = stands.round; least = refl; records = ap (λ n. n + 1) stands.records }
stands_on s parts version pages (kind.Zeros first n) stands may = record { round = stands.round; least = refl; records = ap (λ n. n + 1) stands.records }

begins_on : (bytes : List ℕ) (version pages : ℕ) (parts : List Part) (next : Record) (rest left : List ℕ) → Begins bytes version pages parts rest → MayStand version pages (part_of next) parts → rest ≡ part_bytes (part_of next) ++ left → Begins bytes version pages (part_of next ∷ parts) left
begins_on bytes version pages parts next rest left begins may is = record {
  some_version = begins.some_version;
  known = begins.known;
  some = begins.some;
  few = begins.few;
  in_place = (may, begins.in_place);
  bytes_are = begins.bytes_are ∙ whole (header version pages) (parts_bytes parts) (part_bytes (part_of next)) left rest is;
}
  where
    whole : (a b c left rest : List ℕ) → rest ≡ c ++ left → a ++ b ++ rest ≡ a ++ (b ++ c) ++ left
    whole a b c left rest h = ap (λ xs. a ++ b ++ xs) h ∙ sym (append_assoc (a ++ b) c left) ∙ ap (λ xs. xs ++ left) (append_assoc a b c)

pub same_kind : (s : Standing) (next : Record) → ((standing_after s (part_of next)).version ≡ s.version) × ((standing_after s (part_of next)).pages ≡ s.pages)
same_kind s (kind.Round r) = (refl, refl)
same_kind s (kind.Page page bytes) = (refl, refl)
same_kind s (kind.Zeros first n) = (refl, refl)

-- the reader once it is past the next record
abbrev pub passed : Reading → Record → Reading
passed r next = reading_of r.bytes (drop (size_of next) r.rest) (standing_after r.standing (part_of next))

pub goes_past : (r : Reading) (next : Record) (parts : List Part) → SaysNext r (Ok (Some next)) → HasRead parts r → HasRead (part_of next ∷ parts) (passed r next)
unfolding SaysNext
goes_past r next parts says has =
    let comes = says parts has in
    let same = same_kind r.standing next in
    record {
      begins =
          subst (λ v. Begins r.bytes v (standing_after r.standing (part_of next)).pages (part_of next ∷ parts) (drop (size_of next) r.rest)) (sym same.0)
          (subst (λ p. Begins r.bytes r.standing.version p (part_of next ∷ parts) (drop (size_of next) r.rest)) (sym same.1)
          (begins_on r.bytes r.standing.version r.standing.pages parts next r.rest (drop (size_of next) r.rest) has.begins comes.may comes.bytes_are));
      stands = stands_on r.standing parts r.standing.version r.standing.pages next has.stands comes.may;
    }

pub still_reading : (r : Reading) (next : Record) → IsReading r → SaysNext r (Ok (Some next)) → IsReading (passed r next)
still_reading r next reading says = record {
  parts = part_of next ∷ reading.parts;
  has = goes_past r next reading.parts says reading.has;
  are_bytes = are_later (size_of next) r.rest reading.are_bytes;
}

shorter : (r : Reading) (next : Record) → IsReading r → SaysNext r (Ok (Some next)) → length (drop (size_of next) r.rest) < length r.rest
shorter r next reading says =
    let fits : size_of next ≤ length r.rest = size_fits r next reading says in
    let some : 8 ≤ size_of next = head_size next in
    omega (arith, length-drop (size_of next) r.rest, fits, some)
  where
    head_size : (next : Record) → 8 ≤ size_of next
    head_size (kind.Round r) = omega arith
    head_size (kind.Page page bytes) = omega arith
    head_size (kind.Zeros first n) = omega arith

pub passes : (r s : Reading) (next : Record) → IsReading r → SaysNext r (Ok (Some next)) → s ≡ passed r next → ReadsNext r (Ok (Some next)) s
passes r s next reading says is = record {
  bytes = ap (λ v. v.bytes) is;
  shorter = subst (λ v. length v.rest < length r.rest) (sym is) (shorter r next reading says);
  standing = ap (λ v. v.standing) is;
  reads = λ parts has. subst (HasRead (part_of next ∷ parts)) (sym is) (goes_past r next parts says has);
}

pub ruleset for_page = (page_misplaced, page_cut, page_comes)

pub ruleset for_zeros = (zeros_misplaced, zeros_cut, zeros_overrun, zeros_come)

pub ruleset for_end = (miscounted, followed, ends)

pub ruleset for_peek = (head_cut, unknown_kind, zeros_kind, zeros_version)
