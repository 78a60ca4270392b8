-- How many records of pages there can be, and from which page on the next may be named.
use Rattle.std.proofs.Common.{◌≡◌, ℕ, zero, suc, ◌+◌, ◌*◌, ◌<◌, ◌≤◌, Bool, true, false, List, [], ◌∷◌, refl, arith, ◌∙◌}
use Rattle.std.specs.Prelude.{◌&&◌, nat_le, nat_lt}
use Rattle.std.proofs.lemmas.Bool.{leb-true, ltb-true, and_parts, lt-ltb, le-leb, false≢true}
use Rattle.std.proofs.lemmas.Bool.Decides.{nat_tests}
use Rattle.dr_history.specs.Lookback.{count}
use Rattle.dr_history.specs.Parts.{Part, Header, Round, Page, Zeros, End, has_pages}
use Rattle.dr_stream_law.specs.Grammar.{last_round, least_page, round_rises, page_rises, page_fits, AreParts}

-- a page that may be named comes in a round, from the least one on
pub record IsAbove (page pages : ℕ) (parts : List Part) : Type 0 where
  pub begun : 1 ≤ last_round parts
  pub above : least_page parts ≤ page
  pub within : page < pages

rises_rises : (r : ℕ) (parts : List Part) → round_rises r parts ≡ true → 1 ≤ r
rises_rises r parts h =
    let lt : last_round parts < r = ltb-true (last_round parts) r (and_parts (nat_lt (last_round parts) r) (nat_le r 65) h).0 in omega (arith, lt)

-- the number of a round that rises is at most 65
rises_few : (r : ℕ) (parts : List Part) → round_rises r parts ≡ true → r ≤ 65
rises_few r parts h = leb-true r 65 (and_parts (nat_lt (last_round parts) r) (nat_le r 65) h).1

named_begun : (version pages : ℕ) (page : ℕ) (parts : List Part) → AreParts version pages parts → page_rises page parts ≡ true → 1 ≤ last_round parts
named_begun version pages page [] are h = absurd (false≢true h)
named_begun version pages page (Header v n ∷ parts) are h = absurd are.0
named_begun version pages page (Round r ∷ parts) are h = rises_rises r parts are.0
named_begun version pages page (Page last bytes ∷ parts) are h =
    named_begun version pages last parts are.1 (and_parts (nat_lt last pages) (page_rises last parts) are.0.0).1
named_begun version pages page (Zeros first n ∷ parts) are h =
    named_begun version pages first parts are.1 (and_parts (nat_lt first pages) (page_rises first parts) are.0.1).1
named_begun version pages page (End n ∷ parts) are h = absurd are.0

named_above : (page : ℕ) (parts : List Part) → page_rises page parts ≡ true → least_page parts ≤ page
named_above page [] h = absurd (false≢true h)
named_above page (Header v n ∷ parts) h = absurd (false≢true h)
named_above page (Round r ∷ parts) h = omega arith
named_above page (Page last bytes ∷ parts) h = let lt : last < page = ltb-true last page h in omega (arith, lt)
named_above page (Zeros first n ∷ parts) h = leb-true (first + n) page h
named_above page (End n ∷ parts) h = absurd (false≢true h)

pub fits_above : (version pages page : ℕ) (parts : List Part) → AreParts version pages parts → page_fits pages page parts ≡ true → IsAbove page pages parts
fits_above version pages page parts are h =
    let both = and_parts (nat_lt page pages) (page_rises page parts) h in
    record {
      begun = named_begun version pages page parts are both.1;
      above = named_above page parts both.1;
      within = ltb-true page pages both.0;
    }

test_at : (a : Bool) (b : Bool) → a ≡ true → (a && b) ≡ b
test_at true b h = refl
test_at false b h = absurd (false≢true h)

-- the test of a page by the number of the last round and the least page
pub named_is : (version pages page : ℕ) (parts : List Part) → AreParts version pages parts → (nat_lt 0 (last_round parts) && nat_le (least_page parts) page) ≡ page_rises page parts
named_is version pages page [] are = refl
named_is version pages page (Header v n ∷ parts) are = absurd are.0
named_is version pages page (Round r ∷ parts) are =
    test_at (nat_lt 0 r) (nat_le 0 page) (lt-ltb 0 r (rises_rises r parts are.0)) ∙ le-leb 0 page (omega arith)
named_is version pages page (Page last bytes ∷ parts) are =
    let begun : 1 ≤ last_round parts = named_begun version pages last parts are.1 (and_parts (nat_lt last pages) (page_rises last parts) are.0.0).1 in
    test_at (nat_lt 0 (last_round parts)) (nat_le (last + 1) page) (lt-ltb 0 (last_round parts) (omega (arith, begun))) ∙ same last page
  where
    same : (a b : ℕ) → nat_le (a + 1) b ≡ nat_lt a b
    same a b = grind (arith, nat_tests)
named_is version pages page (Zeros first n ∷ parts) are =
    let begun : 1 ≤ last_round parts = named_begun version pages first parts are.1 (and_parts (nat_lt first pages) (page_rises first parts) are.0.1).1 in
    test_at (nat_lt 0 (last_round parts)) (nat_le (first + n) page) (lt-ltb 0 (last_round parts) (omega (arith, begun)))
named_is version pages page (End n ∷ parts) are = absurd are.0

-- each record of pages has a page of its own in its round
pub record AreFew (pages : ℕ) (parts : List Part) : Type 0 where
  pub none : last_round parts ≡ 0 → count has_pages parts ≡ 0
  pub some : 1 ≤ last_round parts → count has_pages parts + 16384 ≤ 16384 * last_round parts + least_page parts
  pub least : least_page parts ≤ pages
  pub rounds : last_round parts ≤ 65

round_more : (r last n least : ℕ) → (last ≡ 0 → n ≡ 0) → (1 ≤ last → n + 16384 ≤ 16384 * last + least) → least ≤ 16384 → last < r → n + 16384 ≤ 16384 * r + 0
round_more r zero n least none some few lt = let z : n ≡ 0 = none refl in omega (arith, z, lt)
round_more r (suc last) n least none some few lt = omega (arith, some (omega arith), few, lt)

page_more : (n last least page next : ℕ) → n + 16384 ≤ 16384 * last + least → least ≤ page → page < next → n + 1 + 16384 ≤ 16384 * last + next
page_more n last least page next h above lt = omega (arith, h, above, lt)

pub are_few : (version pages : ℕ) (parts : List Part) → pages ≤ 16384 → AreParts version pages parts → AreFew pages parts
are_few version pages [] few are = record { none = λ _. refl; some = λ h. absurd (omega (arith, h)); least = omega arith; rounds = omega arith }
are_few version pages (Header v n ∷ parts) few are = absurd are.0
are_few version pages (End n ∷ parts) few are = absurd are.0
are_few version pages (Round r ∷ parts) few are =
    let old = are_few version pages parts few are.1 in
    let lt : last_round parts < r = ltb-true (last_round parts) r (and_parts (nat_lt (last_round parts) r) (nat_le r 65) are.0).0 in
    let low : least_page parts ≤ 16384 = omega (arith, old.least, few) in
    record {
      none = λ h. absurd (omega (arith, h, lt));
      some = λ h. round_more r (last_round parts) (count has_pages parts) (least_page parts) old.none old.some low lt;
      least = omega arith;
      rounds = rises_few r parts are.0;
    }
are_few version pages (Page page bytes ∷ parts) few are =
    let old = are_few version pages parts few are.1 in
    let at = fits_above version pages page parts are.1 are.0.0 in
    let within : page < pages = at.within in
    record {
      none = λ h. absurd (omega (arith, h, at.begun));
      some = λ h. page_more (count has_pages parts) (last_round parts) (least_page parts) page (page + 1) (old.some at.begun) at.above (omega arith);
      least = omega (arith, within);
      rounds = old.rounds;
    }
are_few version pages (Zeros first n ∷ parts) few are =
    let old = are_few version pages parts few are.1 in
    let at = fits_above version pages first parts are.1 are.0.1 in
    let zeros = and_parts (nat_le 1 n) (nat_le (first + n) pages) are.0.2 in
    let some : 1 ≤ n = leb-true 1 n zeros.0 in
    record {
      none = λ h. absurd (omega (arith, h, at.begun));
      some = λ h. page_more (count has_pages parts) (last_round parts) (least_page parts) first (first + n) (old.some at.begun) at.above (omega (arith, some));
      least = leb-true (first + n) pages zeros.1;
      rounds = old.rounds;
    }

few_of : (pages last n least : ℕ) → (last ≡ 0 → n ≡ 0) → (1 ≤ last → n + 16384 ≤ 16384 * last + least) → least ≤ pages → pages ≤ 16384 → last ≤ 65 → n ≤ 1064960
few_of pages zero n least none some a b c = let z : n ≡ 0 = none refl in omega (arith, z)
few_of pages (suc last) n least none some a b c = omega (arith, some (omega arith), a, b, c)

-- there are at most 16,384 records of pages in each of 65 rounds
pub few_records : (version pages : ℕ) (parts : List Part) → pages ≤ 16384 → AreParts version pages parts → count has_pages parts ≤ 1064960
few_records version pages parts few are =
    let all = are_few version pages parts few are in
    few_of pages (last_round parts) (count has_pages parts) (least_page parts) all.none all.some all.least few all.rounds
