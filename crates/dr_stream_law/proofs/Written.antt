-- The streams that are written out, by computing.
use Rattle.std.proofs.Common.{◌≡◌, ℕ, List, [], ◌∷◌, ◌++◌, get_or, refl, ap, sym, ◌∙◌, arith}
use Rattle.dr_history.specs.Lookback.{count}
use Rattle.dr_history.specs.Memory.{filled}
use Rattle.dr_history.specs.Parts.{Header, Round, Page, Zeros, End, header, round_record, page_record, zeros_record, end_record, has_pages}
use Rattle.dr_stream_law.specs.Grammar.{Begins}
use Rattle.dr_stream_law.specs.Loading.{IsStream}
use Rattle.dr_stream_law.specs.Samples.{empty_stream, painted_stream, miscounted_stream, zero_stream}
use Rattle.dr_stream_law.proofs.Read.{Stuck, end_stuck, same_reading}

pub empty_loads : IsStream empty_stream (filled 0 ∷ []) 0
unfolding empty_stream header end_record
empty_loads =
    record {
      version = 1;
      pages = 1;
      parts = [];
      begins = record {
        some_version = omega arith;
        known = omega arith;
        some = omega arith;
        few = omega arith;
        in_place = tt;
        bytes_are = refl;
      };
      image_is = refl;
      counted = refl;
    }

pub painted_loads : IsStream painted_stream (filled 7 ∷ []) 1
unfolding painted_stream header round_record page_record end_record filled
painted_loads =
    record {
      version = 1;
      pages = 1;
      parts = Page 0 (filled 7) ∷ Round 1 ∷ [];
      begins = record {
        some_version = omega arith;
        known = omega arith;
        some = omega arith;
        few = omega arith;
        in_place = ((refl, refl), (refl, tt));
        bytes_are = refl;
      };
      image_is = refl;
      counted = refl;
    }

pub zero_loads : IsStream (zero_stream 2) (filled 0 ∷ []) 1
unfolding zero_stream header round_record zeros_record end_record filled
zero_loads =
    record {
      version = 2;
      pages = 1;
      parts = Zeros 0 1 ∷ Round 1 ∷ [];
      begins = record {
        some_version = omega arith;
        known = omega arith;
        some = omega arith;
        few = omega arith;
        in_place = ((refl, refl, refl), (refl, tt));
        bytes_are = refl;
      };
      image_is = refl;
      counted = refl;
    }

-- in version 1 no record has zeros
zeros_stuck : (pages : ℕ) (tail : List ℕ) → Stuck 1 pages (Round 1 ∷ []) (zeros_record 0 1 ++ tail)
unfolding round_record page_record zeros_record
zeros_stuck pages tail (Header v n) more may is = may
zeros_stuck pages tail (Round r) more may is = let k : 4 ≡ 1 = ap (λ xs. get_or xs 0 0) is in absurd (omega (arith, k))
zeros_stuck pages tail (Page page bytes) more may is = let k : 4 ≡ 2 = ap (λ xs. get_or xs 0 0) is in absurd (omega (arith, k))
zeros_stuck pages tail (Zeros first n) more may is = let k : 1 ≡ 2 = may.0 in absurd (omega (arith, k))
zeros_stuck pages tail (End n) more may is = may

old_begins : Begins (zero_stream 1) 1 1 (Round 1 ∷ []) (zeros_record 0 1 ++ end_record 1)
unfolding zero_stream header round_record zeros_record end_record
old_begins = record {
  some_version = omega arith;
  known = omega arith;
  some = omega arith;
  few = omega arith;
  in_place = (refl, tt);
  bytes_are = refl;
}

no_zeros : (n : ℕ) → zeros_record 0 1 ++ end_record 1 ≡ end_record n → ⊥
unfolding zeros_record end_record
no_zeros n h = let k : 4 ≡ 3 = ap (λ xs. get_or xs 0 0) h in absurd (omega (arith, k))

pub old_says_nothing : (image : List (List ℕ)) (n : ℕ) → IsStream (zero_stream 1) image n → ⊥
old_says_nothing image n s =
    let same = same_reading (zero_stream 1) 1 s.version 1 s.pages (Round 1 ∷ []) s.parts (zeros_record 0 1 ++ end_record 1) (end_record (count has_pages s.parts)) old_begins s.begins
    (zeros_stuck 1 (end_record 1)) (end_stuck s.version s.pages (count has_pages s.parts) s.parts) in
    no_zeros (count has_pages s.parts) same.rest

-- an end that says one, with no record before it
miscounted_begins : Begins miscounted_stream 1 1 [] (end_record 1)
unfolding miscounted_stream header end_record
miscounted_begins = record {
  some_version = omega arith;
  known = omega arith;
  some = omega arith;
  few = omega arith;
  in_place = tt;
  bytes_are = refl;
}

no_end : end_record 1 ≡ end_record 0 → ⊥
unfolding end_record
no_end h = let k : 1 ≡ 0 = ap (λ xs. get_or xs 4 0) h in absurd (omega (arith, k))

pub miscounted_says_nothing : (image : List (List ℕ)) (n : ℕ) → IsStream miscounted_stream image n → ⊥
miscounted_says_nothing image n s =
    let same = same_reading miscounted_stream 1 s.version 1 s.pages [] s.parts (end_record 1) (end_record (count has_pages s.parts)) miscounted_begins s.begins
    (end_stuck 1 1 1 []) (end_stuck s.version s.pages (count has_pages s.parts) s.parts) in
    no_end (same.rest ∙ ap (λ parts. end_record (count has_pages parts)) (sym same.parts))
