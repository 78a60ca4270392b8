-- The records of a history load as what was copied.
use Rattle.std.proofs.Common.{◌≡◌, ℕ, ◌+◌, Bool, true, false, cond, List, [], ◌∷◌, refl, ap, sym, ◌∙◌, arith, inl, inr}
use Rattle.std.specs.Prelude.{◌==◌, ◌&&◌, nat_le, nat_lt}
use Rattle.std.proofs.lemmas.Bool.{le-leb, lt-ltb}
use Rattle.std.proofs.lemmas.Bool.Decides.{eqb_tells, nat_tests}
use Rattle.dr_types.specs.declared.guest.Guest.{Guest}
use Rattle.dr_history.specs.declared.event.Event.{Event}
use Rattle.dr_history.specs.declared.event.Event.TheVariants.{Synced, Copied}
use Rattle.dr_history.specs.Rounds.{opens_round}
use Rattle.dr_history.specs.Memory.{filled, page_bytes, zero_page, copied_bytes}
use Rattle.dr_history.specs.Parts.{Part, Round, Zeros}
use Rattle.dr_history.specs.Stream.{follows_zero, lengthened}
use Rattle.dr_stream_law.specs.Loading.{loaded_page}
use Rattle.dr_stream_law.proofs.Sent.{records_of}
use Rattle.dr_stream_law.proofs.Zeros.{EndsInZeros, ends_in_zeros, zero_is_filled}

round_case : (opens : Bool) (page r : ℕ) (parts : List Part) → loaded_page page (cond opens (Round r ∷ parts) parts) ≡ loaded_page page parts
round_case true page r parts = refl
round_case false page r parts = refl

same_test : (first count q page : ℕ) → first + count ≡ q → (q ≡ page → ⊥) → (nat_le first page && nat_lt page (first + (count + 1))) ≡ (nat_le first page && nat_lt page (first + count))
same_test first count q page is other = grind (arith, nat_tests)

-- a zero page goes on a record of zeros
lengthens : (page q : ℕ) (parts : List Part) (bytes old : List ℕ) → EndsInZeros parts q → bytes ≡ filled 0 → loaded_page page parts ≡ old → loaded_page page (lengthened parts) ≡ cond (q == page) bytes old
lengthens page q parts bytes old ends zeros is =
    ap (loaded_page page) (ap lengthened ends.is)
    ∙ elim (eqb_tells q page) [
      | inl s ↦
          let upto : ends.first + ends.count ≡ q = ends.up_to in
          let low : nat_le ends.first page ≡ true = le-leb ends.first page (omega (arith, upto, s.1)) in
          let high : nat_lt page (ends.first + (ends.count + 1)) ≡ true = lt-ltb page (ends.first + (ends.count + 1)) (omega (arith, upto, s.1)) in
          rw (low, high) (sym zeros ∙ sym (ap (λ b. cond b bytes old) s.0))
      | inr d ↦
          ap (λ b. cond b (filled 0) (loaded_page page ends.rest)) (same_test ends.first ends.count q page ends.up_to d.1)
          ∙ ap (loaded_page page) (sym ends.is) ∙ is ∙ sym (ap (λ b. cond b bytes old) d.0)
    ]

one_zero : (page q : ℕ) (bytes old : List ℕ) (parts : List Part) → bytes ≡ filled 0 → loaded_page page parts ≡ old → loaded_page page (Zeros q 1 ∷ parts) ≡ cond (q == page) bytes old
one_zero page q bytes old parts zeros is =
    ap (λ b. cond b (filled 0) (loaded_page page parts)) (tests q page) ∙ ap (λ xs. cond (q == page) xs (loaded_page page parts)) (sym zeros) ∙ ap (λ xs. cond (q == page) bytes xs) is
  where
    tests : (a b : ℕ) → (nat_le a b && nat_lt b (a + 1)) ≡ (a == b)
    tests a b = grind (arith, nat_tests)

same_page : (guest : Guest) (q page : ℕ) (past : List Event) (old : List ℕ) → cond (q == page) (page_bytes guest q past) old ≡ cond (q == page) (page_bytes guest page past) old
same_page guest q page past old =
    elim (eqb_tells q page) [
      | inl s ↦ ap (λ p. cond (q == page) (page_bytes guest p past) old) s.1
      | inr d ↦ rw d.0 refl
    ]

copied_case : (zero goes : Bool) (guest : Guest) (page r q : ℕ) (past : List Event) → zero_page guest q past ≡ zero → follows_zero guest r q past ≡ goes → loaded_page page (records_of guest past) ≡ copied_bytes guest page past
    → loaded_page page (records_of guest (Copied r q ∷ past)) ≡ cond (q == page) (page_bytes guest q past) (copied_bytes guest page past)
copied_case false goes guest page r q past none is h = rw none (ap (λ xs. cond (q == page) (page_bytes guest q past) xs) h)
copied_case true true guest page r q past here is h =
    rw (here, is) (lengthens page q (records_of guest past) (page_bytes guest q past) (copied_bytes guest page past) (ends_in_zeros guest r q past is) (zero_is_filled guest q past here) h)
copied_case true false guest page r q past here is h =
    rw (here, is) (one_zero page q (page_bytes guest q past) (copied_bytes guest page past) (records_of guest past) (zero_is_filled guest q past here) h)

-- a page is loaded as it was copied last
pub loaded_copied : (guest : Guest) (page : ℕ) (past : List Event) → loaded_page page (records_of guest past) ≡ copied_bytes guest page past
loaded_copied guest page [] = refl
loaded_copied guest page (Synced r at pages ∷ past) =
    round_case (opens_round guest (Synced r at pages) past) page r (records_of guest past) ∙ loaded_copied guest page past
loaded_copied guest page (Copied r q ∷ past) =
    copied_case (zero_page guest q past) (follows_zero guest r q past) guest page r q past refl refl (loaded_copied guest page past)
    ∙ same_page guest q page past (copied_bytes guest page past)
loaded_copied guest page (e ∷ past) = loaded_copied guest page past
