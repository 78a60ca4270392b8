-- Pages of zeros that are copied one after the other are one record.
use Rattle.std.proofs.Common.{◌≡◌, ℕ, ◌+◌, Bool, true, false, List, [], ◌∷◌, length, replicate, refl, ap, subst, ◌∙◌, arith}
use Rattle.std.specs.Prelude.{◌==◌, ◌&&◌}
use Rattle.std.specs.List.{list_all}
use Rattle.std.proofs.lemmas.Bool.{and_parts, eqb-true, false≢true}
use Rattle.dr_types.specs.declared.guest.Guest.{Guest}
use Rattle.dr_history.specs.declared.event.Event.{Event}
use Rattle.dr_history.specs.declared.event.Event.TheVariants.{Copied}
use Rattle.dr_history.specs.Memory.{filled, page_bytes, is_zero, zero_page}
use Rattle.dr_history.specs.Parts.{Part, Zeros}
use Rattle.dr_history.specs.Stream.{follows_zero, lengthened}
use Rattle.dr_history.proofs.Pages.{whole_page}
use Rattle.dr_stream_law.proofs.Sent.{records_of}

all_zero : (bytes : List ℕ) → list_all (λ byte. byte == 0) bytes ≡ true → bytes ≡ replicate (length bytes) 0
all_zero [] h = refl
all_zero (b ∷ bytes) h =
    let parts = and_parts (b == 0) (list_all (λ byte. byte == 0) bytes) h in
    let head : b ≡ 0 = eqb-true b 0 parts.0 in
    let tail : bytes ≡ replicate (length bytes) 0 = all_zero bytes parts.1 in
    cc

-- a page that is zero is a page of zeros
pub zero_is_filled : (guest : Guest) (page : ℕ) (past : List Event) → zero_page guest page past ≡ true → page_bytes guest page past ≡ filled 0
unfolding is_zero filled
zero_is_filled guest page past h = all_zero (page_bytes guest page past) h ∙ ap (λ n. replicate n 0) (whole_page guest page past)

-- the last record has zeros up to a page
pub record EndsInZeros (parts : List Part) (past_last : ℕ) : Type 0 where
  pub first : ℕ
  pub count : ℕ
  pub rest : List Part
  pub is : parts ≡ Zeros first count ∷ rest
  pub up_to : first + count ≡ past_last

begins : (page : ℕ) (parts : List Part) → EndsInZeros (Zeros page 1 ∷ parts) (page + 1)
begins page parts = record { first = page; count = 1; rest = parts; is = refl; up_to = refl }

copy_ends : (goes : Bool) (guest : Guest) (r page : ℕ) (past : List Event) → follows_zero guest r page past ≡ goes → (goes ≡ true → EndsInZeros (records_of guest past) page) → zero_page guest page past ≡ true → EndsInZeros (records_of guest (Copied r page ∷ past)) (page + 1)
copy_ends true guest r page past is before here =
    let ends = before refl in
    rw (here, is) (record {
      first = ends.first;
      count = ends.count + 1;
      rest = ends.rest;
      is = ap lengthened ends.is;
      up_to = let upto : ends.first + ends.count ≡ page = ends.up_to in omega (arith, upto);
    })
copy_ends false guest r page past is before here = rw (here, is) (begins page (records_of guest past))

-- the records before a copy that goes on zeros end in them
pub ends_in_zeros : (guest : Guest) (r page : ℕ) (past : List Event) → follows_zero guest r page past ≡ true → EndsInZeros (records_of guest past) page
ends_in_zeros guest r page [] h = absurd (false≢true h)
ends_in_zeros guest r page (Copied q last ∷ earlier) h =
    let outer = and_parts (q == r && last + 1 == page) (zero_page guest last earlier) h in
    let inner = and_parts (q == r) (last + 1 == page) outer.0 in
    subst (EndsInZeros (records_of guest (Copied q last ∷ earlier))) (eqb-true (last + 1) page inner.1)
    (copy_ends (follows_zero guest q last earlier) guest q last earlier refl (λ t. ends_in_zeros guest q last earlier t) outer.1)
ends_in_zeros guest r page (e ∷ earlier) h = absurd (false≢true h)

-- and so do those after the copy of a zero page
pub zero_ends : (guest : Guest) (r page : ℕ) (past : List Event) → zero_page guest page past ≡ true → EndsInZeros (records_of guest (Copied r page ∷ past)) (page + 1)
zero_ends guest r page past here = copy_ends (follows_zero guest r page past) guest r page past refl (ends_in_zeros guest r page past) here
