-- A page has 4,096 bytes.
use Rattle.std.proofs.Common.{◌≡◌, ℕ, ◌+◌, Bool, true, false, List, [], ◌∷◌, length, refl, ◌∙◌}
use Rattle.std.specs.Prelude.{cond}
use Rattle.std.proofs.Math.ListN.{set, length-set, length-replicate}
use Rattle.dr_types.specs.declared.guest.Guest.{Guest}
use Rattle.dr_types.specs.Lines.{low_bytes}
use Rattle.dr_types.specs.Pages.{page_of_address}
use Rattle.dr_history.specs.declared.event.Event.{Event}
use Rattle.dr_history.specs.declared.event.Event.TheVariants.{Write, Paint}
use Rattle.dr_history.specs.Lookback.{is_number}
use Rattle.dr_history.specs.Memory.{page_bytes, filled, overwritten}

pub length_overwritten : (page : List ℕ) (at : ℕ) (bytes : List ℕ) → length (overwritten page at bytes) ≡ length page
length_overwritten page at [] = refl
length_overwritten page at (b ∷ bytes) = length_overwritten (set page at b) (at + 1) bytes ∙ length-set page at b

length_filled : (byte : ℕ) → length (filled byte) ≡ 4096
unfolding filled
length_filled byte = length-replicate 4096 byte

length_either : (b : Bool) (xs ys : List ℕ) → length xs ≡ 4096 → length ys ≡ 4096 → length (cond b xs ys) ≡ 4096
length_either true xs ys p q = p
length_either false xs ys p q = q

-- a page has 4,096 bytes
pub whole_page : (guest : Guest) (page : ℕ) (past : List Event) → length (page_bytes guest page past) ≡ 4096
whole_page guest page [] = length_filled 0
whole_page guest page (Write v i space address len value ∷ past) =
    let rest = whole_page guest page past in
    length_either (is_number page (page_of_address guest space address)) (overwritten (page_bytes guest page past) _ (low_bytes len value)) (page_bytes guest page past)
    (length_overwritten (page_bytes guest page past) _ (low_bytes len value) ∙ rest) rest
whole_page guest page (Paint v i q byte ∷ past) =
    length_either _ (filled byte) (page_bytes guest page past) (length_filled byte) (whole_page guest page past)
whole_page guest page (e ∷ past) = whole_page guest page past
