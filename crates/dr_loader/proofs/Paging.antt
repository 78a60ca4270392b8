-- The image, page by page.
use Rattle.std.proofs.Common.{◌≡◌, ℕ, ◌+◌, ◌-◌, ◌≤◌, List, [], ◌++◌, length, take, drop, min, ap, sym, ◌∙◌, arith, append_assoc}
use Rattle.std.specs.List.{slice_range}
use Rattle.std.proofs.Math.Seq.{take-append-add}
use Rattle.std.proofs.lemmas.List.{take-append-drop, take_all, length-take}
use Rattle.std.proofs.lemmas.List.Folds.{drop_split}
use Rattle.dr_types.specs.declared.port.Port.TheVariants.{Image}
use Rattle.dr_types.specs.Ports.{Ports, put_at}
use Rattle.dr_types.proofs.Ports.{put_twice, put_none}
use Rattle.dr_command_io.specs.Puts.{PutsPart}
use Rattle.dr_command_io.proofs.Cuts.{part_after}

-- no page yet
pub no_page : (start : Ports) → start ≡ put_at Image [] start
no_page start = sym (put_none Image start)

-- the bytes before a page, and the page
take_more : (bytes : List ℕ) (at end : ℕ) → at ≤ length bytes → at ≤ end → take end bytes ≡ take at bytes ++ slice_range bytes at end
take_more bytes at end within more =
    let are : length (take at bytes) ≡ min at (length bytes) = length-take at bytes in
    let upto : length (take at bytes) + (end - at) ≡ end = omega (arith, are, within, more) in
    ap (λ xs. take end xs) (sym (take-append-drop at bytes))
    ∙ ap (λ n. take n (take at bytes ++ drop at bytes)) (sym upto)
    ∙ take-append-add (take at bytes) (drop at bytes) (end - at)

-- a page more
pub page_more : (bytes : List ℕ) (at end : ℕ) (start old new : Ports) → at ≤ length bytes → at ≤ end → old ≡ put_at Image (take at bytes) start
    → new ≡ put_at Image (slice_range bytes at end) old → new ≡ put_at Image (take end bytes) start
page_more bytes at end start old new within more is put =
    put ∙ ap (put_at Image (slice_range bytes at end)) is ∙ put_twice Image (take at bytes) (slice_range bytes at end) start
    ∙ ap (λ xs. put_at Image xs start) (sym (take_more bytes at end within more))

-- all pages
pub all_pages : (bytes : List ℕ) (at : ℕ) (start new : Ports) → length bytes ≤ at → new ≡ put_at Image (take at bytes) start → new ≡ put_at Image bytes start
all_pages bytes at start new all is = is ∙ ap (λ xs. put_at Image xs start) (take_all at bytes all)

-- the put of a page ended with a first part of it, so the image did
pub page_cut : (bytes : List ℕ) (at end : ℕ) (start old new : Ports) → at ≤ end → old ≡ put_at Image (take at bytes) start
    → PutsPart Image (slice_range bytes at end) old new → PutsPart Image bytes start new
page_cut bytes at end start old new more is part =
    part_after Image (take at bytes) (slice_range bytes at end) (drop end bytes) bytes start old new
    (sym (take-append-drop at bytes) ∙ ap (λ xs. take at bytes ++ xs) (drop_split bytes at end more)
    ∙ sym (append_assoc (take at bytes) (slice_range bytes at end) (drop end bytes))) is part
