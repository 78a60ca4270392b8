-- The image, page by page.
use Rattle.std.proofs.Common.{◌≡◌, ℕ, suc, ◌+◌, List, [], ◌∷◌, ◌++◌, map, refl, ap, sym, ◌∙◌, append_assoc, add-one}
use Rattle.std.specs.List.{concat}
use Rattle.std.proofs.lemmas.List.{append-nil, map-append}
use Rattle.dr_types.specs.declared.guest.Guest.{Guest}
use Rattle.dr_types.specs.declared.port.Port.TheVariants.{Image}
use Rattle.dr_types.specs.Ports.{Ports, put_at}
use Rattle.dr_types.proofs.Ports.{put_twice, put_none}
use Rattle.dr_history.specs.declared.event.Event.{Event}
use Rattle.dr_history.specs.Lookback.{below}
use Rattle.dr_history.specs.Memory.{page_bytes}

-- the bytes of the first pages, so many of them
abbrev pub first_pages : Guest → List Event → ℕ → List ℕ
first_pages guest past n = concat (map (λ page. page_bytes guest page past) (below n))

concat_append : (xs ys : List (List ℕ)) → concat (xs ++ ys) ≡ concat xs ++ concat ys
concat_append [] ys = refl
concat_append (x ∷ xs) ys = ap (λ zs. x ++ zs) (concat_append xs ys) ∙ sym (append_assoc x (concat xs) (concat ys))

pub next_page : (guest : Guest) (past : List Event) (n : ℕ) → first_pages guest past (suc n) ≡ first_pages guest past n ++ page_bytes guest n past
next_page guest past n =
    ap concat (map-append (λ page. page_bytes guest page past) (below n) (n ∷ []))
    ∙ concat_append (map (λ page. page_bytes guest page past) (below n)) (page_bytes guest n past ∷ [])
    ∙ ap (λ xs. first_pages guest past n ++ xs) (append-nil (page_bytes guest n past))

-- one page more
pub page_more : (guest : Guest) (past : List Event) (n : ℕ) (start old new : Ports) → old ≡ put_at Image (first_pages guest past n) start
    → new ≡ put_at Image (page_bytes guest n past) old → new ≡ put_at Image (first_pages guest past (n + 1)) start
page_more guest past n start old new is put =
    put ∙ ap (put_at Image (page_bytes guest n past)) is
    ∙ put_twice Image (first_pages guest past n) (page_bytes guest n past) start
    ∙ ap (λ xs. put_at Image xs start) (sym (next_page guest past n) ∙ ap (first_pages guest past) (sym (add-one n)))

-- no page yet
pub no_page : (start : Ports) → start ≡ put_at Image [] start
no_page start = sym (put_none Image start)
