-- Puts of a run that end with a first part of one.
use Rattle.std.proofs.Common.{◌≡◌, ℕ, ◌+◌, ◌-◌, ◌<◌, ◌≤◌, List, [], ◌∷◌, ◌++◌, refl, ap, sym, subst, ◌∙◌, append_assoc, inl, inr, arith, suc, zero, add-zero, add-suc, take}
use Rattle.std.proofs.lemmas.List.{append-nil}
use Rattle.dr_types.specs.declared.guest.Guest.{Guest}
use Rattle.dr_types.specs.declared.port.Port.TheVariants.{Image, Report, Journal}
use Rattle.dr_types.specs.Pages.{page_count}
use Rattle.dr_types.specs.Ports.{Ports, put_at, PutsCut}
use Rattle.dr_history.specs.declared.event.Event.{Event}
use Rattle.dr_history.specs.Journal.{journal_text}
use Rattle.dr_history.specs.Memory.{image_of, page_bytes}
use Rattle.dr_history.specs.Report.{report_of}
use Rattle.dr_command_io.specs.Puts.{PutsPart}
use Rattle.dr_command_io.proofs.Cuts.{part_after}
use Rattle.dr_plain.specs.Puts.{texts_of}
use Rattle.dr_plain.proofs.Images.{first_pages, next_page}

-- the report was put, and a first part of the journal
pub journal_cut : (guest : Guest) (past : List Event) (old told new : Ports) → told ≡ put_at Report (report_of guest past) old
    → PutsPart Journal (journal_text guest past) told new → PutsCut (texts_of guest past) old new
journal_cut guest past old told new report part =
    inr (inl (part.0, part.1 ∙ ap (put_at Journal (take part.0 (journal_text guest past))) report))

-- the first pages are a first part of more of them
pub record Begins (front whole : List ℕ) : Type 0 where
  pub rest : List ℕ
  pub is : whole ≡ front ++ rest

more : (guest : Guest) (past : List Event) (n d : ℕ) → Begins (first_pages guest past n) (first_pages guest past (n + d))
more guest past n zero = record { rest = []; is = ap (first_pages guest past) (add-zero n) ∙ sym (append-nil (first_pages guest past n)) }
more guest past n (suc d) =
    let before = more guest past n d in
    record {
      rest = before.rest ++ page_bytes guest (n + d) past;
      is = ap (first_pages guest past) (add-suc n d) ∙ next_page guest past (n + d) ∙ ap (λ xs. xs ++ page_bytes guest (n + d) past) before.is
          ∙ append_assoc (first_pages guest past n) before.rest (page_bytes guest (n + d) past);
    }

begins : (guest : Guest) (past : List Event) (n m : ℕ) → n ≤ m → Begins (first_pages guest past n) (first_pages guest past m)
begins guest past n m le =
    subst (λ (k : ℕ). Begins (first_pages guest past n) (first_pages guest past k)) (let is : n + (m - n) ≡ m = omega (arith, le) in is) (more guest past n (m - n))

-- the put of a page ended with a first part of it, so the image did
pub image_cut : (guest : Guest) (past : List Event) (page : ℕ) (bytes : List ℕ) (start old new : Ports) → page < page_count guest → bytes ≡ page_bytes guest page past
    → old ≡ put_at Image (first_pages guest past page) start → PutsPart Image bytes old new → PutsPart Image (image_of guest past) start new
image_cut guest past page bytes start old new lt are is part =
    let front : List ℕ = first_pages guest past page in
    let whole = begins guest past (suc page) (page_count guest) (omega (arith, lt)) in
    let image : image_of guest past ≡ (front ++ bytes) ++ whole.rest =
    whole.is ∙ ap (λ xs. xs ++ whole.rest) (next_page guest past page ∙ ap (λ xs. front ++ xs) (sym are)) in
    part_after Image front bytes whole.rest (image_of guest past) start old new image is part
