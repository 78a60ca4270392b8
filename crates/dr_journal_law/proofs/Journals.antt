-- A journal says its guest and its history.
use Rattle.std.proofs.Common.{◌≡◌, ℕ, List, [], ◌∷◌, ◌++◌, refl, ap, sym, ◌∙◌, append_assoc}
use Rattle.std.specs.Prelude.{codes, Result, Ok}
use Rattle.std.specs.List.{slice_split, join_with_byte, flat_map}
use Rattle.std.proofs.lemmas.List.Concat.{flat_map-cons}
use Rattle.dr_types.specs.declared.guest.Guest.{Guest}
use Rattle.dr_types.specs.declared.fault.FileFault.{FileFault}
use Rattle.dr_types.specs.Validity.{IsValid}
use Rattle.dr_types.specs.Lines.{line_text, lines_text}
use Rattle.dr_types.specs.GuestText.{guest_lines, guest_text}
use Rattle.dr_history.specs.declared.event.Event.{Event}
use Rattle.dr_history.specs.Lines.{text}
use Rattle.dr_history.specs.Journal.{journal_text}
use Rattle.dr_guestfile_lines.specs.Lines.{is_line_feed}
use Rattle.dr_guestfile.specs.GuestTexts.{guest_of}
use Rattle.dr_guestfile_law.proofs.GuestAgain.{guest_again}
use Rattle.dr_guestfile_law.proofs.PlainLines.{guest_plain}
use Rattle.dr_guestfile_law.proofs.Lexing.{split_front}
use Rattle.dr_text_law.proofs.Texts as texts
use Rattle.dr_journal_law.specs.Journals.{OneJournal}
use Rattle.dr_journal_law.proofs.Cutting.{same_front, split_lines, written}
use Rattle.dr_journal_law.proofs.Names.{guest_others}

-- what comes after the line `journal`
abbrev after : List Event → List ℕ
after past = text past ++ line_text (codes "end" ∷ [])

-- the lines of a journal
journal_lines : (guest : Guest) (past : List Event) → IsValid guest
    → slice_split is_line_feed (journal_text guest past) ≡ written (guest_lines guest) ++ codes "journal" ∷ slice_split is_line_feed (after past)
unfolding line_text
journal_lines guest past valid =
    let front = guest_text guest in
    let line = line_text (codes "journal" ∷ []) in
    let rest = line ++ after past in
    ap (slice_split is_line_feed) (append_assoc (front ++ line) (text past) (line_text (codes "end" ∷ [])) ∙ append_assoc front line (after past))
    ∙ split_lines (guest_lines guest) rest (guest_plain guest valid).words
    ∙ ap (λ (its : List (List ℕ)). written (guest_lines guest) ++ its) (split_front is_line_feed (codes "journal") 10 (after past) (refl, (refl, (refl, (refl, (refl, (refl, (refl, tt))))))) refl)

-- a text from its lines as they are written
text_from : (lines : List (List (List ℕ))) → lines_text lines ≡ flat_map (λ (line : List ℕ). line ++ 10 ∷ []) (written lines)
unfolding line_text
text_from [] = refl
text_from (words ∷ lines) =
    flat_map-cons line_text words lines ∙ ap (λ (more : List ℕ). line_text words ++ more) (text_from lines)
    ∙ sym (flat_map-cons (λ (line : List ℕ). line ++ 10 ∷ []) (join_with_byte 32 words) (written lines))

abbrev read_as : Guest → Result Guest FileFault
read_as guest = Ok guest

ok_is : (guest other : Guest) → read_as guest ≡ read_as other → guest ≡ other
ok_is guest other e = cc

-- journals that are the same have the same guest
same_guest : (guest other : Guest) (xs ys : List Event) → IsValid guest → IsValid other → journal_text guest xs ≡ journal_text other ys → guest ≡ other
same_guest guest other xs ys valid fine same =
    let lines = sym (journal_lines guest xs valid) ∙ ap (slice_split is_line_feed) same ∙ journal_lines other ys fine in
    let front = same_front (codes "journal") (written (guest_lines guest)) (written (guest_lines other)) (slice_split is_line_feed (after xs)) (slice_split is_line_feed (after ys))
    (guest_others guest) (guest_others other) lines in
    let written_same = text_from (guest_lines guest) ∙ ap (flat_map (λ (line : List ℕ). line ++ 10 ∷ [])) front ∙ sym (text_from (guest_lines other)) in
    ok_is guest other (sym (guest_again guest valid) ∙ ap guest_of written_same ∙ guest_again other fine)

pub one_journal : OneJournal
one_journal guest other xs ys valid fine fits fit same =
    let is = same_guest guest other xs ys valid fine same in
    (is, texts.one_journal guest xs ys fits fit (same ∙ ap (λ (it : Guest). journal_text it ys) (sym is)))
