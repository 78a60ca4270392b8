-- A history's text is read as that history.
use Rattle.std.proofs.Common.{◌≡◌, ℕ, ◌<◌, List, [], ◌∷◌, ◌++◌, length, Option, Some, Result, Ok, refl, ap, sym, ◌∙◌, arith, append_assoc}
use Rattle.std.specs.Prelude.{All, codes}
use Rattle.std.specs.List.{slice_split, join_with_byte}
use Rattle.std.proofs.lemmas.List.Elements.{All-head, All-tail}
use Rattle.std.proofs.lemmas.List.{append-nil, append_cancel_left, append_cancel_right}
use Rattle.std.proofs.lemmas.List.Splits.{length-slice_split}
use Rattle.dr_types.specs.Lines.{line_text}
use Rattle.dr_types.specs.GuestText.{guest_text}
use Rattle.dr_history.specs.declared.event.Event.{Event}
use Rattle.dr_history.specs.Lines.{FitsLine, event_words, event_line, text}
use Rattle.dr_text_law.specs.Events.{event_of}
use Rattle.dr_text_law.specs.Texts.{next_line, go_on, is_line_feed, words_of, events_from, history_of, WrittenIsRead, OneText, OneJournal}
use Rattle.dr_text_law.proofs.Lexing.{AreWords, split_front, free_line, words_of-joined}
use Rattle.dr_text_law.proofs.Again.{event_again, event_plain}

-- a line that others follow is read, and then these
event_step : (earlier : List Event) (last : List ℕ) (parts : List (List ℕ)) → 0 < length parts
    → events_from earlier (last ∷ parts) ≡ go_on (event_of (words_of last)) (next_line earlier) (λ e. events_from (e ∷ earlier) parts)
event_step earlier last [] some = absurd (omega arith)
event_step earlier last (next ∷ parts) some = refl

-- the first line of a text that begins with a line of words
line_front : (words : List (List ℕ)) (rest : List ℕ) → AreWords words → slice_split is_line_feed (line_text words ++ rest) ≡ join_with_byte 32 words ∷ slice_split is_line_feed rest
unfolding line_text
line_front words rest are = ap (slice_split is_line_feed) (append_assoc (join_with_byte 32 words) (10 ∷ []) rest) ∙ split_front is_line_feed (join_with_byte 32 words) 10 rest (free_line words are) refl

-- words that say an event say it from their line
words_again : (words : List (List ℕ)) (e : Event) → AreWords words → event_of words ≡ Some e → event_of (words_of (join_with_byte 32 words)) ≡ Some e
words_again [] e are is = absurd cc
words_again (word ∷ words) e are is = ap event_of (words_of-joined word words are) ∙ is

-- an event's line adds it to the events so far
line_again : (earlier : List Event) (e : Event) (rest : List ℕ) → FitsLine e
    → events_from earlier (slice_split is_line_feed (event_line e ++ rest)) ≡ events_from (e ∷ earlier) (slice_split is_line_feed rest)
unfolding event_line
line_again earlier e rest fits =
    let parts = slice_split is_line_feed rest in
    let plain = event_plain e fits in
    ap (events_from earlier) (line_front (event_words e) rest plain)
    ∙ event_step earlier (join_with_byte 32 (event_words e)) parts (omega (arith, length-slice_split is_line_feed rest))
    ∙ ap (λ (read : Option Event). go_on read (next_line earlier) (λ e. events_from (e ∷ earlier) parts)) (words_again (event_words e) e plain (event_again e fits))

-- a history's text adds its events to none
text_again : (xs : List Event) (rest : List ℕ) → All FitsLine xs
    → events_from [] (slice_split is_line_feed (text xs ++ rest)) ≡ events_from xs (slice_split is_line_feed rest)
text_again [] rest fit = refl
text_again (e ∷ earlier) rest fit =
    ap (λ (bytes : List ℕ). events_from [] (slice_split is_line_feed bytes)) (append_assoc (text earlier) (event_line e) rest)
    ∙ text_again earlier (event_line e ++ rest) (All-tail FitsLine e earlier fit)
    ∙ line_again earlier e rest (All-head FitsLine e earlier fit)

-- a history's text says that history
pub written_is_read : WrittenIsRead
unfolding history_of
written_is_read xs fit = ap (λ (bytes : List ℕ). events_from [] (slice_split is_line_feed bytes)) (sym (append-nil (text xs))) ∙ text_again xs [] fit

-- a text was read as this history
abbrev read_as : List Event → Result (List Event) ℕ
read_as xs = Ok xs

-- it was read as one history
pub ok_is : (xs ys : List Event) → read_as xs ≡ read_as ys → xs ≡ ys
ok_is xs ys e = cc

-- two histories never have the same text
pub one_text : OneText
one_text xs ys fits fit same = ok_is xs ys (sym (written_is_read xs fits) ∙ ap history_of same ∙ written_is_read ys fit)

-- nor the same journal of one guest
pub one_journal : OneJournal
one_journal guest xs ys fits fit same =
    let front = guest_text guest ++ line_text (codes "journal" ∷ []) in
    let end = line_text (codes "end" ∷ []) in
    one_text xs ys fits fit (append_cancel_left front (text xs) (text ys) (append_cancel_right (front ++ text xs) (front ++ text ys) end same))
