-- A text that is read is its history's text.
use Rattle.std.proofs.Common.{◌≡◌, ℕ, List, [], ◌∷◌, ◌++◌, Option, Some, None, Result, Ok, refl, ap, sym, subst, ◌∙◌, append_assoc}
use Rattle.std.specs.Prelude.{All}
use Rattle.std.specs.List.{slice_split, join_with_byte}
use Rattle.std.proofs.lemmas.List.Elements.{All-nil, All-cons}
use Rattle.std.proofs.lemmas.List.{append-nil}
use Rattle.std.proofs.lemmas.List.Splits.{join_with_byte-slice_split}
use Rattle.dr_types.specs.Lines.{line_text}
use Rattle.dr_history.specs.declared.event.Event.{Event}
use Rattle.dr_history.specs.Lines.{FitsLine, event_words, event_line, text}
use Rattle.dr_text_law.specs.Events.{event_of}
use Rattle.dr_text_law.specs.Texts.{go_on, is_line_feed, words_of, events_from, history_of, ReadIsWritten}
use Rattle.dr_text_law.proofs.Texts.{ok_is}
use Rattle.dr_text_law.proofs.ReadEvents.{event_says}

-- a line that was taken is an event's
record Taken (found : Option Event) (number : ℕ) (f : Event → Result (List Event) ℕ) (xs : List Event) : Type 0 where
  value : Event
  is : found ≡ Some value
  next : f value ≡ Ok xs

-- reading on after a line means that it was taken
taken : (found : Option Event) (number : ℕ) (f : Event → Result (List Event) ℕ) (xs : List Event) → go_on found number f ≡ Ok xs → Taken found number f xs
taken None number f xs is = absurd cc
taken (Some e) number f xs is = record { value = e; is = refl; next = is }

-- the line of an event that the words of these bytes say
line_says : (bytes : List ℕ) (e : Event) → event_words e ≡ words_of bytes → event_line e ≡ bytes ++ 10 ∷ []
unfolding event_line line_text
line_says bytes e are = ap (λ (line : List ℕ). line ++ 10 ∷ []) (ap (join_with_byte 32) are ∙ join_with_byte-slice_split 32 bytes)

-- the text of the events so far and the bytes of the lines after them is that of all events
lines_say : (earlier : List Event) (lines : List (List ℕ)) (xs : List Event) → All FitsLine earlier → events_from earlier lines ≡ Ok xs
    → (text xs ≡ text earlier ++ join_with_byte 10 lines) × All FitsLine xs
lines_say earlier [] xs fit is = absurd cc
lines_say earlier ([] ∷ []) xs fit is =
    subst (λ (ys : List Event). (text ys ≡ text earlier ++ []) × All FitsLine ys) (ok_is earlier xs is) (sym (append-nil (text earlier)), fit)
lines_say earlier ((byte ∷ bytes) ∷ []) xs fit is = absurd cc
lines_say earlier (first ∷ next ∷ lines) xs fit is =
    let step = taken (event_of (words_of first)) _ _ xs is in
    let e = step.value in
    let says = event_says (words_of first) e step.is in
    let rest = lines_say (e ∷ earlier) (next ∷ lines) xs (All-cons FitsLine e earlier says.fits fit) step.next in
    let more = join_with_byte 10 (next ∷ lines) in (
      rest.0 ∙ append_assoc (text earlier) (event_line e) more ∙ ap (λ (line : List ℕ). text earlier ++ (line ++ more)) (line_says first e says.words_are)
          ∙ ap (λ (bytes : List ℕ). text earlier ++ bytes) (append_assoc first (10 ∷ []) more),
      rest.1,
    )

-- a text that is read is its history's text
pub read_is_written : ReadIsWritten
unfolding history_of
read_is_written bytes xs is =
    let said = lines_say [] (slice_split is_line_feed bytes) xs (All-nil FitsLine) is in
    (said.0 ∙ join_with_byte-slice_split 10 bytes, said.1)
