-- The lines of the answers: those of each that another followed, and those of the last.
use Rattle.std.proofs.Common.{◌≡◌, ℕ, ◌+◌, ◌<◌, ◌≤◌, true, false, List, [], ◌∷◌, ◌++◌, map, length, refl, ap, sym, ◌∙◌, arith, append_assoc}
use Rattle.std.specs.Prelude.{Option, Some, None, nat_le, slice_get}
use Rattle.std.specs.List.{list_any, flat_map}
use Rattle.std.proofs.lemmas.Bool.{ne_eqb, le-leb}
use Rattle.dr_types.specs.declared.guest.Guest.{Guest}
use Rattle.dr_types.specs.Scripts.{vcpu_count}
use Rattle.dr_history.specs.declared.event.Event.{Event}
use Rattle.dr_history.specs.declared.event.Event.TheVariants.{Synced, Copied}
use Rattle.dr_history.specs.Lookback.{count, since, before, below}
use Rattle.dr_history.specs.Kinds.{is_synced, is_copied, is_pushed_of}
use Rattle.dr_history.specs.Throttles.{begins_span, current_rate}
use Rattle.dr_history.specs.Report.{copies_in_round, answers_after, until_after, last_throttled, round_line, share_line, rounds_text}
use Rattle.dr_history.specs.Legality.{IsLegalSoFar}
use Rattle.dr_report.specs.declared.answer.Answer.{Answer}
use Rattle.dr_report.specs.declared.tally.Tally.{Tally}
use Rattle.dr_report.specs.Tallies.{answered_entries, answered_rate, tally_of}
use Rattle.dr_report.specs.Answers.{one_more_copied, last_answer, tally_share, shares, answer_text}
use Rattle.dr_report.specs.Draft.{closed_answers}
use Rattle.dr_report.proofs.Tables.{length_table, table_get, same_lines}
use Rattle.dr_report.proofs.Turns.{last_round, UpTo, in_turn, answers_later, copied_round, copied_since, until_last, later_answer}

-- the lines of one answer
abbrev share_lines : Guest → (ℕ → ℕ) → (ℕ → ℕ) → List Event → List ℕ
share_lines guest entries rates until = flat_map (λ v. share_line v (entries v) (rates v) (last_throttled v until)) (below (vcpu_count guest))

-- an event after an answer of a later round changes nothing of the answers before
steady : (guest : Guest) (e : Event) (past xs : List Event) (m : ℕ) → UpTo m xs
    → ((s : ℕ) → s ≤ m → list_any (answers_after s) (e ∷ past) ≡ true) → ((s : ℕ) → s ≤ m → copies_in_round s e ≡ false)
    → rounds_text guest (e ∷ past) xs ≡ rounds_text guest past xs
steady guest e past [] m bound later other = refl
steady guest e past (Synced r at pages ∷ xs) m bound later other =
    let cut : list_any (answers_after r) (e ∷ past) ≡ true = later r bound.0 in
    let same : copies_in_round r e ≡ false = other r bound.0 in
    let until : until_after r (e ∷ past) ≡ until_after r past = rw cut refl in
    let copies : count (copies_in_round r) (e ∷ past) ≡ count (copies_in_round r) past = rw same refl in
    ap (λ first. first ++ round_line r (length pages) (count (copies_in_round r) (e ∷ past)) at ++ share_lines guest (λ v. count (is_pushed_of v) (since begins_span xs)) (λ v. current_rate v at xs) (until_after r (e ∷ past)))
    (steady guest e past xs m bound.1 later other)
    ∙ ap (λ n. rounds_text guest past xs ++ round_line r (length pages) n at ++ share_lines guest (λ v. count (is_pushed_of v) (since begins_span xs)) (λ v. current_rate v at xs) (until_after r (e ∷ past))) copies
    ∙ ap (λ ys. rounds_text guest past xs ++ round_line r (length pages) (count (copies_in_round r) past) at ++ share_lines guest (λ v. count (is_pushed_of v) (since begins_span xs)) (λ v. current_rate v at xs) ys) until
steady guest e past (Copied r page ∷ xs) m bound later other = steady guest e past xs m bound.1 later other
steady guest e past (x ∷ xs) m bound later other = steady guest e past xs m bound later other

-- an event of no earlier round changes nothing of the answers before the last
steady_before : (guest : Guest) (e : Event) (past xs : List Event) → IsLegalSoFar guest xs
    → ((s : ℕ) → s < last_round xs → list_any (answers_after s) (e ∷ past) ≡ true) → ((s : ℕ) → s < last_round xs → copies_in_round s e ≡ false)
    → rounds_text guest (e ∷ past) (before is_synced xs) ≡ rounds_text guest past (before is_synced xs)
steady_before guest e past [] legal later other = refl
steady_before guest e past (Synced r at pages ∷ xs) legal later other =
    let less : last_round xs < r = answers_later guest xs r at pages legal in
    steady guest e past xs (last_round xs) (in_turn guest xs legal.1).bound (λ s l. later s (omega arith)) (λ s l. other s (omega arith))
steady_before guest e past (x ∷ xs) legal later other = steady_before guest e past xs legal.1 later other

-- the lines of the last answer of some events, in the whole history
abbrev last_lines : Guest → List Event → List Event → List ℕ
last_lines guest past [] = []
last_lines guest past (Synced r at pages ∷ xs) =
    round_line r (length pages) (count (copies_in_round r) past) at
    ++ share_lines guest (λ v. count (is_pushed_of v) (since begins_span xs)) (λ v. current_rate v at xs) (until_after r past)
last_lines guest past (x ∷ xs) = last_lines guest past xs

split_last : (guest : Guest) (past xs : List Event) → rounds_text guest past xs ≡ rounds_text guest past (before is_synced xs) ++ last_lines guest past xs
split_last guest past [] = refl
split_last guest past (Synced r at pages ∷ xs) =
    append_assoc (rounds_text guest past xs) (round_line r (length pages) (count (copies_in_round r) past) at)
    (share_lines guest (λ v. count (is_pushed_of v) (since begins_span xs)) (λ v. current_rate v at xs) (until_after r past))
split_last guest past (x ∷ xs) = split_last guest past xs

-- the last answer's round, its number of pages and its time
abbrev answer_parts : List Event → Option (ℕ × ℕ × ℕ)
answer_parts [] = None
answer_parts (Synced r at pages ∷ xs) = Some (r, length pages, at)
answer_parts (x ∷ xs) = answer_parts xs

abbrev lines_with : Option (ℕ × ℕ × ℕ) → ℕ → List ℕ → List ℕ
lines_with None copied lines = []
lines_with (Some a) copied lines = round_line a.0 a.1 copied a.2 ++ lines

-- the last answer's lines by what is known of it
last_by_parts : (guest : Guest) (past xs : List Event)
    → last_lines guest past xs
    ≡ lines_with (answer_parts xs) (count (copies_in_round (last_round xs)) past)
    (share_lines guest (λ v. answered_entries v xs) (λ v. answered_rate v xs) (until_after (last_round xs) past))
last_by_parts guest past [] = refl
last_by_parts guest past (Synced r at pages ∷ xs) = refl
last_by_parts guest past (x ∷ xs) = last_by_parts guest past xs

-- the answer with these parts
abbrev answer_from : Option (ℕ × ℕ × ℕ) → ℕ → Option Answer
answer_from None copied = None
answer_from (Some a) copied = Some (record { round = a.0; dirty = a.1; copied = copied; at = a.2 })

one_more_from : (parts : Option (ℕ × ℕ × ℕ)) (copied : ℕ) → one_more_copied (answer_from parts copied) ≡ answer_from parts (copied + 1)
one_more_from None copied = refl
one_more_from (Some a) copied = refl

last_from : (past : List Event) → last_answer past ≡ answer_from (answer_parts past) (count is_copied (since is_synced past))
last_from [] = refl
last_from (Synced r at pages ∷ past) = refl
last_from (Copied r page ∷ past) = ap one_more_copied (last_from past) ∙ one_more_from (answer_parts past) (count is_copied (since is_synced past))
last_from (e ∷ past) = last_from past

-- the tallies' lines of the last answer
shares_of : (past : List Event) (n : ℕ)
    → shares (map (tally_of past) (below n))
    ≡ flat_map (λ v. share_line v (answered_entries v past) (answered_rate v past) (last_throttled v past)) (below n)
shares_of past n =
    ap (λ k. flat_map (λ v. tally_share v (slice_get (map (tally_of past) (below n)) v)) (below k)) (length_table (tally_of past) n)
    ∙ same_lines (λ v. tally_share v (slice_get (map (tally_of past) (below n)) v))
    (λ v. share_line v (answered_entries v past) (answered_rate v past) (last_throttled v past)) n
    (λ v l. ap (tally_share v) (table_get (tally_of past) n v l))

text_from : (parts : Option (ℕ × ℕ × ℕ)) (copied : ℕ) (tallies : List Tally) → answer_text tallies (answer_from parts copied) ≡ lines_with parts copied (shares tallies)
text_from None copied tallies = refl
text_from (Some a) copied tallies = refl

-- what is kept of the last answer gives its lines
last_kept : (guest : Guest) (past : List Event) → IsLegalSoFar guest past
    → last_lines guest past past ≡ answer_text (map (tally_of past) (below (vcpu_count guest))) (last_answer past)
last_kept guest past legal =
    last_by_parts guest past past
    ∙ ap (λ n. lines_with (answer_parts past) n (share_lines guest (λ v. answered_entries v past) (λ v. answered_rate v past) (until_after (last_round past) past))) (copied_since guest past legal)
    ∙ ap (λ ys. lines_with (answer_parts past) (count is_copied (since is_synced past)) (share_lines guest (λ v. answered_entries v past) (λ v. answered_rate v past) ys)) (until_last guest past legal)
    ∙ ap (λ lines. lines_with (answer_parts past) (count is_copied (since is_synced past)) lines) (sym (shares_of past (vcpu_count guest)))
    ∙ sym (text_from (answer_parts past) (count is_copied (since is_synced past)) (map (tally_of past) (below (vcpu_count guest))))
    ∙ ap (answer_text (map (tally_of past) (below (vcpu_count guest)))) (sym (last_from past))

-- the answers before the last
closed_kept : (guest : Guest) (past : List Event) → IsLegalSoFar guest past
    → rounds_text guest past (before is_synced past) ≡ closed_answers (vcpu_count guest) past
closed_kept guest [] legal = refl
closed_kept guest (Synced r at pages ∷ past) legal =
    steady guest (Synced r at pages) past past (last_round past) (in_turn guest past legal.1).bound
    (λ s l. let yes : nat_le (s + 1) r ≡ true = le-leb (s + 1) r (omega (arith, answers_later guest past r at pages legal)) in rw yes refl)
    (λ s l. refl)
    ∙ split_last guest past past
    ∙ ap (λ first. first ++ last_lines guest past past) (closed_kept guest past legal.1)
    ∙ ap (λ lines. closed_answers (vcpu_count guest) past ++ lines) (last_kept guest past legal.1)
closed_kept guest (Copied r page ∷ past) legal =
    let same : last_round past ≡ r = copied_round guest past r page legal.0 in
    steady_before guest (Copied r page) past past legal.1 (λ s l. later_answer past s l) (λ s l. ne_eqb r s (λ e. omega (arith, same, e)))
    ∙ closed_kept guest past legal.1
closed_kept guest (e ∷ past) legal =
    steady_before guest e past past legal.1 (λ s l. later_answer past s l) (λ s l. refl) ∙ closed_kept guest past legal.1

-- all answers
pub rounds_kept : (guest : Guest) (past : List Event) → IsLegalSoFar guest past
    → rounds_text guest past past ≡ closed_answers (vcpu_count guest) past ++ answer_text (map (tally_of past) (below (vcpu_count guest))) (last_answer past)
rounds_kept guest past legal =
    split_last guest past past
    ∙ ap (λ first. first ++ last_lines guest past past) (closed_kept guest past legal)
    ∙ ap (λ lines. closed_answers (vcpu_count guest) past ++ lines) (last_kept guest past legal)
