-- A sheet of fewer than 2^63 legal events can take the next.
use Rattle.std.proofs.Common.{◌≡◌, ℕ, ◌+◌, ◌<◌, ◌≤◌, ◌^◌, Bool, true, false, cond, List, [], ◌∷◌, ◌++◌, length, reverse, take, drop, get_or, ap, sym, ◌∙◌, subst, arith}
use Rattle.std.specs.Prelude.{Option, Some, None}
use Rattle.std.proofs.lemmas.Bool.{false≢true}
use Rattle.std.proofs.lemmas.List.{reverse-append, length-reverse, length-take-le, take-append-drop}
use Rattle.dr_types.specs.declared.guest.Guest.{Guest}
use Rattle.dr_types.specs.Scripts.{vcpu_count}
use Rattle.dr_types.specs.Validity.{IsValid}
use Rattle.dr_history.specs.declared.event.Event.{Event}
use Rattle.dr_history.specs.declared.event.Event.TheVariants.{Synced, Copied}
use Rattle.dr_history.specs.Lookback.{count, since, below}
use Rattle.dr_history.specs.Kinds.{is_op_of, is_pushed_of, is_synced}
use Rattle.dr_history.specs.Throttles.{begins_span}
use Rattle.dr_history.specs.Report.{exits_full, exits_kicked}
use Rattle.dr_history.specs.Legality.{IsLegalSoFar}
use Rattle.dr_history_law.specs.Limits.{FitsLimits}
use Rattle.dr_history_law.proofs.Earlier.{earlier_legal}
use Rattle.dr_history_law.proofs.Limits.{fits_rate}
use Rattle.dr_report.specs.declared.answer.Answer.{Answer}
use Rattle.dr_report.specs.Tallies.{IsSmall, tally_of}
use Rattle.dr_report.specs.Answers.{one_more_copied, last_answer}
use Rattle.dr_report.specs.Draft.{Sheet, CanTake, sheet_of, after}
use Rattle.dr_report.proofs.Tables.{length_table, all_table, reverse_more}
use Rattle.dr_report.proofs.Sheets.{named, sheet_after}

one_or_none : (b : Bool) (n m : ℕ) → n ≤ m → cond b (n + 1) n ≤ m + 1
one_or_none true n m h = omega arith
one_or_none false n m h = omega arith

count_few : (f : Event → Bool) (past : List Event) → count f past ≤ length past
count_few f [] = omega arith
count_few f (e ∷ past) = omega (arith, one_or_none (f e) (count f past) (length past) (count_few f past))

since_one : (b : Bool) (f : Event → Bool) (e : Event) (xs : List Event) (m : ℕ) → count f xs ≤ m → count f (cond b [] (e ∷ xs)) ≤ m + 1
since_one true f e xs m h = omega arith
since_one false f e xs m h = one_or_none (f e) (count f xs) m h

since_few : (f : Event → Bool) (past : List Event) → count f (since begins_span past) ≤ length past
since_few f [] = omega arith
since_few f (e ∷ past) = omega (arith, since_one (begins_span e) f e (since begins_span past) (length past) (since_few f past))

abbrev copied_of : Option Answer → ℕ
copied_of None = 0
copied_of (Some a) = a.copied

copied_one : (o : Option Answer) → copied_of (one_more_copied o) ≤ copied_of o + 1
copied_one None = omega arith
copied_one (Some a) = omega arith

copied_few : (past : List Event) → copied_of (last_answer past) ≤ length past
copied_few [] = omega arith
copied_few (Synced r at pages ∷ past) = omega arith
copied_few (Copied r page ∷ past) = omega (arith, copied_few past, copied_one (last_answer past))
copied_few (e ∷ past) = omega (arith, copied_few past)

fits : (guest : Guest) → IsValid guest → FitsLimits guest
fits guest valid = record { ring = valid.settings.ring_most; scripts = valid.ops }

few_entries : (guest : Guest) (e : Event) (past : List Event) → IsValid guest → IsLegalSoFar guest (e ∷ past) → is_synced e ≡ true
    → (v : ℕ) → count (is_pushed_of v) (since begins_span past) ≤ 200000
few_entries guest (Synced r at pages) past valid legal is v = (fits_rate guest past r at v pages (fits guest valid) legal).entries
few_entries guest e past valid legal is v = absurd (false≢true is)

-- the next event can be taken
pub can_take : (guest : Guest) (e : Event) (past : List Event) → IsValid guest → IsLegalSoFar guest (e ∷ past) → length past < 2 ^ 63 → CanTake e (sheet_of guest past)
can_take guest e past valid legal few = record {
  named = λ v is. rw (length_table (tally_of past) (vcpu_count guest)) (named guest past e v legal.0 is);
  small = all_table IsSmall (tally_of past) (below (vcpu_count guest)) (λ v. record {
    entries = omega (arith, since_few (is_pushed_of v) past);
    ops = omega (arith, count_few (is_op_of v) past);
    full = omega (arith, count_few (exits_full v) past);
    kicked = omega (arith, count_few (exits_kicked v) past);
  });
  few = λ is. all_table (λ t. t.entries ≤ 200000) (tally_of past) (below (vcpu_count guest)) (few_entries guest e past valid legal is);
  copied = λ a is. let bound : copied_of (last_answer past) ≤ length past = copied_few past in
      let same : copied_of (last_answer past) ≡ a.copied = ap copied_of is in omega arith;
}

-- the first events of a legal history are legal
pub first_legal : (guest : Guest) (events : List Event) (k : ℕ) → IsLegalSoFar guest (reverse events) → IsLegalSoFar guest (reverse (take k events))
first_legal guest events k legal =
    let parts : reverse events ≡ reverse (drop k events) ++ reverse (take k events) =
    ap reverse (sym (take-append-drop k events)) ∙ reverse-append (take k events) (drop k events) in
    earlier_legal guest (reverse (drop k events)) (reverse (take k events)) (subst (IsLegalSoFar guest) parts legal)

-- the next event is legal
pub next_legal : (guest : Guest) (events : List Event) (i : ℕ) (d : Event) → IsLegalSoFar guest (reverse events) → i < length events
    → IsLegalSoFar guest (get_or events i d ∷ reverse (take i events))
next_legal guest events i d legal less = subst (IsLegalSoFar guest) (reverse_more events i d less) (first_legal guest events (i + 1) legal)

-- the draft of the events so far can take the next
pub takes_next : (guest : Guest) (events : List Event) (i : ℕ) (e d : Event) (draft : Sheet)
    → IsValid guest → IsLegalSoFar guest (reverse events) → length (reverse events) < 2 ^ 63 → i < length events
    → e ≡ get_or events i d → draft ≡ sheet_of guest (reverse (take i events)) → CanTake e draft
takes_next guest events i e d draft valid legal few less is same =
    let all : length (reverse events) ≡ length events = length-reverse events in
    let first : length (reverse (take i events)) ≡ i = length-reverse (take i events) ∙ length-take-le i events (omega arith) in
    rw (is, same) (can_take guest (get_or events i d) (reverse (take i events)) valid (next_legal guest events i d legal less) (omega arith))

-- and is then the draft of those events
pub takes_on : (guest : Guest) (events : List Event) (i : ℕ) (e d : Event) (draft new : Sheet)
    → IsLegalSoFar guest (reverse events) → i < length events
    → e ≡ get_or events i d → draft ≡ sheet_of guest (reverse (take i events)) → new ≡ after e draft
    → new ≡ sheet_of guest (reverse (take (i + 1) events))
takes_on guest events i e d draft new legal less is same taken =
    taken ∙ ap (λ x. after x draft) is ∙ ap (after (get_or events i d)) same
    ∙ sheet_after guest (get_or events i d) (reverse (take i events)) (next_legal guest events i d legal less)
    ∙ ap (sheet_of guest) (sym (reverse_more events i d less))
