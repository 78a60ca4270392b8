-- What is left to copy once the stop is answered, and that memory and the destination are the same at the switch-over.
use Rattle.std.proofs.Common.{◌≡◌, ℕ, ◌+◌, ◌<◌, Bool, true, false, cond, List, filter, inl, inr, [], ◌∷◌, Option, None, Some, is_some, refl, arith, ap, sym, ◌∙◌}
use Rattle.std.specs.Prelude.{◌||◌, ◌&&◌, not, ◌==◌}
use Rattle.std.specs.List.{list_any, list_all}
use Rattle.std.proofs.lemmas.Bool.{and_parts, or_from, false_from_ne_true, both_ways, true≢false, false≢true, cases_lt}
use Rattle.dr_types.specs.declared.guest.Guest.{Guest}
use Rattle.dr_types.specs.Pages.{page_count}
use Rattle.dr_history.specs.declared.event.Event.{Event}
use Rattle.dr_history.specs.declared.event.Event.TheVariants.{Start, Opened, Reset, Flushed, Asked, Synced, Copied, Stopped, Switched}
use Rattle.dr_history.specs.Lookback.{count, since, before, below, is_number}
use Rattle.dr_history.specs.Kinds.{is_asked, is_synced, is_stopped, is_switched, resets_entry, copies_page}
use Rattle.dr_history.specs.Memory.{page_bytes, copied_bytes}
use Rattle.dr_history.specs.Entries.{resets, page_of_entry}
use Rattle.dr_history.specs.Protection.{started, writable, opened_last, closing, resets_page}
use Rattle.dr_history.specs.Dirty.{dirty, dirty_pages}
use Rattle.dr_history.specs.Vcpus.{stopped}
use Rattle.dr_history.specs.Rounds.{unanswered, last_synced, is_reset_in, round_copied, copied_in, answered_pages, opens_round}
use Rattle.dr_history.specs.Legality.{IsLegalSoFar, broken}
use Rattle.dr_history_law.specs.Outstanding.{is_outstanding, outstanding}
use Rattle.dr_history_law.specs.Stop.{last_opens}
use Rattle.dr_history_law.specs.Switch.{is_left, SettlesAtStop, SameAtSwitch}
use Rattle.dr_history_law.proofs.Kept.{starts_facts, resets_facts, opened_ends, asks_facts, syncs_facts, stops_facts, switches_facts, unswitched}
use Rattle.dr_history_law.proofs.Outstanding.{last_outstanding, dropped, unique, opens_as, unreset}
use Rattle.dr_history_law.proofs.Agreement.{agreed}
use Rattle.dr_history_law.proofs.Listing.{none_below, map_below, present, absent, same_list, all_at}

-- logging has begun where an Asked has no answer
pub unanswered_started : (guest : Guest) (past : List Event) → IsLegalSoFar guest past → is_some (unanswered past) ≡ true → started past ≡ true
unanswered_started guest [] legal u = cc
unanswered_started guest (Start at ∷ past) legal u = refl
unanswered_started guest (Asked r ∷ past) legal u = (asks_facts guest past r legal.0).started
unanswered_started guest (Synced r at pages ∷ past) legal u = cc
unanswered_started guest (e ∷ past) legal u = unanswered_started guest past legal.1 u

pub number_some : (r : ℕ) (o : Option ℕ) → is_number r o ≡ true → is_some o ≡ true
number_some r None h = cc
number_some r (Some n) h = refl

-- no entry is opened between an Asked after the stop and its answer
asked_stopped : (guest : Guest) (past : List Event) (page : ℕ) (xs : List Event) → IsLegalSoFar guest past → stopped past ≡ true → is_some (unanswered past) ≡ true → last_opens past ≡ false → count (is_outstanding page xs) past ≡ count (is_outstanding page xs) (before is_asked past)
asked_stopped guest [] page xs legal s u l = cc
asked_stopped guest (Asked r ∷ past) page xs legal s u l = refl
asked_stopped guest (Synced r at pages ∷ past) page xs legal s u l = cc
asked_stopped guest (Stopped ∷ past) page xs legal s u l = let f = stops_facts guest past legal.0 in cc
asked_stopped guest (Opened v k q ∷ past) page xs legal s u l = cc
asked_stopped guest (e ∷ past) page xs legal s u l = asked_stopped guest past page xs legal.1 s u (opened_ends guest past e legal.0 s)

reset_zero : (same gone : Bool) (c : ℕ) → gone ≡ true → c ≡ 0 → cond (same && not gone) (c + 1) c ≡ 0
reset_zero true true c g z = z
reset_zero true false c g z = cc
reset_zero false gone c g z = z

-- of events whose entries are all reset none is outstanding
pub none_outstanding : (page : ℕ) (xs ys : List Event) → list_all (is_reset_in xs) ys ≡ true → count (is_outstanding page xs) ys ≡ 0
none_outstanding page xs [] h = refl
none_outstanding page xs (Opened v k q ∷ ys) h =
    let parts = and_parts (list_any (resets_entry v k) xs) (list_all (is_reset_in xs) ys) h in
    reset_zero (q == page) (list_any (resets_entry v k) xs) (count (is_outstanding page xs) ys) parts.0 (none_outstanding page xs ys parts.1)
none_outstanding page xs (e ∷ ys) h = none_outstanding page xs ys h

last_from : (last reset : Bool) (l m n : ℕ) → l ≡ m + n → n ≡ cond reset 1 0 → l ≡ cond last 1 0 → reset ≡ true → last ≡ true
last_from true reset l m n d r e h = refl
last_from false true l m n d r e h = absurd (omega (arith, d, r, e))
last_from false false l m n d r e h = h

-- a Reset is of a page that was opened last
pub reset_opened_last : (guest : Guest) (past : List Event) (w k page : ℕ) → IsLegalSoFar guest past → broken guest past (Reset w k) ≡ None → resets_page page (Reset w k) past ≡ true → opened_last page past ≡ true
reset_opened_last guest past w k page legal h r =
    let number : k ≡ resets w past = (resets_facts guest past w k h).number in
    last_from (opened_last page past) (is_number page (page_of_entry w k past)) (outstanding page past) (count (is_outstanding page (Reset w k ∷ past)) past) (count (opens_as w k page) past)
    (dropped page w k past past (unreset guest past w k legal (omega arith)))
    (unique guest past w k page legal)
    (last_outstanding guest past page legal) r

unopened : (last : Bool) (n : ℕ) → n ≡ 0 → n ≡ cond last 1 0 → last ≡ false
unopened true n z h = absurd (omega (arith, z, h))
unopened false n z h = refl

and_true : (b : Bool) → (b && true) ≡ b
and_true true = refl
and_true false = refl

-- the page is one of an answer's, and has no Copied in the events since
abbrev pub is_left_of : ℕ → Option (Event × List Event) → List Event → Bool
is_left_of page None later = false
is_left_of page (Some synced) later = list_any (λ q. q == page) (answered_pages synced.0) && not (copied_in later page)

left_passes : (page : ℕ) (e : Event) (o : Option (Event × List Event)) (later : List Event) → copies_page page e ≡ false → is_left_of page o (e ∷ later) ≡ is_left_of page o later
left_passes page e None later h = refl
left_passes page e (Some synced) later h = ap (λ (b : Bool). list_any (λ q. q == page) (answered_pages synced.0) && not (b || copied_in later page)) h

left_none : (b : Bool) → cond b false false ≡ false
left_none true = refl
left_none false = refl

left_some : (b m c : Bool) → cond b false (m && not c) ≡ (m && not (b || c))
left_some true true c = refl
left_some true false c = refl
left_some false m c = refl

left_copied : (page r q : ℕ) (o : Option (Event × List Event)) (later : List Event) → cond (q == page) false (is_left_of page o later) ≡ is_left_of page o (Copied r q ∷ later)
left_copied page r q None later = left_none (q == page)
left_copied page r q (Some synced) later = left_some (q == page) (list_any (λ p. p == page) (answered_pages synced.0)) (copied_in later page)

-- the last answer, found by recursion and by its place
pub left_of_last : (page : ℕ) (past : List Event) → is_left page past ≡ is_left_of page (last_synced past) (since is_synced past)
left_of_last page [] = refl
left_of_last page (Synced r at pages ∷ past) = sym (and_true (list_any (λ q. q == page) pages))
left_of_last page (Copied r q ∷ past) =
    ap (λ (b : Bool). cond (q == page) false b) (left_of_last page past) ∙ left_copied page r q (last_synced past) (since is_synced past)
left_of_last page (e ∷ past) = left_of_last page past ∙ sym (left_passes page e (last_synced past) (since is_synced past) refl)

-- logging has begun, and the page is not writable and not closing, and dirty exactly where it is left to copy
abbrev Done : ℕ → List Event → Type 0
Done page past = (started past ≡ true) × (opened_last page past ≡ false) × (closing page past ≡ false) × (dirty page past ≡ is_left page past)

synced_done : (guest : Guest) (past : List Event) (r at page : ℕ) (pages : List ℕ) → IsLegalSoFar guest past → broken guest past (Synced r at pages) ≡ None → page < page_count guest → stopped past ≡ true → Done page (Synced r at pages ∷ past)
synced_done guest past r at page pages legal h l s =
    let facts = syncs_facts guest past r at pages h in
    let asked : is_some (unanswered past) ≡ true = number_some r (unanswered past) facts.asked in
    let none : outstanding page past ≡ 0 = asked_stopped guest past page past legal s asked (opened_ends guest past (Synced r at pages) h s) ∙ none_outstanding page past (before is_asked past) facts.reset in
    let answered : list_any (λ q. q == page) pages ≡ dirty page past = ap (λ (qs : List ℕ). list_any (λ q. q == page) qs) (same_list pages (dirty_pages guest past) facts.exact) ∙ present (λ p. dirty p past) (page_count guest) page l in (
      unanswered_started guest past legal asked,
      unopened (opened_last page past) (outstanding page past) none (last_outstanding guest past page legal),
      none_below (λ p. closing p past) (page_count guest) page facts.flushed l,
      sym answered,
    )

reset_kept : (r last : Bool) → last ≡ false → cond r false last ≡ false
reset_kept true last h = refl
reset_kept false last h = h

reset_done : (guest : Guest) (past : List Event) (w k page : ℕ) → IsLegalSoFar guest past → broken guest past (Reset w k) ≡ None → Done page past → Done page (Reset w k ∷ past)
reset_done guest past w k page legal h d =
    let protected : opened_last page past ≡ false = d.1 in
    let other : resets_page page (Reset w k) past ≡ false = false_from_ne_true (resets_page page (Reset w k) past) (λ r. let t = reset_opened_last guest past w k page legal h r in cc) in
    (d.0, reset_kept (resets_page page (Reset w k) past) (opened_last page past) protected, or_from (resets_page page (Reset w k) past) (closing page past) other d.2, d.3)

flushed_done : (page : ℕ) (past : List Event) → Done page past → Done page (Flushed ∷ past)
flushed_done page past d =
    let same : dirty page past ≡ is_left page past = d.3 in
    let closed : closing page past ≡ false = d.2 in
    (d.0, d.1, refl, ap (λ (b : Bool). b || dirty page past) closed ∙ same)

copied_done : (r q page : ℕ) (past : List Event) → Done page past → Done page (Copied r q ∷ past)
copied_done r q page past d =
    (d.0, d.1, d.2, ap (λ (b : Bool). cond (q == page) false b) d.3)

start_done : (guest : Guest) (past : List Event) (at page : ℕ) → broken guest past (Start at) ≡ None → Done page past → Done page (Start at ∷ past)
start_done guest past at page h d =
    let t : started past ≡ true = d.0 in
    let f : started past ≡ false = starts_facts guest past at h in
    absurd (both_ways (started past) f t)

done : (guest : Guest) (past : List Event) (page : ℕ) → IsLegalSoFar guest past → page < page_count guest → stopped past ≡ true → list_any is_synced (since is_stopped past) ≡ true → last_opens past ≡ false → Done page past
done guest [] page legal l s a o = absurd (false≢true s)
done guest (Start at ∷ past) page legal l s a o = start_done guest past at page legal.0 (done guest past page legal.1 l s a (opened_ends guest past (Start at) legal.0 s))
done guest (Opened v k q ∷ past) page legal l s a o = absurd (true≢false o)
done guest (Reset w k ∷ past) page legal l s a o = reset_done guest past w k page legal.1 legal.0 (done guest past page legal.1 l s a (opened_ends guest past (Reset w k) legal.0 s))
done guest (Flushed ∷ past) page legal l s a o = flushed_done page past (done guest past page legal.1 l s a (opened_ends guest past Flushed legal.0 s))
done guest (Synced r at pages ∷ past) page legal l s a o = synced_done guest past r at page pages legal.1 legal.0 l s
done guest (Copied r q ∷ past) page legal l s a o = copied_done r q page past (done guest past page legal.1 l s a (opened_ends guest past (Copied r q) legal.0 s))
done guest (Stopped ∷ past) page legal l s a o = absurd (false≢true a)
done guest (e ∷ past) page legal l s a o = done guest past page legal.1 l s a (opened_ends guest past e legal.0 s)

unwritable : (started last : Bool) → started ≡ true → last ≡ false → (not started || last) ≡ false
unwritable true last s h = h
unwritable false last s h = cc

pub settles_at_stop : (guest : Guest) (past : List Event) → IsLegalSoFar guest past → SettlesAtStop guest past
settles_at_stop guest past legal page l a o =
    let both = and_parts (stopped past) (list_any is_synced (since is_stopped past)) a in
    let d = done guest past page legal l both.0 both.1 o in
    record { protected = unwritable (started past) (opened_last page past) d.0 d.1; closed = d.2; exact = d.3 }

-- a page of the last answer without its Copied is dirty, where all pages answered are the guest's
left_dirty : (d same left : Bool) → (left ≡ true → d ≡ true) → cond same false left ≡ true → cond same false d ≡ true
left_dirty d true left f h = cc
left_dirty d false left f h = f h

left_flushed : (c d left : Bool) → (left ≡ true → d ≡ true) → left ≡ true → (c || d) ≡ true
left_flushed true d left f h = refl
left_flushed false d left f h = f h

all_left : (dirt : ℕ → Bool) (n page : ℕ) → list_any (λ q. q == page) (filter dirt (below n)) ≡ true → dirt page ≡ true
all_left dirt n page h =
    elim (cases_lt page n) [
      | inl l ↦ sym (present dirt n page l) ∙ h
      | inr g ↦ absurd (both_ways (list_any (λ q. q == page) (filter dirt (below n))) (absent dirt n page g) h)
    ]

pub left_is_dirty : (guest : Guest) (past : List Event) (page : ℕ) → IsLegalSoFar guest past → is_left page past ≡ true → dirty page past ≡ true
left_is_dirty guest [] page legal h = h
left_is_dirty guest (Start at ∷ past) page legal h = refl
left_is_dirty guest (Flushed ∷ past) page legal h = left_flushed (closing page past) (dirty page past) (is_left page past) (left_is_dirty guest past page legal.1) h
left_is_dirty guest (Synced r at pages ∷ past) page legal h =
    let facts = syncs_facts guest past r at pages legal.0 in
    all_left (λ p. dirty p past) (page_count guest) page
    (sym (ap (λ (qs : List ℕ). list_any (λ q. q == page) qs) (same_list pages (dirty_pages guest past) facts.exact)) ∙ h)
left_is_dirty guest (Copied r q ∷ past) page legal h =
    left_dirty (dirty page past) (q == page) (is_left page past) (left_is_dirty guest past page legal.1) h
left_is_dirty guest (e ∷ past) page legal h = left_is_dirty guest past page legal.1 h

left_cases : (m c : Bool) → (m ≡ true → c ≡ true) → (m && not c) ≡ false
left_cases true true f = refl
left_cases true false f = let h : false ≡ true = f refl in cc
left_cases false c f = refl

-- where a round is copied nothing of it is left
pub none_left : (guest : Guest) (page : ℕ) (o : Option (Event × List Event)) (later : List Event) → round_copied guest o later ≡ true → is_left_of page o later ≡ false
none_left guest page None later h = refl
none_left guest page (Some synced) later h =
    left_cases (list_any (λ q. q == page) (answered_pages synced.0)) (copied_in later page)
    (all_at (copied_in later) (answered_pages synced.0) page (and_parts (opens_round guest synced.0 synced.1) (list_all (copied_in later) (answered_pages synced.0)) h).1)

unowed : (d c w : Bool) → d ≡ false → c ≡ false → w ≡ false → (d || c || w) ≡ false
unowed d c w x y z = or_from (d || c) w (or_from d c x y) z

page_same : (guest : Guest) (past : List Event) (page : ℕ) → IsLegalSoFar guest past → broken guest past Switched ≡ None → page < page_count guest → page_bytes guest page past ≡ copied_bytes guest page past
page_same guest past page legal h l =
    let facts = switches_facts guest past h in
    let d = done guest past page legal l facts.stopped facts.answered (opened_ends guest past Switched h facts.stopped) in
    let clean : dirty page past ≡ false = d.3 ∙ left_of_last page past ∙ none_left guest page (last_synced past) (since is_synced past) facts.copied in
    agreed guest past page legal (unowed (dirty page past) (closing page past) (writable page past) clean d.2 (unwritable (started past) (opened_last page past) d.0 d.1))

-- where a Switched came it is the last event
pub same_at_switch : (guest : Guest) (past : List Event) → IsLegalSoFar guest past → SameAtSwitch guest past
same_at_switch guest [] legal h = refl
same_at_switch guest (Switched ∷ past) legal h =
    map_below (λ page. page_bytes guest page past) (λ page. copied_bytes guest page past) (page_count guest) (λ page l. page_same guest past page legal.1 legal.0 l)
same_at_switch guest (e ∷ past) legal h = absurd (both_ways (list_any is_switched past) (unswitched guest past e legal.0) h)
