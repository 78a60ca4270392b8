-- Pages of zeros that are copied together are one record, which nothing goes on.
use Rattle.std.proofs.Common.{◌≡◌, ℕ, zero, suc, ◌+◌, ◌≤◌, Bool, true, false, cond, List, [], ◌∷◌, drop, Some, refl, ap, sym, subst, ◌∙◌, arith, add-one}
use Rattle.std.specs.Prelude.{◌==◌, ◌&&◌, slice_get}
use Rattle.std.proofs.lemmas.Bool.{eq-eqb}
use Rattle.std.proofs.lemmas.Bool.Decides.{nat_tests}
use Rattle.dr_types.specs.declared.guest.Guest.{Guest}
use Rattle.dr_history.specs.declared.event.Event.{Event}
use Rattle.dr_history.specs.declared.event.Event.TheVariants.{Copied}
use Rattle.dr_history.specs.Memory.{page_bytes, is_zero, zero_page}
use Rattle.dr_history.specs.Parts.{Page, Zeros}
use Rattle.dr_history.specs.Rounds.{last_synced}
use Rattle.dr_history.specs.Stream.{follows_zero, lengthened, parts_of}
use Rattle.dr_history_law.specs.Copies.{copies, pages_of}
use Rattle.dr_turns.specs.Due.{page_to_copy, zeros_from, zeros_to_copy, copies_from, round_of}
use Rattle.dr_turns_law.proofs.Cases.{CopyDue}
use Rattle.dr_turns_law.proofs.Copying.{left_place}
use Rattle.dr_turns_law.proofs.Together.{run_zero, drop_place, more_copies, same_synced}
use Rattle.dr_bench.specs.Bench.{HaveZerosEnded}

-- copies change no memory
same_memory : (guest : Guest) (page r first n : ℕ) (past : List Event) → page_bytes guest page (copies_from r first n past) ≡ page_bytes guest page past
same_memory guest page r first zero past = refl
same_memory guest page r first (suc n) past = same_memory guest page r first n past

-- the first of these copies add one record
first_part : (guest : Guest) (r first : ℕ) (past : List Event) → follows_zero guest r first past ≡ false → zero_page guest first past ≡ true → parts_of guest (Copied r first ∷ past) ≡ Zeros first 1 ∷ parts_of guest past
first_part guest r first past ends is = rw (is, ends) refl

goes_on : (guest : Guest) (r first n : ℕ) (past : List Event) → zero_page guest (first + n) past ≡ true → follows_zero guest r (first + suc n) (copies_from r first (suc n) past) ≡ true
goes_on guest r first n past is =
    rw (eq-eqb r r refl, eq-eqb (first + n + 1) (first + suc n) (omega arith), ap is_zero (same_memory guest (first + n) r first n past)) is

run_parts : (guest : Guest) (r first n : ℕ) (past : List Event) → follows_zero guest r first past ≡ false → ((i : ℕ) → i ≤ n → zero_page guest (first + i) past ≡ true) → parts_of guest (copies_from r first (suc n) past) ≡ Zeros first (suc n) ∷ parts_of guest past
run_parts guest r first zero past ends each =
    let at : first + 0 ≡ first = omega arith in
    ap (λ p. parts_of guest (Copied r p ∷ past)) at ∙ first_part guest r first past ends (subst (λ (p : ℕ). zero_page guest p past ≡ true) at (each 0 (omega arith)))
run_parts guest r first (suc n) past ends each =
    let here : zero_page guest (first + suc n) (copies_from r first (suc n) past) ≡ true = ap is_zero (same_memory guest (first + suc n) r first (suc n) past) ∙ each (suc n) (omega arith) in
    let on : follows_zero guest r (first + suc n) (copies_from r first (suc n) past) ≡ true = goes_on guest r first n past (each n (omega arith)) in
    rw (here, on) (ap lengthened (run_parts guest r first n past ends (λ i le. each i (omega (arith, le)))) ∙ ap (λ k. Zeros first k ∷ parts_of guest past) (add-one (suc n)))

-- a turn that copies zero pages adds one record, where it doesn't go on the last one
pub run_adds : (guest : Guest) (past : List Event) (page n : ℕ) → HaveZerosEnded guest past → CopyDue guest past page → zeros_to_copy guest past page ≡ suc n
    → parts_of guest (copies_from (round_of (last_synced past)) page (suc n) past) ≡ Zeros page (suc n) ∷ parts_of guest past
run_adds guest past page n ended due is =
    let pages : List ℕ = drop (copies past) (pages_of (last_synced past)) in
    let each : (i : ℕ) → i ≤ n → zero_page guest (page + i) past ≡ true = λ i le. run_zero guest past page pages i (omega (arith, le, is)) in
    let at : page + 0 ≡ page = omega arith in
    let first : zero_page guest page past ≡ true = subst (λ (p : ℕ). zero_page guest p past ≡ true) at (each 0 (omega arith)) in
    run_parts guest (round_of (last_synced past)) page n past (ended page due.next first) each

-- there are as many of them as can be
turned : (q first : ℕ) (z : Bool) → (q == first && z) ≡ false → (first == q && z) ≡ false
turned q first z h = ap (λ b. b && z) (grind (arith, nat_tests)) ∙ h

one_longest : (guest : Guest) (past : List Event) (first q next m : ℕ) (pages : List ℕ) (here : Bool) → (q == first && zero_page guest q past) ≡ here → ((n : ℕ) → m ≡ n → slice_get pages n ≡ Some next → (first + 1 + n == next && zero_page guest next past) ≡ false) → (n : ℕ) → cond here (suc m) 0 ≡ n → slice_get (q ∷ pages) n ≡ Some next → (first + n == next && zero_page guest next past) ≡ false
one_longest guest past first q next m pages false is rest zero e at =
    let same : q ≡ next = cc in
    let none : (first == q && zero_page guest q past) ≡ false = turned q first (zero_page guest q past) is in
    ap (λ k. k == next && zero_page guest next past) (omega arith) ∙ subst (λ (p : ℕ). (first == p && zero_page guest p past) ≡ false) same none
one_longest guest past first q next m pages false is rest (suc n) e at = cc
one_longest guest past first q next m pages true is rest zero e at = cc
one_longest guest past first q next m pages true is rest (suc n) e at =
    ap (λ k. k == next && zero_page guest next past) (omega arith) ∙ rest n (omega (arith, e)) at

longest : (guest : Guest) (past : List Event) (first n next : ℕ) (pages : List ℕ) → zeros_from guest past first pages ≡ n → slice_get pages n ≡ Some next → (first + n == next && zero_page guest next past) ≡ false
longest guest past first n next [] is at = cc
longest guest past first n next (q ∷ pages) is at =
    one_longest guest past first q next (zeros_from guest past (first + 1) pages) pages (q == first && zero_page guest q past) refl (λ m e g. longest guest past (first + 1) m next pages e g) n is at

-- the pages that are left after them
left_after : (guest : Guest) (past : List Event) (r page n next : ℕ) → page_to_copy guest (copies_from r page n past) ≡ Some next → slice_get (drop (copies past) (pages_of (last_synced past))) n ≡ Some next
left_after guest past r page n next is =
    let run : List Event = copies_from r page n past in
    drop_place (pages_of (last_synced past)) (copies past) n
    ∙ ap (slice_get (pages_of (last_synced past))) (sym (more_copies r page n past))
    ∙ ap (λ o. slice_get (pages_of o) (copies run)) (sym (same_synced r page n past))
    ∙ left_place guest run (last_synced run) next is

first_false : (a w : Bool) → (a && w) ≡ false → w ≡ true → a ≡ false
first_false true true h t = h
first_false true false h t = cc
first_false false w h t = refl

middle_false : (a z : Bool) → (a && false && z) ≡ false
middle_false true z = refl
middle_false false z = refl

not_next : (r s page n next : ℕ) (z w : Bool) → (page + suc n == next && w) ≡ false → w ≡ true → (r == s && page + n + 1 == next && z) ≡ false
not_next r s page n next z w none was =
    let other : (page + n + 1 == next) ≡ false = ap (λ k. k == next) (omega arith) ∙ first_false (page + suc n == next) w none was in
    rw other (middle_false (r == s) z)

-- and so nothing goes on it
pub run_ends : (guest : Guest) (past : List Event) (page n : ℕ) → zeros_to_copy guest past page ≡ suc n → HaveZerosEnded guest (copies_from (round_of (last_synced past)) page (suc n) past)
run_ends guest past page n is = λ next here zero.
    let r = round_of (last_synced past) in
    let run : List Event = copies_from r page (suc n) past in
    let none : (page + suc n == next && zero_page guest next past) ≡ false = longest guest past page (suc n) next (drop (copies past) (pages_of (last_synced past))) is (left_after guest past r page (suc n) next here) in
    let was : zero_page guest next past ≡ true = sym (ap is_zero (same_memory guest next r page (suc n) past)) ∙ zero in
    not_next r (round_of (last_synced run)) page n next (zero_page guest (page + n) (copies_from r page n past)) (zero_page guest next past) none was

-- a page that is copied alone isn't zero
first_zero : (guest : Guest) (past : List Event) (page : ℕ) (pages : List ℕ) (is_so : Bool) → zero_page guest page past ≡ is_so → slice_get pages 0 ≡ Some page → zeros_from guest past page pages ≡ 0 → is_so ≡ false
first_zero guest past page [] is_so is at none = cc
first_zero guest past page (q ∷ pages) false is at none = refl
first_zero guest past page (q ∷ pages) true is at none =
    let same : q ≡ page = cc in
    let here : (q == page && zero_page guest q past) ≡ true = rw (same, eq-eqb page page refl) is in
    let some : suc (zeros_from guest past (page + 1) pages) ≡ 0 = ap (λ b. cond b (suc (zeros_from guest past (page + 1) pages)) 0) (sym here) ∙ none in
    absurd (omega (arith, some))

pub alone_unzero : (guest : Guest) (past : List Event) (page : ℕ) → CopyDue guest past page → zeros_to_copy guest past page ≡ 0 → zero_page guest page past ≡ false
alone_unzero guest past page due none =
    let pages : List ℕ = drop (copies past) (pages_of (last_synced past)) in
    let number : copies past + 0 ≡ copies past = omega arith in
    first_zero guest past page pages (zero_page guest page past) refl
    (drop_place (pages_of (last_synced past)) (copies past) 0 ∙ ap (slice_get (pages_of (last_synced past))) number ∙ left_place guest past (last_synced past) page due.next) none

last_false : (a b : Bool) → (a && b && false) ≡ false
last_false true true = refl
last_false true false = refl
last_false false b = refl

-- and nothing goes on it
pub alone_ends : (guest : Guest) (past : List Event) (r page : ℕ) → zero_page guest page past ≡ false → HaveZerosEnded guest (Copied r page ∷ past)
alone_ends guest past r page unzero = λ next here zero. rw unzero (last_false (r == round_of (last_synced past)) (page + 1 == next))

pub alone_adds : (guest : Guest) (past : List Event) (r page : ℕ) → zero_page guest page past ≡ false → parts_of guest (Copied r page ∷ past) ≡ Page page (page_bytes guest page past) ∷ parts_of guest past
alone_adds guest past r page unzero = rw unzero refl
