-- What an advance leaves.
use Rattle.std.proofs.Common.{◌≡◌, ℕ, zero, suc, ◌+◌, ◌<◌, ◌≤◌, Bool, true, false, List, ◌∷◌, drop, refl, ap, sym, subst, ◌∙◌, arith, inl, inr}
use Rattle.std.proofs.Math.Nat.{eq-or-lt_of_le}
use Rattle.std.proofs.lemmas.Bool.{eq-eqb, eqb-false}
use Rattle.std.specs.Prelude.{◌==◌, Result, Ok, Err, IfOk, OnOk, OnErr}
use Rattle.dr_types.specs.declared.guest.Guest.{Guest}
use Rattle.dr_types.specs.declared.memory.Memory.{Memory}
use Rattle.dr_history.specs.declared.event.Event.{Event}
use Rattle.dr_history.specs.declared.event.Event.TheVariants.{Start, Asked, Synced, Copied, Throttled, Stopped, Switched}
use Rattle.dr_history.specs.Dirty.{dirty}
use Rattle.dr_history.specs.Kinds.{is_synced}
use Rattle.dr_history.specs.Legality.{IsLegal, IsLegalSoFar}
use Rattle.dr_history.specs.Lookback.{since}
use Rattle.dr_history.specs.Memory.{page_bytes, is_zero, zero_page}
use Rattle.dr_history.specs.Rounds.{last_synced, is_least_uncopied}
use Rattle.dr_history_law.specs.Copies.{copies, pages_of}
use Rattle.dr_history_law.specs.Cover.{CoversOpened}
use Rattle.dr_turns_law.specs.Advances.{IsAdvance, SameEntries}
use Rattle.dr_turns_law.proofs.Cases.{IsWait, CopyDue, advanced_cases}
use Rattle.dr_turns_law.proofs.Together.{run_zero}
use Rattle.dr_turns_law.proofs.Least.{left_is_least}
use Rattle.dr_turns_law.proofs.Whole.{by_advanced, advanced_is_aside, answered_covers}
use Rattle.dr_turns.specs.Between.{AtTurnsEnd}
use Rattle.dr_turns.specs.Due.{advanced, zeros_to_copy, copies_from, round_of}
use Rattle.dr_turns.specs.declared.answers.Advance.{Advance}
use Rattle.dr_turns.specs.declared.answers.Advance.TheVariants as advance
use Rattle.dr_machine.specs.Copies.{copied_into}
use Rattle.dr_machine.specs.Views.{MachineView}

-- what a machine says of an advance
pub record AdvanceOf (guest : Guest) (now : ℕ) (old new : MachineView) (before after : List ℕ) (result : Result Advance Memory) : Type 0 where
  pub legal : IsLegal guest old.past
  pub end : AtTurnsEnd guest old.past
  pub answer : IfOk result (λ a. a ≡ (advanced guest now old.past).0)
  pub appended : OnOk result (new.past ≡ (advanced guest now old.past).1)
  pub into : IfOk result (λ a. after ≡ copied_into guest old.past a before)
  pub err : OnErr result (new ≡ old)

-- what the advance answered
answered_as : (guest : Guest) (now : ℕ) (past : List Event) (result : Result Advance Memory) (a : Advance) → IfOk result (λ b. b ≡ (advanced guest now past).0) → result ≡ Ok a → (advanced guest now past).0 ≡ a
answered_as guest now past result a is ok = sym (subst (λ (r : Result Advance Memory). IfOk r (λ b. b ≡ (advanced guest now past).0)) ok is)

left_by : (guest : Guest) (now : ℕ) (old new : List Event) (result : Result Advance Memory) (a : Advance) → OnOk result (new ≡ (advanced guest now old).1) → result ≡ Ok a → new ≡ (advanced guest now old).1
left_by guest now old new result a is ok = subst (λ (r : Result Advance Memory). OnOk r (new ≡ (advanced guest now old).1)) ok is

-- an answer covers each entry that was opened before its request
pub advance_covers : (guest : Guest) (now : ℕ) (old new : MachineView) (before after : List ℕ) (result : Result Advance Memory) (r pages : ℕ) → AdvanceOf guest now old new before after result
    → result ≡ Ok (advance.Answered r pages) → CoversOpened old.past
advance_covers guest now old new before after result r pages due is =
    answered_covers guest now old.past r pages due.legal.0 due.end (answered_as guest now old.past result (advance.Answered r pages) due.answer is)

-- what holds of the page that an advance copied
record CopyOf (guest : Guest) (past : List Event) (p : Advance × List Event) : Type 0 where
  least : (r page : ℕ) → p.0 ≡ advance.Copied r page → is_least_uncopied page (pages_of (last_synced past)) (since is_synced past) ≡ true
  clean : (r page : ℕ) → p.0 ≡ advance.Copied r page → dirty page p.1 ≡ false
  first : (r page n : ℕ) → p.0 ≡ advance.Blank r page n → is_least_uncopied page (pages_of (last_synced past)) (since is_synced past) ≡ true
  zero : (r page n k : ℕ) → p.0 ≡ advance.Blank r page n → k < n → zero_page guest (page + k) past ≡ true
  blank_clean : (r page n k : ℕ) → p.0 ≡ advance.Blank r page n → k < n → dirty (page + k) p.1 ≡ false

wait_copies_none : (a : Advance) (r page : ℕ) → IsWait a → a ≡ advance.Copied r page → ⊥
wait_copies_none a r page wait is = subst IsWait is wait

wait_blanks_none : (a : Advance) (r page n : ℕ) → IsWait a → a ≡ advance.Blank r page n → ⊥
wait_blanks_none a r page n wait is = subst IsWait is wait

no_copy : (guest : Guest) (past : List Event) (p : Advance × List Event) → ((r page : ℕ) → p.0 ≡ advance.Copied r page → ⊥) → ((r page n : ℕ) → p.0 ≡ advance.Blank r page n → ⊥) → CopyOf guest past p
no_copy guest past p none no_blank = record {
  least = λ r page is. absurd (none r page is);
  clean = λ r page is. absurd (none r page is);
  first = λ r page n is. absurd (no_blank r page n is);
  zero = λ r page n k is lt. absurd (no_blank r page n is);
  blank_clean = λ r page n k is lt. absurd (no_blank r page n is);
}

copied_is_clean : (r q page : ℕ) (past : List Event) → q ≡ page → dirty page (Copied r q ∷ past) ≡ false
copied_is_clean r q page past is = subst (λ (k : ℕ). dirty k (Copied r q ∷ past) ≡ false) is (rw (eq-eqb q q refl) refl)

same_page : (r s page q : ℕ) → advance.Copied r page ≡ advance.Copied s q → page ≡ q
same_page r s page q is = cc

same_blank : (r s page q n m : ℕ) → advance.Blank r page n ≡ advance.Blank s q m → (page ≡ q) × (n ≡ m)
same_blank r s page q n m is = let first : page ≡ q = cc in let count : n ≡ m = cc in (first, count)

-- each of the pages that are copied together is clean after it
last_or_before : (here : Bool) (r first n k : ℕ) (past : List Event) → (first + n == first + k) ≡ here → (k < n → dirty (first + k) (copies_from r first n past) ≡ false) → k < suc n → dirty (first + k) (copies_from r first (suc n) past) ≡ false
last_or_before true r first n k past is before lt = rw is refl
last_or_before false r first n k past is before lt =
    let other : first + n ≡ first + k → ⊥ = eqb-false (first + n) (first + k) is in
    let le : k ≤ n = omega (arith, lt) in
    rw is (elim (eq-or-lt_of_le le) [
      | inl eq ↦ absurd (other (omega (arith, eq)))
      | inr less ↦ before less
    ])

run_is_clean : (r first n k : ℕ) (past : List Event) → k < n → dirty (first + k) (copies_from r first n past) ≡ false
run_is_clean r first zero k past lt = absurd (omega (arith, lt))
run_is_clean r first (suc n) k past lt =
    last_or_before (first + n == first + k) r first n k past refl (run_is_clean r first n k past) lt

blank_of : (guest : Guest) (past : List Event) (page n : ℕ) → IsLegalSoFar guest past → CopyDue guest past page → zeros_to_copy guest past page ≡ suc n → CopyOf guest past (advance.Blank (round_of (last_synced past)) page (suc n), copies_from (round_of (last_synced past)) page (suc n) past)
blank_of guest past page n legal due zeros =
    let r = round_of (last_synced past) in record {
      least = λ s q is. cc;
      clean = λ s q is. cc;
      first = λ s q m is.
          subst (λ (k : ℕ). is_least_uncopied k (pages_of (last_synced past)) (since is_synced past) ≡ true) (same_blank r s page q (suc n) m is).0
          (left_is_least guest past page legal due.next);
      zero = λ s q m k is lt.
          let same = same_blank r s page q (suc n) m is in
          let within : k < zeros_to_copy guest past page = omega (arith, lt, zeros, same.1) in
          subst (λ (p : ℕ). zero_page guest (p + k) past ≡ true) same.0
          (run_zero guest past page (drop (copies past) (pages_of (last_synced past))) k within);
      blank_clean = λ s q m k is lt.
          let same = same_blank r s page q (suc n) m is in
          subst (λ (p : ℕ). dirty (p + k) (copies_from r page (suc n) past) ≡ false) same.0
          (run_is_clean r page (suc n) k past (omega (arith, lt, same.1)));
    }

copies_of : (guest : Guest) (now : ℕ) (past : List Event) → IsLegalSoFar guest past → CopyOf guest past (advanced guest now past)
copies_of guest now past legal =
    advanced_cases (CopyOf guest past) guest now past (record {
      waits = λ a wait. no_copy guest past (a, past) (λ r page is. wait_copies_none a r page wait is) (λ r page n is. wait_blanks_none a r page n wait is);
      starts = λ due. no_copy guest past _ (λ r page is. cc) (λ r page n is. cc);
      answers = λ r due. no_copy guest past _ (λ q page is. cc) (λ q page n is. cc);
      copies = λ page due alone. record {
        least = λ r q is. subst (λ (k : ℕ). is_least_uncopied k (pages_of (last_synced past)) (since is_synced past) ≡ true) (same_page (round_of (last_synced past)) r page q is) (left_is_least guest past page legal due.next);
        clean = λ r q is. copied_is_clean (round_of (last_synced past)) page q past (same_page (round_of (last_synced past)) r page q is);
        first = λ r q n is. cc;
        zero = λ r q n k is lt. cc;
        blank_clean = λ r q n k is lt. cc;
      };
      blanks = λ page n due zeros. blank_of guest past page n legal due zeros;
      asks_last = λ on stop fresh. no_copy guest past _ (λ r page is. cc) (λ r page n is. cc);
      switches = λ on stop asked. no_copy guest past _ (λ r page is. cc) (λ r page n is. cc);
      stops = λ on runs few. no_copy guest past _ (λ r page is. cc) (λ r page n is. cc);
      asks_first = λ on runs none more. no_copy guest past _ (λ r page is. cc) (λ r page n is. cc);
      asks_later = λ on runs many more some paced. no_copy guest past _ (λ r page is. cc) (λ r page n is. cc);
    })

-- the page that is copied is the least that is left
pub advance_copies_least : (guest : Guest) (now : ℕ) (old new : MachineView) (before after : List ℕ) (result : Result Advance Memory) (r page : ℕ) → AdvanceOf guest now old new before after result
    → result ≡ Ok (advance.Copied r page) → is_least_uncopied page (pages_of (last_synced old.past)) (since is_synced old.past) ≡ true
advance_copies_least guest now old new before after result r page due is =
    (copies_of guest now old.past due.legal.0).least r page (answered_as guest now old.past result (advance.Copied r page) due.answer is)

-- it is clean after the advance
pub advance_cleans : (guest : Guest) (now : ℕ) (old new : MachineView) (before after : List ℕ) (result : Result Advance Memory) (r page : ℕ) → AdvanceOf guest now old new before after result
    → result ≡ Ok (advance.Copied r page) → dirty page new.past ≡ false
advance_cleans guest now old new before after result r page due is =
    rw (left_by guest now old.past new.past result (advance.Copied r page) due.appended is)
    ((copies_of guest now old.past due.legal.0).clean r page (answered_as guest now old.past result (advance.Copied r page) due.answer is))

same_bytes_on : (guest : Guest) (page : ℕ) (past : List Event) (e : Event) (xs : List Event) → IsAdvance e → page_bytes guest page xs ≡ page_bytes guest page past → page_bytes guest page (e ∷ xs) ≡ page_bytes guest page past
same_bytes_on guest page past (Start at) xs is same = same
same_bytes_on guest page past (Asked r) xs is same = same
same_bytes_on guest page past (Synced r at pages) xs is same = same
same_bytes_on guest page past (Copied r q) xs is same = same
same_bytes_on guest page past (Throttled v us) xs is same = same
same_bytes_on guest page past Stopped xs is same = same
same_bytes_on guest page past Switched xs is same = same
same_bytes_on guest page past e xs is same = absurd is

kept_or_not : (P : List Event → Type 0) (guest : Guest) (now : ℕ) (old new : MachineView) (before after : List ℕ) (result : Result Advance Memory) → AdvanceOf guest now old new before after result → P old.past → P (advanced guest now old.past).1 → P new.past
kept_or_not P guest now old new before after (Ok a) due stays moved = subst P (sym due.appended) moved
kept_or_not P guest now old new before after (Err why) due stays moved = subst P (ap (λ (s : MachineView). s.past) (sym due.err)) stays

-- no advance changes the guest's memory
pub advance_keeps_memory : (guest : Guest) (now : ℕ) (old new : MachineView) (before after : List ℕ) (result : Result Advance Memory) (page : ℕ) → AdvanceOf guest now old new before after result
    → page_bytes guest page new.past ≡ page_bytes guest page old.past
advance_keeps_memory guest now old new before after result page due =
    kept_or_not (λ xs. page_bytes guest page xs ≡ page_bytes guest page old.past) guest now old new before after result due refl
    (by_advanced (λ xs. page_bytes guest page xs ≡ page_bytes guest page old.past) guest now old.past refl (same_bytes_on guest page old.past))

-- nor opens, pushes, deposits or resets an entry
pub advance_keeps_entries : (guest : Guest) (now : ℕ) (old new : MachineView) (before after : List ℕ) (result : Result Advance Memory) → AdvanceOf guest now old new before after result → SameEntries old.past new.past
advance_keeps_entries guest now old new before after result due =
    kept_or_not (SameEntries old.past) guest now old new before after result due
    (record { opened = λ v. refl; pushed = λ v. refl; deposited = λ v k. refl; reset = λ v. refl })
    (advanced_is_aside guest now old.past)

-- the bytes that were copied are those of the guest's memory
pub advance_copies_memory : (guest : Guest) (now : ℕ) (old new : MachineView) (before after : List ℕ) (result : Result Advance Memory) (r page : ℕ) → AdvanceOf guest now old new before after result
    → result ≡ Ok (advance.Copied r page) → after ≡ page_bytes guest page new.past
advance_copies_memory guest now old new before after result r page due is =
    subst (λ (x : Result Advance Memory). IfOk x (λ a. after ≡ copied_into guest old.past a before)) is due.into
    ∙ sym (advance_keeps_memory guest now old new before after result page due)

-- the first of the pages of zeros that are copied is the least that is left
pub advance_blanks_least : (guest : Guest) (now : ℕ) (old new : MachineView) (before after : List ℕ) (result : Result Advance Memory) (r first n : ℕ) → AdvanceOf guest now old new before after result
    → result ≡ Ok (advance.Blank r first n) → is_least_uncopied first (pages_of (last_synced old.past)) (since is_synced old.past) ≡ true
advance_blanks_least guest now old new before after result r first n due is =
    (copies_of guest now old.past due.legal.0).first r first n (answered_as guest now old.past result (advance.Blank r first n) due.answer is)

-- each of them is zero in the guest's memory
pub advance_blanks_zero : (guest : Guest) (now : ℕ) (old new : MachineView) (before after : List ℕ) (result : Result Advance Memory) (r first n k : ℕ) → AdvanceOf guest now old new before after result
    → result ≡ Ok (advance.Blank r first n) → k < n → zero_page guest (first + k) new.past ≡ true
advance_blanks_zero guest now old new before after result r first n k due is lt =
    ap is_zero (advance_keeps_memory guest now old new before after result (first + k) due)
    ∙ (copies_of guest now old.past due.legal.0).zero r first n k (answered_as guest now old.past result (advance.Blank r first n) due.answer is) lt

-- and clean after the advance
pub advance_cleans_blanks : (guest : Guest) (now : ℕ) (old new : MachineView) (before after : List ℕ) (result : Result Advance Memory) (r first n k : ℕ) → AdvanceOf guest now old new before after result
    → result ≡ Ok (advance.Blank r first n) → k < n → dirty (first + k) new.past ≡ false
advance_cleans_blanks guest now old new before after result r first n k due is lt =
    rw (left_by guest now old.past new.past result (advance.Blank r first n) due.appended is)
    ((copies_of guest now old.past due.legal.0).blank_clean r first n k (answered_as guest now old.past result (advance.Blank r first n) due.answer is) lt)
