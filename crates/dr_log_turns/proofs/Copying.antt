-- Pages of zeros are copied one after the other.
use Rattle.std.proofs.Common.{◌≡◌, ℕ, ◌+◌, ◌<◌, ◌≤◌, List, ◌∷◌, Some, None, ap, sym, ◌∙◌, arith, add-one}
use Rattle.dr_types.specs.declared.guest.Guest.{Guest}
use Rattle.dr_types.specs.Pages.{page_count}
use Rattle.dr_history.specs.declared.event.Event.{Event}
use Rattle.dr_history.specs.declared.event.Event.TheVariants.{Copied}
use Rattle.dr_history.specs.Legality.{IsLegalSoFar}
use Rattle.dr_history.specs.Rounds.{unanswered, last_synced}
use Rattle.dr_turns.specs.Between.{AtTurnsEnd}
use Rattle.dr_turns.specs.Due.{page_to_copy, zeros_to_copy, copies_from, round_of}
use Rattle.dr_turns_law.proofs.Cases.{CopyDue}
use Rattle.dr_turns_law.proofs.Together.{run_due, run_within, run_fits, same_synced}
use Rattle.dr_turns_law.proofs.Whole.{run_stands}

-- so many of these pages are copied, and here the next one may be
pub record IsInRun (guest : Guest) (past now : List Event) (first k : ℕ) : Type 0 where
  pub end : AtTurnsEnd guest now
  pub answered : unanswered now ≡ None
  pub next : page_to_copy guest now ≡ Some (first + k)
  pub within : first + k < page_count guest
  pub more : Copied (round_of (last_synced now)) (first + k) ∷ now ≡ copies_from (round_of (last_synced past)) first (k + 1) past

in_run : (guest : Guest) (past : List Event) (first k : ℕ) → IsLegalSoFar guest past → AtTurnsEnd guest past → CopyDue guest past first → k < zeros_to_copy guest past first → IsInRun guest past (copies_from (round_of (last_synced past)) first k past) first k
in_run guest past first k legal end due lt =
    let r = round_of (last_synced past) in
    let here = run_due guest past r first k due lt in record {
      end = (run_stands guest past first k due (omega (arith, lt)) legal end).1;
      answered = here.answered;
      next = here.next;
      within = run_within guest past first k legal lt;
      more = ap (λ q. Copied q (first + k) ∷ copies_from r first k past) (ap round_of (same_synced r first k past))
          ∙ ap (λ n. copies_from r first n past) (sym (add-one k));
    }

-- as the loop's invariant has it
pub in_run_here : (guest h : Guest) (past now : List Event) (first k : ℕ) → h ≡ guest → now ≡ copies_from (round_of (last_synced past)) first k past → IsLegalSoFar guest past → AtTurnsEnd guest past → CopyDue guest past first → k < zeros_to_copy guest past first → IsInRun h past now first k
in_run_here guest h past now first k same is legal end due lt = rw (same, is) (in_run guest past first k legal end due lt)

-- how many there are has room in a page number
pub run_few : (guest : Guest) (past : List Event) (first count : ℕ) → IsLegalSoFar guest past → zeros_to_copy guest past first ≡ count → 1 ≤ count → count ≤ page_count guest
run_few guest past first count legal is some =
    let fits : first + zeros_to_copy guest past first ≤ page_count guest = run_fits guest past first legal (omega (arith, is, some)) in
    omega (arith, is, fits)
