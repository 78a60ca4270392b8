-- What is named where a round isn't answered yet, and what is copied, is the least of its kind.
use Rattle.std.proofs.Common.{◌≡◌, ℕ, ◌≤◌, true, List, Some, ap, ◌∙◌, arith}
use Rattle.std.specs.Prelude.{nat_lt, refl}
use Rattle.std.proofs.lemmas.Bool.{eq-eqb, lt-ltb, le-ltb, ltb-true, ltb-false}
use Rattle.dr_types.specs.declared.guest.Guest.{Guest}
use Rattle.dr_types.specs.Scripts.{vcpu_count}
use Rattle.dr_history.specs.declared.event.Event.{Event}
use Rattle.dr_history.specs.Lookback.{before, since, is_number}
use Rattle.dr_history.specs.Kinds.{is_asked, is_synced}
use Rattle.dr_history.specs.Entries.{opens, resets}
use Rattle.dr_history.specs.Legality.{IsLegalSoFar}
use Rattle.dr_history.specs.Rounds.{last_synced, is_least_uncopied}
use Rattle.dr_history_law.specs.Copies.{pages_of}
use Rattle.dr_history_law.proofs.Copies.{next_copy}
use Rattle.dr_history_law.proofs.Covered.{reset_below}
use Rattle.dr_turns.specs.Due.{page_to_copy}
use Rattle.dr_turns.specs.Firsts.{first_unreset}
use Rattle.dr_turns_law.proofs.Found.{first_some}
use Rattle.dr_turns_law.specs.Advances.{IsLeastUnreset}
use Rattle.dr_turns_law.proofs.Copying.{left_place}

-- the entry that is named where a round isn't answered yet is the least that was opened before the last Asked and
-- isn't reset
pub unreset_is_least : (guest : Guest) (past : List Event) (v : ℕ) → IsLegalSoFar guest past → first_unreset guest past ≡ Some v → IsLeastUnreset guest past v
unfolding first_unreset
unreset_is_least guest past v legal h =
    let found = first_some (λ u. nat_lt (resets u past) (opens u (before is_asked past))) (vcpu_count guest) v h in
    record {
      vcpu = found.1;
      opened = ltb-true (resets v past) (opens v (before is_asked past)) found.0;
      missing = reset_below guest past v (resets v past) legal ∙ le-ltb (resets v past) (resets v past) (omega arith);
      below = λ k lt. reset_below guest past v k legal ∙ lt-ltb k (resets v past) lt;
      lesser = λ w k less lt.
          let all : opens w (before is_asked past) ≤ resets w past = ltb-false (resets w past) (opens w (before is_asked past)) (found.2 w less) in
          reset_below guest past w k legal ∙ lt-ltb k (resets w past) (omega (arith, all, lt));
    }

-- the page that is left is the least of the last answer's pages without a copy since
pub left_is_least : (guest : Guest) (past : List Event) (page : ℕ) → IsLegalSoFar guest past → page_to_copy guest past ≡ Some page → is_least_uncopied page (pages_of (last_synced past)) (since is_synced past) ≡ true
left_is_least guest past page legal h =
    next_copy guest past page legal
    ∙ ap (is_number page) (left_place guest past (last_synced past) page h)
    ∙ eq-eqb page page refl
