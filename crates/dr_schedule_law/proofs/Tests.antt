-- The tests by which a run ends by its budget.
use Rattle.std.proofs.Common.{◌≡◌, ◌≤◌, Bool, true, false, cond, List, is_some, refl}
use Rattle.std.specs.Prelude.{◌&&◌, not, nat_le}
use Rattle.std.specs.List.{list_any}
use Rattle.std.proofs.lemmas.Bool.{le-leb, leb-true}
use Rattle.dr_types.specs.declared.guest.Guest.{Guest}
use Rattle.dr_history.specs.declared.event.Event.{Event}
use Rattle.dr_history.specs.Kinds.{is_switched}
use Rattle.dr_history.specs.Protection.{started}
use Rattle.dr_history.specs.Rounds.{asks, unanswered, last_synced, few_answered}
use Rattle.dr_history.specs.Vcpus.{stopped}
use Rattle.dr_turns.specs.declared.answers.RunEnd.{RunEnd}
use Rattle.dr_turns.specs.declared.answers.RunEnd.TheVariants as end
use Rattle.dr_turns.specs.Due.{page_to_copy, is_spent, run_end}

-- nothing is asked or left to copy, the last answer has too many pages, and no round is left
pub record NoneIsLeft (guest : Guest) (past : List Event) : Type 0 where
  pub begun : started past ≡ true
  pub answered : is_some (unanswered past) ≡ false
  pub copied : is_some (page_to_copy guest past) ≡ false
  pub here : list_any is_switched past ≡ false
  pub running : stopped past ≡ false
  pub large : few_answered guest (last_synced past) ≡ false
  pub asked : guest.settings.rounds ≤ asks past

-- where these tests hold together, each does
parts : (a b c d e f g : Bool) → (a && not b && not c && not d && not e && not f && g) ≡ true
    → (a ≡ true) × (b ≡ false) × (c ≡ false) × (d ≡ false) × (e ≡ false) × (f ≡ false) × (g ≡ true)
parts true false false false false false true h = (refl, refl, refl, refl, refl, refl, refl)
parts a b c d e f g h = cc

spent_parts : (guest : Guest) (past : List Event) → is_spent guest past ≡ true → NoneIsLeft guest past
unfolding is_spent
spent_parts guest past h =
    let p =
    parts (started past) (is_some (unanswered past)) (is_some (page_to_copy guest past))
    (list_any is_switched past) (stopped past) (few_answered guest (last_synced past))
    (nat_le guest.settings.rounds (asks past)) h in
    record {
      begun = p.0;
      answered = p.1;
      copied = p.2;
      here = p.3;
      running = p.4;
      large = p.5;
      asked = leb-true guest.settings.rounds (asks past) p.6;
    }

spent_from : (guest : Guest) (past : List Event) → NoneIsLeft guest past → is_spent guest past ≡ true
unfolding is_spent
spent_from guest past s =
    let enough : nat_le guest.settings.rounds (asks past) ≡ true =
    le-leb guest.settings.rounds (asks past) s.asked in
    rw (s.begun, s.answered, s.copied, s.here, s.running, s.large, enough) refl

budget_case : (switched spent : Bool)
    → cond {A = RunEnd} switched end.Switched (cond spent end.Budget end.Open) ≡ end.Budget → spent ≡ true
budget_case true spent h = cc
budget_case false true h = refl
budget_case false false h = cc

-- a run that ends by its budget passes each test
pub none_left : (guest : Guest) (past : List Event) → run_end guest past ≡ end.Budget → NoneIsLeft guest past
none_left guest past h =
    spent_parts guest past (budget_case (list_any is_switched past) (is_spent guest past) h)

-- a run that passes each test ends by its budget
pub ends_by_budget : (guest : Guest) (past : List Event) → NoneIsLeft guest past
    → run_end guest past ≡ end.Budget
ends_by_budget guest past s = rw (s.here, spent_from guest past s) refl
