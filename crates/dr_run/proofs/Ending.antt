-- What a drive leaves, by its end.
use Rattle.std.proofs.Common.{◌≡◌, ℕ, true, List, [], ◌∷◌, ◌++◌, Result, Ok, Err, All, refl, ap, sym, subst, ◌∙◌}
use Rattle.std.proofs.lemmas.List.{append-nil}
use Rattle.std.specs.Prelude.{IfOk, OnOk, OnErr}
use Rattle.std.specs.List.{list_any}
use Rattle.dr_types.specs.declared.guest.Guest.{Guest}
use Rattle.dr_history.specs.declared.event.Event.{Event}
use Rattle.dr_history.specs.declared.event.Event.TheVariants.{Switched}
use Rattle.dr_history.specs.Kinds.{is_switched}
use Rattle.dr_history.specs.Legality.{IsLegalSoFar}
use Rattle.dr_history.specs.Times.{times}
use Rattle.dr_history_law.proofs.Kept.{unswitched}
use Rattle.dr_turns.specs.declared.answers.RunEnd.{RunEnd}
use Rattle.dr_turns.specs.declared.answers.RunEnd.TheVariants as end
use Rattle.dr_bench.specs.declared.bench.BenchFault.{BenchFault}
use Rattle.dr_bench.specs.declared.bench.BenchFault.TheVariants as fault
use Rattle.dr_schedule_law.specs.Schedule.{Follows, CutAtTurn, IsScheduled}
use Rattle.dr_schedule_law.proofs.Scheduled.{following_is_scheduled}
use Rattle.dr_migrate.specs.Driving.{AddsRead, IsEnd}
use Rattle.dr_run.specs.declared.outcome.OutcomeEnd.{OutcomeEnd}
use Rattle.dr_run.specs.declared.outcome.OutcomeEnd.TheVariants as outcome
use Rattle.dr_run.specs.Outcomes.{EndsAs, StandsAs, end_of_drive, ends_switched}

-- nothing follows the switch-over
last_is : (guest : Guest) (past : List Event) → IsLegalSoFar guest past → list_any is_switched past ≡ true → ends_switched past ≡ true
last_is guest [] legal is = cc
last_is guest (Switched ∷ past) legal is = refl
last_is guest (e ∷ past) legal is = let no = unswitched guest past e legal.0 in cc

from_first : (guest : Guest) (first past : List Event) → first ≡ [] → Follows guest first past
    → IsScheduled guest past
from_first guest first past none it = following_is_scheduled guest past
    (subst (λ (xs : List Event). Follows guest xs past) none it)

cut_first : (guest : Guest) (first past : List Event) → first ≡ [] → CutAtTurn guest first past
    → CutAtTurn guest [] past
cut_first guest first past none cut = subst (λ (xs : List Event). CutAtTurn guest xs past) none cut

-- the events are as the end of the drive says, which began before any
pub ends_as : (guest : Guest) (first past : List Event) (r : Result RunEnd BenchFault) → first ≡ []
    → IsLegalSoFar guest past → IfOk r (IsEnd guest past) → OnOk r (Follows guest first past)
    → OnErr r (CutAtTurn guest first past) → EndsAs (end_of_drive r) guest past
ends_as guest first past (Ok end.Switched) none legal is follows cut =
    record { last = last_is guest past legal is; scheduled = from_first guest first past none follows }
ends_as guest first past (Ok end.Budget) none legal is follows cut =
    record { spent = is; scheduled = from_first guest first past none follows }
ends_as guest first past (Ok end.Open) none legal is follows cut = absurd is
ends_as guest first past (Err fault.Sink) none legal is follows cut = cut_first guest first past none cut
ends_as guest first past (Err fault.Memory) none legal is follows cut = cut_first guest first past none cut

-- the run stands at the end of the drive, wherever that began
pub stands_as : (guest : Guest) (past : List Event) (r : Result RunEnd BenchFault) → IsLegalSoFar guest past
    → IfOk r (IsEnd guest past) → StandsAs (end_of_drive r) guest past
stands_as guest past (Ok end.Switched) legal is = last_is guest past legal is
stands_as guest past (Ok end.Budget) legal is = is
stands_as guest past (Ok end.Open) legal is = absurd is
stands_as guest past (Err fault.Sink) legal is = tt
stands_as guest past (Err fault.Memory) legal is = tt

-- .. and so where the events are as an end says
pub ends_stand : (guest : Guest) (past : List Event) (e : OutcomeEnd) → EndsAs e guest past → StandsAs e guest past
ends_stand guest past outcome.Switched ends = ends.last
ends_stand guest past outcome.Budget ends = ends.spent
ends_stand guest past outcome.Sink ends = tt
ends_stand guest past outcome.Memory ends = tt

-- the times that a drive added before any event are all
pub all_read : (reads : ℕ → Type 0) (first past : List Event) → first ≡ [] → AddsRead reads first past
    → All reads (times past)
all_read reads first past none it =
    let parts : times past ≡ it.added ++ [] =
    it.parts ∙ ap (λ (xs : List Event). it.added ++ times xs) none in
    subst (All reads) (sym (parts ∙ append-nil it.added)) it.read
