-- A legal history has a bounded number of events.
use Rattle.std.proofs.Common.{◌≡◌, ℕ, ◌+◌, ◌*◌, ◌≤◌, Bool, true, false, cond, List, [], ◌∷◌, None, length, refl, arith}
use Rattle.std.specs.Prelude.{◌||◌}
use Rattle.std.specs.List.{list_any}
use Rattle.std.proofs.lemmas.Bool.{and_parts, not-true, false≢true, true≢false}
use Rattle.std.proofs.Math.Nat.{mul-le-mul_left}
use Rattle.dr_types.specs.declared.guest.Guest.{Guest}
use Rattle.dr_types.specs.Pages.{page_count}
use Rattle.dr_types.specs.Scripts.{vcpu_count, op_count}
use Rattle.dr_history.specs.declared.event.Event.{Event}
use Rattle.dr_history.specs.declared.event.Event.TheVariants.{Start, Stopped}
use Rattle.dr_history.specs.Kinds.{is_start, is_copied, is_stopped, is_switched}
use Rattle.dr_history.specs.Lookback.{count}
use Rattle.dr_history.specs.Vcpus.{stopped}
use Rattle.dr_history.specs.Rules.{last_owes_write, stops_when_few}
use Rattle.dr_history.specs.Legality.{IsLegalSoFar, broken}
use Rattle.dr_history_law.specs.Length.{script_length}
use Rattle.dr_history_law.proofs.Kept.{keeps, starts_facts, unswitched}
use Rattle.dr_history_law.proofs.Length.{stays_in_script}
use Rattle.dr_history_law.proofs.Order.{reset_pushed}
use Rattle.dr_schedule_law.specs.Bound.{most_events, most_rounds}
use Rattle.dr_schedule_law.specs.Counts.{flag, answers, vcpu_events, migrator_events}
use Rattle.dr_schedule_law.proofs.Sums.{flag_few, sum_linear, sum_scripts}
use Rattle.dr_schedule_law.proofs.DepositCounts.{deposits_few}
use Rattle.dr_schedule_law.proofs.VcpuCounts.{pushes_few, exits_few}
use Rattle.dr_schedule_law.proofs.RoundCounts.{rounds_few, answers_few, throttles_few, copied_few}
use Rattle.dr_schedule_law.proofs.Account.{all_events, accounted}

-- a vCPU has at most seven events for each op, and a Throttled for each round
vcpu_few : (guest : Guest) (past : List Event) (v : ℕ) → IsLegalSoFar guest past
    → vcpu_events v past ≤ 7 * script_length guest v + most_rounds guest
vcpu_few guest past v legal =
    omega (
      arith,
      stays_in_script guest past v legal,
      pushes_few guest past v legal,
      exits_few guest past v legal,
      deposits_few guest past v legal,
      reset_pushed guest past v legal,
      throttles_few guest past v legal,
      answers_few guest past legal,
      rounds_few guest past legal,
    )

vcpus_few : (guest : Guest) (past : List Event) → IsLegalSoFar guest past
    → all_events guest past ≤ 7 * op_count guest.scripts + vcpu_count guest * most_rounds guest
vcpus_few guest past legal =
    omega (
      arith,
      sum_scripts guest.scripts,
      sum_linear (vcpu_count guest) 7 (most_rounds guest) (λ v. vcpu_events v past) (script_length guest)
          (λ v. vcpu_few guest past v legal),
    )

once_case : (new had : Bool) (n : ℕ) → (new ≡ true → had ≡ false) → n ≤ flag had
    → cond new (n + 1) n ≤ flag (new || had)
once_case true true n f h = absurd (true≢false (f refl))
once_case true false n f h = omega arith
once_case false had n f h = h

-- what comes only where none came before comes once
once : (f : Event → Bool) (guest : Guest) (past : List Event)
    → ((e : Event) (earlier : List Event) → f e ≡ true → broken guest earlier e ≡ None
    → list_any f earlier ≡ false)
    → IsLegalSoFar guest past → count f past ≤ flag (list_any f past)
once f guest [] first legal = omega arith
once f guest (e ∷ past) first legal =
    once_case (f e) (list_any f past) (count f past) (λ is. first e past is legal.0)
    (once f guest past first legal.1)

start_first : (guest : Guest) (e : Event) (earlier : List Event) → is_start e ≡ true
    → broken guest earlier e ≡ None → list_any is_start earlier ≡ false
start_first guest (Start at) earlier is h = starts_facts guest earlier at h
start_first guest e earlier is h = absurd (false≢true is)

stop_first : (guest : Guest) (e : Event) (earlier : List Event) → is_stopped e ≡ true
    → broken guest earlier e ≡ None → list_any is_stopped earlier ≡ false
unfolding stops_when_few
stop_first guest Stopped earlier is h =
    not-true (stopped earlier)
    (and_parts _ _ (and_parts _ _ (keeps guest earlier Stopped h).stops_when_few_holds).0).0
stop_first guest e earlier is h = absurd (false≢true is)

-- the migrator has an Asked, a Synced and the copies for each round, and a Start, a Stopped and a Switched
migrator_few : (guest : Guest) (past : List Event) → IsLegalSoFar guest past
    → migrator_events past ≤ (page_count guest + 2) * most_rounds guest + 3
migrator_few guest past legal =
    let answered : answers past ≤ most_rounds guest =
    omega (arith, answers_few guest past legal, rounds_few guest past legal) in
    let copied : count is_copied past ≤ page_count guest * most_rounds guest =
    omega (arith, copied_few guest past legal, mul-le-mul_left (page_count guest) answered) in
    omega (
      arith,
      answered,
      copied,
      rounds_few guest past legal,
      once is_start guest past (start_first guest) legal,
      flag_few (list_any is_start past),
      once is_stopped guest past (stop_first guest) legal,
      flag_few (list_any is_stopped past),
      once is_switched guest past (λ e earlier is h. unswitched guest earlier e h) legal,
      flag_few (list_any is_switched past),
    )

-- a legal history has no more events than the guest's bound
pub events_bounded : (guest : Guest) (past : List Event) → IsLegalSoFar guest past
    → length past ≤ most_events guest
unfolding most_events
events_bounded guest past legal =
    omega (
      arith,
      accounted guest past legal,
      vcpus_few guest past legal,
      migrator_few guest past legal,
      flag_few (last_owes_write past),
    )
