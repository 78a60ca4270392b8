-- A reap of the schedule: whose rings it reaps, and that it makes progress.
use Rattle.std.proofs.Common.{◌≡◌, ℕ, ◌<◌, ◌≤◌, Bool, true, false, cond, List, None, refl, ap, arith, length}
use Rattle.std.specs.Prelude.{Some, nat_le}
use Rattle.std.proofs.lemmas.Bool.{eq-eqb, le-leb, lt-leb}
use Rattle.dr_types.specs.declared.guest.Guest.{Guest}
use Rattle.dr_types.specs.Scripts.{vcpu_count}
use Rattle.dr_types.specs.Validity.{IsValid}
use Rattle.dr_history.specs.declared.event.Event.{Event}
use Rattle.dr_history.specs.Legality.{IsLegalSoFar}
use Rattle.dr_history.specs.Vcpus.{is_full}
use Rattle.dr_schedule_law.specs.Reaps.{is_reaped, AreDepositedUpTo, reaped}
use Rattle.dr_schedule_law.specs.Schedule.{exited, reaps_after_full}
use Rattle.dr_schedule_law.specs.Waiting.{AwaitsReset}
use Rattle.dr_schedule_law.proofs.Progress.{reap_more_when_full, reap_more_when_unreset, full_exited}

own_case : (some : Bool) (v : ℕ) → is_reaped (cond some (Some v) None) v ≡ true
own_case true v = eq-eqb v v refl
own_case false v = refl

-- the ring of a vCPU that left with a full one is reaped
pub own_is_reaped : (guest : Guest) (v : ℕ) → is_reaped (reaps_after_full guest v) v ≡ true
own_is_reaped guest v = own_case (nat_le 1 guest.settings.quota) v

-- with a quota, it alone
pub one_is_reaped : (guest : Guest) (v : ℕ) → 1 ≤ guest.settings.quota → reaps_after_full guest v ≡ Some v
one_is_reaped guest v some = ap (λ b. cond b (Some v) None) (le-leb 1 guest.settings.quota some)

-- without one, all are
pub all_are_reaped : (guest : Guest) (v : ℕ) → guest.settings.quota ≡ 0 → reaps_after_full guest v ≡ None
all_are_reaped guest v none =
    ap (λ b. cond b (Some v) None) (lt-leb 1 guest.settings.quota (omega (arith, none)))

-- the reap after an exit with a full ring makes the events more
pub full_more : (guest : Guest) (starts : ℕ → ℕ) (past : List Event) (v : ℕ) → IsValid guest
    → v < vcpu_count guest → is_full guest v past ≡ true → IsLegalSoFar guest (exited guest v past)
    → AreDepositedUpTo guest starts (exited guest v past) → length (exited guest v past) < length
    (reaped guest (reaps_after_full guest v) (exited guest v past))
full_more guest starts past v valid lt full legal step =
    reap_more_when_full guest (reaps_after_full guest v) starts (exited guest v past) v valid legal step lt
    (own_is_reaped guest v) (full_exited guest past v full)

-- and so does the reap of all
pub unreset_more : (guest : Guest) (starts : ℕ → ℕ) (past : List Event) (v k : ℕ) → IsLegalSoFar guest past
    → AreDepositedUpTo guest starts past → AwaitsReset guest past v k
    → length past < length (reaped guest None past)
unreset_more guest starts past v k legal step awaits =
    reap_more_when_unreset guest starts past v legal step awaits.out awaits.first
