-- The least vCPU of which something holds.
use Rattle.std.specs.Prelude.{ℕ, zero, suc, Bool, not, nat_lt, if◌then◌else◌, List, Option, Some}
use Rattle.std.specs.Prelude.{None}
use Rattle.dr_types.specs.declared.guest.Guest.{Guest}
use Rattle.dr_types.specs.Scripts.{vcpu_count}
use Rattle.dr_history.specs.declared.event.Event.{Event}
use Rattle.dr_history.specs.Lookback.{before}
use Rattle.dr_history.specs.Kinds.{is_asked}
use Rattle.dr_history.specs.Entries.{opens, resets, or_else}
use Rattle.dr_history.specs.Vcpus.{paced, kicked}

-- the least number below a bound that passes
abbrev pub first_below : (ℕ → Bool) → ℕ → Option ℕ
first_below passes zero = None
first_below passes (suc n) = or_else (first_below passes n) (if passes n then Some n else None)

-- the least vCPU that has not executed enough in these events and has not halted
unfoldable pub first_unpaced : Guest → List Event → List Event → Option ℕ
first_unpaced guest recent past =
    first_below (λ v. not (paced guest v recent past)) (vcpu_count guest)

-- the least vCPU that is kicked
unfoldable pub first_kicked : Guest → List Event → Option ℕ
first_kicked guest past = first_below (λ v. kicked v past) (vcpu_count guest)

-- the least vCPU that had opened more entries when the last round was asked than it has reset
unfoldable pub first_unreset : Guest → List Event → Option ℕ
first_unreset guest past =
    first_below (λ v. nat_lt (resets v past) (opens v (before is_asked past))) (vcpu_count guest)
