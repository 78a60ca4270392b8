-- The machine's beginning, and the first advance.
use Rattle.std.proofs.Common.{◌≡◌, ℕ, ◌≤◌, ◌<◌, true, false, List, [], ◌∷◌, refl, arith}
use Rattle.std.specs.Prelude.{◌&&◌, nat_le, None}
use Rattle.dr_types.specs.declared.guest.Guest.{Guest}
use Rattle.dr_types.specs.Scripts.{vcpu_count, op_count}
use Rattle.dr_types.specs.Validity.{IsValid}
use Rattle.dr_history.specs.declared.event.Event.{Event}
use Rattle.dr_history.specs.declared.event.Event.TheVariants.{Start}
use Rattle.dr_history.specs.Execution.{ops}
use Rattle.dr_history.specs.Legality.{IsLegalSoFar}
use Rattle.dr_history.specs.Protection.{started}
use Rattle.dr_history.specs.Vcpus.{paced, all_paced}
use Rattle.dr_history_law.specs.Length.{script_length}
use Rattle.dr_history_law.proofs.Length.{stays_in_script}
use Rattle.dr_history_law.proofs.Limits.{script_in_total}
use Rattle.dr_event_law.specs.May.{MayFollow}
use Rattle.dr_event_law.proofs.Legally.{starts_legally}
use Rattle.dr_event_law.proofs.Rest.{settles, unowed}
use Rattle.dr_event_law.proofs.Rounds.{unstarted_here}
use Rattle.dr_turns.specs.Between.{AtTurnsEnd}
use Rattle.dr_turns.specs.Firsts.{first_unpaced}
use Rattle.dr_turns_law.proofs.Found.{none_fails}

-- before any event no write and no throttle is owed, and no buffer is full
pub begins_at_end : (guest : Guest) → AtTurnsEnd guest []
begins_at_end guest = record { rests = unowed (nat_le 1 guest.settings.quota && true) None refl; buffers = λ v. omega arith }

-- where no vCPU is found that isn't paced, each is
pub none_unpaced : (guest : Guest) (recent past : List Event) → first_unpaced guest recent past ≡ None → all_paced guest recent past ≡ true
unfolding first_unpaced
none_unpaced guest recent past h = none_fails (λ v. paced guest v recent past) (vcpu_count guest) h

-- logging begins by the rules where each vCPU is paced
pub start_follows : (guest : Guest) (past : List Event) (at : ℕ) → IsLegalSoFar guest past → AtTurnsEnd guest past → started past ≡ false → first_unpaced guest past past ≡ None → MayFollow guest past (Start at)
start_follows guest past at legal end fresh paced =
    starts_legally guest past at (record { rests = end.rests; here = unstarted_here guest past legal fresh }) (record { fresh = fresh; paced = none_unpaced guest past past paced })

-- what it leaves is at a turn's end
pub start_ends : (guest : Guest) (past : List Event) (at : ℕ) → IsLegalSoFar guest past → AtTurnsEnd guest past → started past ≡ false → AtTurnsEnd guest (Start at ∷ past)
start_ends guest past at legal end fresh = record { rests = (settles guest past (Start at) tt (unstarted_here guest past legal fresh)).rests; buffers = end.buffers }

-- a vCPU executes no more than the operations that a valid guest may have
pub few_ops : (guest : Guest) (v : ℕ) (past : List Event) → IsValid guest → IsLegalSoFar guest past → v < vcpu_count guest → ops v past ≤ 200000
few_ops guest v past valid legal lt =
    let own : ops v past ≤ script_length guest v = stays_in_script guest past v legal in
    let all : script_length guest v ≤ op_count guest.scripts = script_in_total guest.scripts v in
    let few : op_count guest.scripts ≤ 200000 = valid.ops in
    omega arith
