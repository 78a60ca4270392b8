-- A vCPU leaves the guest.
use Rattle.std.proofs.Common.{◌≡◌, ℕ, ◌<◌, true, List}
use Rattle.dr_types.specs.declared.guest.Guest.{Guest}
use Rattle.dr_types.specs.declared.guest.Why.{Why}
use Rattle.dr_types.specs.Scripts.{vcpu_count}
use Rattle.dr_history.specs.declared.event.Event.{Event}
use Rattle.dr_history.specs.declared.event.Event.TheVariants.{Exited}
use Rattle.dr_history.specs.Legality.{IsLegalSoFar}
use Rattle.dr_history.specs.Vcpus.{in_guest}
use Rattle.dr_event_law.specs.May.{MayFollow}
use Rattle.dr_turns.specs.Between.{AtTurnsEnd}
use Rattle.dr_turns.specs.Buffers.{all_pushed}
use Rattle.dr_turns.specs.Turns.{exit_reason}
use Rattle.dr_turns_law.proofs.Leaving.{inside_rests, exit_follows}

-- after its whole buffer it leaves by the rules
pub leaves_here : (guest : Guest) (past now : List Event) (v : ℕ) (why : Why) → v < vcpu_count guest → IsLegalSoFar guest past → AtTurnsEnd guest past → in_guest v past ≡ true → now ≡ all_pushed v past → why ≡ exit_reason guest v now → MayFollow guest now (Exited v why)
leaves_here guest past now v why lt legal end inside is reason =
    rw (reason, is) (exit_follows guest past v lt legal (inside_rests guest past v lt legal end inside) inside)
