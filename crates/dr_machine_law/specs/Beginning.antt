-- What the first advance answers.
use Rattle.std.specs.Prelude.{◌≡◌, ◌<◌, ℕ, true, false, List}
use Rattle.dr_types.specs.declared.guest.Guest.{Guest}
use Rattle.dr_types.specs.Scripts.{vcpu_count}
use Rattle.dr_history.specs.declared.event.Event.{Event}
use Rattle.dr_history.specs.Execution.{ops}
use Rattle.dr_history.specs.Vcpus.{halted, paced}
use Rattle.dr_turns.specs.declared.answers.Advance.{Advance}
use Rattle.dr_turns.specs.declared.answers.Advance.TheVariants.{Started, NotPaced}

-- this is the least vCPU that has executed too few ops, so many, and hasn't halted
pub record IsFirstUnpaced (guest : Guest) (past : List Event) (v done : ℕ) : Type 0 where
  pub vcpu : v < vcpu_count guest
  pub done_are : done ≡ ops v past
  pub runs : halted v past ≡ false
  pub few : done < guest.settings.pace
  pub least : (u : ℕ) → u < v → paced guest u past past ≡ true

-- either logging began, and each vCPU is paced, or the least that isn't is named
abbrev pub BeginsOrWaits : Guest → List Event → Advance → Type 0
BeginsOrWaits guest past Started = (v : ℕ) → v < vcpu_count guest → paced guest v past past ≡ true
BeginsOrWaits guest past (NotPaced v done) = IsFirstUnpaced guest past v done
BeginsOrWaits guest past due = ⊥
