-- What holds where the advance waits.
use Rattle.std.specs.Prelude.{◌≡◌, ◌<◌, ℕ, true, false, List, Some, None, is_some}
use Rattle.std.specs.List.{list_any}
use Rattle.dr_types.specs.declared.guest.Guest.{Guest}
use Rattle.dr_types.specs.Scripts.{vcpu_count}
use Rattle.dr_history.specs.declared.event.Event.{Event}
use Rattle.dr_history.specs.Entries.{resets}
use Rattle.dr_history.specs.Kinds.{is_switched}
use Rattle.dr_history.specs.Rounds.{unanswered}
use Rattle.dr_history.specs.Vcpus.{halted, stopped, in_guest, kicked}
use Rattle.dr_turns.specs.Due.{some_closing}
use Rattle.dr_turns.specs.Firsts.{first_kicked, first_unreset}
use Rattle.dr_turns.specs.declared.answers.Advance.{Advance}
use Rattle.dr_turns.specs.declared.answers.Advance.TheVariants as advance

-- the vCPU is to execute, where all that was asked is answered: nothing refuses that, unless its
-- ring is full
pub record AwaitsOp (guest : Guest) (past : List Event) (v : ℕ) : Type 0 where
  pub vcpu : v < vcpu_count guest
  pub answered : unanswered past ≡ None
  pub unhalted : halted v past ≡ false
  pub running : stopped past ≡ false
  pub unkicked : kicked v past ≡ false

-- the vCPU is to leave: it is kicked
pub record AwaitsExit (guest : Guest) (past : List Event) (v : ℕ) : Type 0 where
  pub vcpu : v < vcpu_count guest
  pub kicked : kicked v past ≡ true
  pub inside : in_guest v past ≡ true

-- the vCPU's entry is to be reset: all are out, and it was opened before the last Asked, which has
-- no answer
pub record AwaitsReset (guest : Guest) (past : List Event) (v k : ℕ) : Type 0 where
  pub asked : is_some (unanswered past) ≡ true
  pub out : first_kicked guest past ≡ None
  pub first : first_unreset guest past ≡ Some v
  pub number : k ≡ resets v past

-- what each answer says that appends nothing
abbrev pub Awaits : Guest → List Event → Advance → Type 0
Awaits guest past (advance.NotPaced v done) = AwaitsOp guest past v
Awaits guest past (advance.NotOut v) = AwaitsExit guest past v
Awaits guest past (advance.NotReset v k) = AwaitsReset guest past v k
Awaits guest past advance.NotFlushed = some_closing guest past ≡ true
Awaits guest past advance.Finished = list_any is_switched past ≡ true
Awaits guest past answer = Unit {0}
