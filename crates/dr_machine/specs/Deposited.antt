-- What the deposit of a batch answers, and what it leaves.
use Rattle.std.specs.Prelude.{◌≡◌, ◌+◌, ℕ, ◌∷◌, length}
use Rattle.std.specs.Prelude.{Some, None, Result, Err, IfErr, OnOk, OnErr}
use Rattle.dr_history.specs.declared.event.Event.TheVariants.{Deposited}
use Rattle.dr_ring_set.specs.declared.batch.Batch.{Batch}
use Rattle.dr_turns_law.specs.Deposits.{first_twice}
use Rattle.dr_machine.specs.declared.deposits.DepositFault.{DepositFault}
use Rattle.dr_machine.specs.declared.deposits.DepositFault.TheVariants as fault
use Rattle.dr_machine.specs.Views.{MachineView}

-- the number after the batch's last entry
abbrev pub end_of : {N : Type 0} {name : _} → Batch N name → ℕ
end_of batch = batch.first + length batch.entries

-- The batch's entries are deposited; or it comes back, with its first entry that was deposited
-- before where there is one, else for want of memory. Then nothing changes.
pub record DepositTurn {N : Type 0} {name : _} (batch : Batch N name)
    (answer : Result Unit (DepositFault N name)) (old new : MachineView) : Type 0 where
  pub twice : (k : ℕ) → first_twice batch.vcpu batch.first old.past (end_of batch) ≡ Some k
      → answer ≡ Err (fault.Twice batch k)
  pub fault : first_twice batch.vcpu batch.first old.past (end_of batch) ≡ None
      → IfErr answer (λ why. why ≡ fault.Memory batch)
  pub appended : OnOk answer
      (new.past ≡ Deposited batch.vcpu batch.first (end_of batch) ∷ old.past)
  pub over : new.over ≡ old.over
  pub err : OnErr answer (new ≡ old)
