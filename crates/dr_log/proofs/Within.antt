-- A vCPU of the guest is one of the state.
use Rattle.std.proofs.Common.{◌∙◌, ◌<◌, ℕ, List, length, ap, sym, subst}
use Rattle.dr_types.specs.Scripts.{vcpu_count}
use Rattle.dr_state.specs.Scripts.{rest_of}
use Rattle.dr_state.proofs.Tables.{length-table}
use Rattle.dr_state.proofs.Turns.{length-rows}
use Rattle.dr_types.specs.declared.guest.Guest.{Guest}
use Rattle.dr_history.specs.declared.event.Event.{Event}
use Rattle.dr_state.specs.Whole.{IsStateOf}
use Rattle.dr_state.specs.declared.state_fields.State.{State}
use Rattle.dr_state.proofs.Fits.{rows_sized}

pub row_within : (guest : Guest) (past : List Event) (it : State) (v : ℕ) → IsStateOf guest past it → v < vcpu_count guest → v < length it.vcpus
row_within guest past it v h lt =
    subst (λ (n : ℕ). v < n) (sym (ap length h.are_vcpus ∙ length-rows (vcpu_count guest) past)) lt

pub reader_within : (guest : Guest) (past : List Event) (it : State) (v : ℕ) → IsStateOf guest past it → v < vcpu_count guest → v < it.running.readers.len
reader_within guest past it v h lt =
    subst (λ (n : ℕ). v < n) (sym (it.running.readers.ok.0 ∙ ap length h.is_running.are_rests ∙ length-table (rest_of guest past) (vcpu_count guest))) lt

pub held_within : (guest : Guest) (past : List Event) (it : State) (v : ℕ) → IsStateOf guest past it → v < vcpu_count guest → v < it.throttles.list.len
held_within guest past it v h lt = subst (λ (n : ℕ). v < n) (sym (it.throttles.list.ok.0 ∙ h.are_throttles.sized)) lt

pub entries_within : (guest : Guest) (past : List Event) (it : State) (v : ℕ) → IsStateOf guest past it → v < vcpu_count guest → v < it.entries.rows.len
entries_within guest past it v h lt = subst (λ (n : ℕ). v < n) (sym (it.entries.rows.ok.0 ∙ rows_sized guest past it h)) lt
