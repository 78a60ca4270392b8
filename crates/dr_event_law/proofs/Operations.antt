-- A vCPU's next operation as an event.
use Rattle.std.proofs.Common.{◌≡◌, ℕ, ◌%◌, ◌<◌, true, List, Option, Some, None, is_some, refl, ap, sym, ◌∙◌}
use Rattle.std.specs.Prelude.{◌==◌}
use Rattle.std.proofs.lemmas.Bool.{lt-ltb, eq-eqb, and_parts, false≢true}
use Rattle.dr_types.specs.declared.guest.Guest.{Guest}
use Rattle.dr_types.specs.declared.guest.Op.{Op}
use Rattle.dr_types.specs.declared.guest.Op.TheVariants as op
use Rattle.dr_types.specs.Pages.{page_count, page_of_address}
use Rattle.dr_types.specs.Scripts.{operation, vcpu_count}
use Rattle.dr_history.specs.declared.event.Event.{Event}
use Rattle.dr_history.specs.declared.event.Event.TheVariants.{Read, Local, Halted}
use Rattle.dr_history.specs.Memory.{page_bytes, loaded}
use Rattle.dr_history.specs.Execution.{ops, acc}
use Rattle.dr_history.specs.Rules.{names_exist, reads_memory, write_is_cached, is_value_at, in_one_page, vcpu_of_op, may_end}
use Rattle.dr_event_law.specs.May.{MayFollow, MayRun, WritesNext}
use Rattle.dr_event_law.specs.Operations.{loaded_from, value_at, op_event, op_page, OpFits}
use Rattle.dr_event_law.proofs.Rest.{rest_follows}
use Rattle.dr_event_law.proofs.Legally.{runs_legally}

same : (n : ℕ) → (n == n) ≡ true
same n = eq-eqb n n refl

no_page : (place : Option ℕ) → place ≡ None → is_some place ≡ true → ⊥
no_page place h s = false≢true (sym (ap (λ (o : Option ℕ). is_some o) h) ∙ s)

one_page : (guest : Guest) (space address len : ℕ) → in_one_page guest space address len ≡ true → is_some (page_of_address guest space address) ≡ true
one_page guest space address len h = (and_parts _ _ h).0

value_case : (guest : Guest) (past : List Event) (at : ℕ) (place : Option ℕ) → is_some place ≡ true → is_value_at guest past at place (loaded_from guest past at place) ≡ true
value_case guest past at None h = absurd (false≢true h)
value_case guest past at (Some page) h = same (loaded (page_bytes guest page past) at)

-- an operation that writes a page
pub op_writes : (guest : Guest) (past : List Event) (v page : ℕ) (o : Op) → v < vcpu_count guest → page < page_count guest → operation guest v (ops v past) ≡ Some o → OpFits guest o → op_page guest o ≡ Some page → WritesNext guest past v page (op_event guest v past o)
unfolding names_exist
op_writes guest past v page (op.W space address len value) hv hp is fits place = record {
  is_of = refl;
  names = rw (lt-ltb v (vcpu_count guest) hv) fits;
  next = rw (is, same (ops v past), same space, same address, same len, same value) refl;
  writes = rw (same v, place, same page) refl;
}
op_writes guest past v page (op.F space frame byte) hv hp is fits place = record {
  is_of = refl;
  names = rw (place, lt-ltb v (vcpu_count guest) hv, lt-ltb page (page_count guest) hp) refl;
  next = rw (is, place, same (ops v past), same page, same byte) refl;
  writes = rw (place, same v, same page) refl;
}
op_writes guest past v page (op.S space address) hv hp is fits place = record {
  is_of = refl;
  names = rw (lt-ltb v (vcpu_count guest) hv) fits;
  next = rw (is, same (ops v past), same space, same address, same (acc guest v past)) refl;
  writes = rw (same v, place, same page) refl;
}
op_writes guest past v page (op.R space address) hv hp is fits place = cc
op_writes guest past v page (op.A n) hv hp is fits place = cc
op_writes guest past v page (op.Nap us) hv hp is fits place = cc
op_writes guest past v page op.Halt hv hp is fits place = cc

-- an operation that writes none
pub op_quiet : (guest : Guest) (past : List Event) (v : ℕ) (o : Op) → v < vcpu_count guest → may_end guest past ≡ true → MayRun guest past v → operation guest v (ops v past) ≡ Some o → OpFits guest o → op_page guest o ≡ None → MayFollow guest past (op_event guest v past o)
unfolding names_exist reads_memory write_is_cached value_at
op_quiet guest past v (op.W space address len value) hv rests run is fits place = absurd (no_page _ place (one_page guest space address len fits))
op_quiet guest past v (op.F space frame byte) hv rests run is fits place = absurd (no_page _ place fits)
op_quiet guest past v (op.S space address) hv rests run is fits place = absurd (no_page _ place (one_page guest space address 8 fits))
op_quiet guest past v (op.R space address) hv rests run is fits place =
    let e : Event = Read v (ops v past) space address (value_at guest past space address) in
    runs_legally guest past (Read v (ops v past) space address (value_at guest past space address)) v refl run (rest_follows guest past e rests)
    (rw (lt-ltb v (vcpu_count guest) hv) fits) (rw (is, same (ops v past), same space, same address) refl)
    (value_case guest past (address % 4096) (page_of_address guest space address) (one_page guest space address 8 fits)) refl
op_quiet guest past v (op.A n) hv rests run is fits place =
    runs_legally guest past (Local v (ops v past)) v refl run (rest_follows guest past (Local v (ops v past)) rests)
    (lt-ltb v (vcpu_count guest) hv) (rw (is, same (ops v past)) refl) refl refl
op_quiet guest past v (op.Nap us) hv rests run is fits place =
    runs_legally guest past (Local v (ops v past)) v refl run (rest_follows guest past (Local v (ops v past)) rests)
    (lt-ltb v (vcpu_count guest) hv) (rw (is, same (ops v past)) refl) refl refl
op_quiet guest past v op.Halt hv rests run is fits place =
    runs_legally guest past (Halted v (ops v past)) v refl run (rest_follows guest past (Halted v (ops v past)) rests)
    (lt-ltb v (vcpu_count guest) hv) (rw (is, same (ops v past)) refl) refl refl

-- each operation is an event of its vCPU
pub op_of : (guest : Guest) (past : List Event) (v : ℕ) (o : Op) → vcpu_of_op (op_event guest v past o) ≡ Some v
op_of guest past v (op.W space address len value) = refl
op_of guest past v (op.F space frame byte) = refl
op_of guest past v (op.R space address) = refl
op_of guest past v (op.A n) = refl
op_of guest past v (op.S space address) = refl
op_of guest past v (op.Nap us) = refl
op_of guest past v op.Halt = refl
