-- A vCPU leaves the guest.
use Rattle.std.proofs.Common.{◌≡◌, ℕ, ◌<◌, Bool, true, false, cond, List, ◌∷◌, refl, ◌∙◌}
use Rattle.dr_types.specs.declared.guest.Guest.{Guest}
use Rattle.dr_types.specs.declared.guest.Why.{Why}
use Rattle.dr_types.specs.declared.guest.Why.TheVariants as reason
use Rattle.dr_types.specs.Scripts.{vcpu_count}
use Rattle.dr_history.specs.declared.event.Event.{Event}
use Rattle.dr_history.specs.declared.event.Event.TheVariants.{Exited}
use Rattle.dr_history.specs.Legality.{IsLegalSoFar}
use Rattle.dr_history.specs.Vcpus.{halted, stopped, kicked, in_guest, is_full, exits_for}
use Rattle.dr_history_law.specs.Room.{unpushed}
use Rattle.dr_event_law.specs.May.{MayFollow, AtRest}
use Rattle.dr_event_law.proofs.Rest.{settles}
use Rattle.dr_event_law.proofs.Outside.{inside_here}
use Rattle.dr_event_law.proofs.Legally.{exits_legally}
use Rattle.dr_turns.specs.Buffers.{all_pushed}
use Rattle.dr_turns.specs.Turns.{exit_reason}
use Rattle.dr_turns.specs.Between.{AtTurnsEnd, OthersFew}
use Rattle.dr_turns_law.proofs.Buffers.{rest_pushed, inside_pushed, none_left, all_pushed_ends}

reason_case : (h s k f : Bool) (guest : Guest) (v : ℕ) (past : List Event) → halted v past ≡ h → stopped past ≡ s → kicked v past ≡ k → is_full guest v past ≡ f
    → exits_for (cond h reason.Halted (cond s reason.Stopped (cond k reason.Kicked (cond f reason.Full reason.Yield)))) guest v past ≡ true
reason_case true s k f guest v past a b c d = a
reason_case false true k f guest v past a b c d = rw (a, b) refl
reason_case false false true f guest v past a b c d = rw (a, b, c) refl
reason_case false false false true guest v past a b c d = rw (a, b, c, d) refl
reason_case false false false false guest v past a b c d = rw (a, b, c, d) refl

-- the reason is the first that holds
pub reason_holds : (guest : Guest) (v : ℕ) (past : List Event) → exits_for (exit_reason guest v past) guest v past ≡ true
reason_holds guest v past = reason_case (halted v past) (stopped past) (kicked v past) (is_full guest v past) guest v past refl refl refl refl

-- while a vCPU is in the guest, the history is at rest between turns
pub inside_rests : (guest : Guest) (past : List Event) (v : ℕ) → v < vcpu_count guest → IsLegalSoFar guest past → AtTurnsEnd guest past → in_guest v past ≡ true → AtRest guest past
inside_rests guest past v hv legal end inside = record { rests = end.rests; here = inside_here guest past v hv legal inside }

-- between turns no buffer is full
pub ends_few : (guest : Guest) (past : List Event) (v : ℕ) → AtTurnsEnd guest past → OthersFew guest past v
ends_few guest past v end = record { few = λ u ne. end.buffers u }

-- after its buffer a vCPU leaves by the rules
pub exit_follows : (guest : Guest) (past : List Event) (v : ℕ) → v < vcpu_count guest → IsLegalSoFar guest past → AtRest guest past → in_guest v past ≡ true → MayFollow guest (all_pushed v past) (Exited v (exit_reason guest v (all_pushed v past)))
exit_follows guest past v hv legal rest inside =
    exits_legally guest (all_pushed v past) v (exit_reason guest v (all_pushed v past)) (rest_pushed guest v (unpushed v past) past rest)
    (record {
      vcpu = hv;
      inside = inside_pushed v v (unpushed v past) past ∙ inside;
      pushed = none_left guest past v legal;
      reason = reason_holds guest v (all_pushed v past);
    })

-- what it leaves is at a turn's end
pub exit_ends : (guest : Guest) (past : List Event) (v : ℕ) (why : Why) → AtRest guest past → AtTurnsEnd guest past → AtTurnsEnd guest (Exited v why ∷ all_pushed v past)
exit_ends guest past v why rest end = record {
  rests = (settles guest (all_pushed v past) (Exited v why) tt (rest_pushed guest v (unpushed v past) past rest).here).rests;
  buffers = (all_pushed_ends guest past v rest (ends_few guest past v end)).buffers;
}
