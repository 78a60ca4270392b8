-- Which vCPUs are kicked.
use Rattle.std.proofs.Common.{◌≡◌, ℕ, ◌<◌, Bool, true, false, cond, List, [], ◌∷◌, None, refl}
use Rattle.std.specs.Prelude.{◌==◌}
use Rattle.std.proofs.lemmas.Bool.{and_parts, not-true, or_right}
use Rattle.dr_types.specs.declared.guest.Guest.{Guest}
use Rattle.dr_types.specs.Scripts.{vcpu_count}
use Rattle.dr_history.specs.declared.event.Event.{Event}
use Rattle.dr_history.specs.declared.event.Event.TheVariants.{Read, Write, Paint, Local, Halted, Exited, Asked, Synced}
use Rattle.dr_history.specs.Legality.{IsLegalSoFar, broken}
use Rattle.dr_history.specs.Rounds.{unanswered}
use Rattle.dr_history.specs.Rules.{answers_covered}
use Rattle.dr_history.specs.Vcpus.{in_guest, kicked, some_kicked}
use Rattle.dr_history_law.proofs.Kept.{keeps}
use Rattle.dr_history_law.proofs.Listing.{none_below}

-- at an answer nobody is kicked
none_kicked : (guest : Guest) (past : List Event) (r at : ℕ) (pages : List ℕ)
    → broken guest past (Synced r at pages) ≡ None → some_kicked guest past ≡ false
unfolding answers_covered
none_kicked guest past r at pages h =
    not-true (some_kicked guest past)
    (and_parts _ _
    (and_parts _ _ (and_parts _ _ (keeps guest past (Synced r at pages) h).answers_covered_holds).0).0).1

out_case : (same kicks : Bool) → kicks ≡ false → cond same false kicks ≡ false
out_case true kicks h = refl
out_case false kicks h = h

-- where all that was asked is answered nobody is kicked
pub answered_unkicked : (guest : Guest) (past : List Event) (v : ℕ) → v < vcpu_count guest
    → IsLegalSoFar guest past → unanswered past ≡ None → kicked v past ≡ false
answered_unkicked guest [] v hv legal none = refl
answered_unkicked guest (Asked r ∷ past) v hv legal none = cc
answered_unkicked guest (Synced r at pages ∷ past) v hv legal none =
    none_below (λ u. kicked u past) (vcpu_count guest) v (none_kicked guest past r at pages legal.0) hv
answered_unkicked guest (Exited w why ∷ past) v hv legal none =
    out_case (w == v) (kicked v past) (answered_unkicked guest past v hv legal.1 none)
answered_unkicked guest (e ∷ past) v hv legal none = answered_unkicked guest past v hv legal.1 none

exit_case : (same inside kicks : Bool) → (kicks ≡ true → inside ≡ true) → cond same false kicks ≡ true
    → cond same false inside ≡ true
exit_case true inside kicks f h = h
exit_case false inside kicks f h = f h

-- a kicked vCPU is in the guest
pub kicked_inside : (past : List Event) (v : ℕ) → kicked v past ≡ true → in_guest v past ≡ true
kicked_inside [] v h = h
kicked_inside (Asked r ∷ past) v h = h
kicked_inside (Exited w why ∷ past) v h =
    exit_case (w == v) (in_guest v past) (kicked v past) (kicked_inside past v) h
kicked_inside (Read w i space a x ∷ past) v h = or_right (w == v) (in_guest v past) (kicked_inside past v h)
kicked_inside (Write w i space a l x ∷ past) v h = or_right (w == v) (in_guest v past) (kicked_inside past v h)
kicked_inside (Paint w i q b ∷ past) v h = or_right (w == v) (in_guest v past) (kicked_inside past v h)
kicked_inside (Local w i ∷ past) v h = or_right (w == v) (in_guest v past) (kicked_inside past v h)
kicked_inside (Halted w i ∷ past) v h = or_right (w == v) (in_guest v past) (kicked_inside past v h)
kicked_inside (e ∷ past) v h = kicked_inside past v h
