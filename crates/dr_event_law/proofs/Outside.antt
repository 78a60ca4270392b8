-- After the answer that follows the stop no vCPU is in the guest.
use Rattle.std.proofs.Common.{◌≡◌, ℕ, ◌<◌, Bool, true, false, cond, List, [], ◌∷◌, is_some, refl, sym, ◌∙◌}
use Rattle.std.specs.Prelude.{◌==◌}
use Rattle.std.specs.List.{list_any}
use Rattle.std.proofs.lemmas.Bool.{true≢false, false≢true}
use Rattle.dr_types.specs.declared.guest.Guest.{Guest}
use Rattle.dr_types.specs.Scripts.{vcpu_count}
use Rattle.dr_history.specs.declared.event.Event.{Event}
use Rattle.dr_history.specs.declared.event.Event.TheVariants.{Read, Write, Paint, Local, Halted, Exited, Asked, Synced, Stopped, Switched}
use Rattle.dr_history.specs.Lookback.{since}
use Rattle.dr_history.specs.Kinds.{is_stopped, is_asked, is_synced, is_switched}
use Rattle.dr_history.specs.Vcpus.{stopped, in_guest, kicked, some_kicked}
use Rattle.dr_history.specs.Rounds.{unanswered}
use Rattle.dr_history.specs.Rules.{vcpu_of_op, answers_covered}
use Rattle.dr_history.specs.Legality.{IsLegalSoFar, broken}
use Rattle.dr_history_law.proofs.Kept.{Switches, keeps, op_facts, stops_facts, switches_facts, syncs_facts, unswitched}
use Rattle.dr_history_law.proofs.Switch.{number_some}
use Rattle.dr_history_law.proofs.Listing.{none_below}
use Rattle.std.specs.Prelude.{Some, None}
use Rattle.std.proofs.lemmas.Bool.{and_parts, not-true}

both_ways : (b : Bool) → b ≡ true → b ≡ false → ⊥
both_ways b t f = true≢false (sym t ∙ f)

-- at an answer nobody is kicked
none_kicked : (guest : Guest) (past : List Event) (r at : ℕ) (pages : List ℕ) → broken guest past (Synced r at pages) ≡ None → some_kicked guest past ≡ false
unfolding answers_covered
none_kicked guest past r at pages h =
    not-true (some_kicked guest past) (and_parts _ _ (and_parts _ _ (and_parts _ _ (keeps guest past (Synced r at pages) h).answers_covered_holds).0).0).1

-- after the stop nobody executes
no_op : (guest : Guest) (past : List Event) (e : Event) (v : ℕ) → broken guest past e ≡ None → vcpu_of_op e ≡ Some v → stopped past ≡ true → ⊥
no_op guest past e v kept is s = both_ways (stopped past) s (op_facts guest past e v kept is).running

-- an Asked without its answer came after the stop
asked_since : (guest : Guest) (past : List Event) → IsLegalSoFar guest past → stopped past ≡ true → is_some (unanswered past) ≡ true → list_any is_asked (since is_stopped past) ≡ true
asked_since guest [] legal s u = cc
asked_since guest (Stopped ∷ past) legal s u = absurd (both_ways (is_some (unanswered past)) u (stops_facts guest past legal.0))
asked_since guest (Asked r ∷ past) legal s u = refl
asked_since guest (Synced r at pages ∷ past) legal s u = cc
asked_since guest (e ∷ past) legal s u = asked_since guest past legal.1 s u

exit_case : (same inside kicks : Bool) → (inside ≡ true → kicks ≡ true) → cond same false inside ≡ true → cond same false kicks ≡ true
exit_case true inside kicks f h = cc
exit_case false inside kicks f h = f h

-- who is in the guest after an Asked that follows the stop is kicked
inside_kicked : (guest : Guest) (past : List Event) (v : ℕ) → IsLegalSoFar guest past → stopped past ≡ true → list_any is_asked (since is_stopped past) ≡ true → in_guest v past ≡ true → kicked v past ≡ true
inside_kicked guest [] v legal s a h = cc
inside_kicked guest (Stopped ∷ past) v legal s a h = cc
inside_kicked guest (Asked r ∷ past) v legal s a h = h
inside_kicked guest (Exited w why ∷ past) v legal s a h = exit_case (w == v) (in_guest v past) (kicked v past) (inside_kicked guest past v legal.1 s a) h
inside_kicked guest (Read w i space x y ∷ past) v legal s a h = absurd (no_op guest past (Read w i space x y) w legal.0 refl s)
inside_kicked guest (Write w i space x l y ∷ past) v legal s a h = absurd (no_op guest past (Write w i space x l y) w legal.0 refl s)
inside_kicked guest (Paint w i q b ∷ past) v legal s a h = absurd (no_op guest past (Paint w i q b) w legal.0 refl s)
inside_kicked guest (Local w i ∷ past) v legal s a h = absurd (no_op guest past (Local w i) w legal.0 refl s)
inside_kicked guest (Halted w i ∷ past) v legal s a h = absurd (no_op guest past (Halted w i) w legal.0 refl s)
inside_kicked guest (e ∷ past) v legal s a h = inside_kicked guest past v legal.1 s a h

not_true : (b : Bool) → (b ≡ true → ⊥) → b ≡ false
not_true true f = absurd (f refl)
not_true false f = refl

out_case : (same inside : Bool) → inside ≡ false → cond same false inside ≡ false
out_case true inside h = refl
out_case false inside h = h

-- after the answer that follows the stop nobody is in the guest
pub out_at_stop : (guest : Guest) (past : List Event) (v : ℕ) → v < vcpu_count guest → IsLegalSoFar guest past → stopped past ≡ true → list_any is_synced (since is_stopped past) ≡ true → in_guest v past ≡ false
out_at_stop guest [] v hv legal s a = refl
out_at_stop guest (Stopped ∷ past) v hv legal s a = cc
out_at_stop guest (Synced r at pages ∷ past) v hv legal s a =
    let asked : list_any is_asked (since is_stopped past) ≡ true = asked_since guest past legal.1 s (number_some r (unanswered past) (syncs_facts guest past r at pages legal.0).asked) in
    let calm : kicked v past ≡ false = none_below (λ u. kicked u past) (vcpu_count guest) v (none_kicked guest past r at pages legal.0) hv in
    not_true (in_guest v past) (λ h. both_ways (kicked v past) (inside_kicked guest past v legal.1 s asked h) calm)
out_at_stop guest (Exited w why ∷ past) v hv legal s a = out_case (w == v) (in_guest v past) (out_at_stop guest past v hv legal.1 s a)
out_at_stop guest (Read w i space x y ∷ past) v hv legal s a = absurd (no_op guest past (Read w i space x y) w legal.0 refl s)
out_at_stop guest (Write w i space x l y ∷ past) v hv legal s a = absurd (no_op guest past (Write w i space x l y) w legal.0 refl s)
out_at_stop guest (Paint w i q b ∷ past) v hv legal s a = absurd (no_op guest past (Paint w i q b) w legal.0 refl s)
out_at_stop guest (Local w i ∷ past) v hv legal s a = absurd (no_op guest past (Local w i) w legal.0 refl s)
out_at_stop guest (Halted w i ∷ past) v hv legal s a = absurd (no_op guest past (Halted w i) w legal.0 refl s)
out_at_stop guest (e ∷ past) v hv legal s a = out_at_stop guest past v hv legal.1 s a

-- the switch-over is the last event, and what its rule asks holds before it
pub at_switch : (guest : Guest) (past : List Event) (G : List Event → Type 0) → IsLegalSoFar guest past → list_any is_switched past ≡ true → ((earlier : List Event) → IsLegalSoFar guest earlier → broken guest earlier Switched ≡ None → Switches guest earlier → G (Switched ∷ earlier)) → G past
at_switch guest [] G legal h f = absurd (false≢true h)
at_switch guest (Switched ∷ past) G legal h f = f past legal.1 legal.0 (switches_facts guest past legal.0)
at_switch guest (e ∷ past) G legal h f = absurd (both_ways (list_any is_switched past) h (unswitched guest past e legal.0))

-- who is in the guest shows that it has not switched
pub inside_here : (guest : Guest) (past : List Event) (v : ℕ) → v < vcpu_count guest → IsLegalSoFar guest past → in_guest v past ≡ true → list_any is_switched past ≡ false
inside_here guest past v hv legal h =
    not_true (list_any is_switched past) (λ s.
    both_ways (in_guest v past) h
    (at_switch guest past (λ (xs : List Event). in_guest v xs ≡ false) legal s (λ earlier before _ facts. out_at_stop guest earlier v hv before facts.stopped facts.answered)))
