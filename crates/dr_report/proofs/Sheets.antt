-- A sheet with one more event is the sheet of those events.
use Rattle.std.proofs.Common.{◌≡◌, ℕ, ◌-◌, ◌<◌, true, List, ◌∷◌, map, refl, ap, sym, ◌∙◌, append_assoc}
use Rattle.std.specs.Prelude.{Option, Some, None, nat_lt}
use Rattle.std.proofs.lemmas.Bool.{ltb-true, and_parts}
use Rattle.std.proofs.lemmas.Simd.{map-map}
use Rattle.dr_types.specs.declared.guest.Guest.{Guest}
use Rattle.dr_types.specs.Scripts.{vcpu_count}
use Rattle.dr_history.specs.declared.event.Event.{Event}
use Rattle.dr_history.specs.declared.event.Event.TheVariants.{Start, Read, Write, Paint, Local, Halted, Pushed, Exited, Synced, Copied, Throttled, Switched}
use Rattle.dr_history.specs.Lookback.{below}
use Rattle.dr_history.specs.Throttles.{last_time}
use Rattle.dr_history.specs.Report.{guest_line}
use Rattle.dr_history.specs.Rules.{names_exist}
use Rattle.dr_history.specs.Legality.{IsLegalSoFar, broken}
use Rattle.dr_history_law.proofs.Kept.{keeps}
use Rattle.dr_report.specs.declared.tally.Tally.{Tally}
use Rattle.dr_report.specs.Tallies.{vcpu_of, begun, answered, tally_of}
use Rattle.dr_report.specs.Answers.{last_answer, answer_text}
use Rattle.dr_report.specs.Draft.{Sheet, after, sheet_of, closed_answers}
use Rattle.dr_report.proofs.Counted.{tallied_with}

abbrev of_some : ℕ → Option ℕ → ℕ
of_some d None = d
of_some d (Some v) = v

some_same : (v w : ℕ) → Some v ≡ Some w → v ≡ w
some_same v w e = ap (of_some 0) e

named_is : (n v w : ℕ) → nat_lt w n ≡ true → Some w ≡ Some v → v < n
named_is n v w h e = rw (sym (some_same w v e)) (ltb-true w n h)

-- the vCPU of an event is one of the guest
pub named : (guest : Guest) (past : List Event) (e : Event) (v : ℕ) → broken guest past e ≡ None → vcpu_of e ≡ Some v → v < vcpu_count guest
unfolding names_exist
named guest past (Read w i space address value) v h is = named_is (vcpu_count guest) v w (and_parts _ _ (keeps guest past (Read w i space address value) h).names_exist_holds).0 is
named guest past (Write w i space address len value) v h is = named_is (vcpu_count guest) v w (and_parts _ _ (keeps guest past (Write w i space address len value) h).names_exist_holds).0 is
named guest past (Paint w i page byte) v h is = named_is (vcpu_count guest) v w (and_parts _ _ (keeps guest past (Paint w i page byte) h).names_exist_holds).0 is
named guest past (Local w i) v h is = named_is (vcpu_count guest) v w (keeps guest past (Local w i) h).names_exist_holds is
named guest past (Halted w i) v h is = named_is (vcpu_count guest) v w (keeps guest past (Halted w i) h).names_exist_holds is
named guest past (Pushed w k) v h is = named_is (vcpu_count guest) v w (keeps guest past (Pushed w k) h).names_exist_holds is
named guest past (Exited w why) v h is = named_is (vcpu_count guest) v w (keeps guest past (Exited w why) h).names_exist_holds is
named guest past (Throttled w us) v h is = named_is (vcpu_count guest) v w (keeps guest past (Throttled w us) h).names_exist_holds is
named guest past e v h is = cc

with_tallies : Sheet → List Tally → Sheet
with_tallies s tallies = record s { tallies = tallies }

with_text : Sheet → List ℕ → Sheet
with_text s text = record s { text = text }

-- the sheet with one more event
pub sheet_after : (guest : Guest) (e : Event) (past : List Event) → IsLegalSoFar guest (e ∷ past) → after e (sheet_of guest past) ≡ sheet_of guest (e ∷ past)
unfolding with_tallies with_text
sheet_after guest (Start at) past legal = ap (with_tallies (sheet_of guest (Start at ∷ past))) (map-map begun (tally_of past) (below (vcpu_count guest)))
sheet_after guest (Synced r at pages) past legal =
    let lines : List ℕ = answer_text (map (tally_of past) (below (vcpu_count guest))) (last_answer past) in
    ap (with_tallies (after (Synced r at pages) (sheet_of guest past))) (map-map (answered (at - last_time past)) (tally_of past) (below (vcpu_count guest)))
    ∙ ap (with_text (sheet_of guest (Synced r at pages ∷ past))) (append_assoc (guest_line guest) (closed_answers (vcpu_count guest) past) lines)
sheet_after guest (Copied r page) past legal = refl
sheet_after guest Switched past legal = refl
sheet_after guest (Read v i space address value) past legal =
    ap (with_tallies (sheet_of guest (Read v i space address value ∷ past))) (tallied_with (Read v i space address value) past (vcpu_count guest) v refl refl (named guest past (Read v i space address value) v legal.0 refl))
sheet_after guest (Write v i space address len value) past legal =
    ap (with_tallies (sheet_of guest (Write v i space address len value ∷ past))) (tallied_with (Write v i space address len value) past (vcpu_count guest) v refl refl (named guest past (Write v i space address len value) v legal.0 refl))
sheet_after guest (Paint v i page byte) past legal =
    ap (with_tallies (sheet_of guest (Paint v i page byte ∷ past))) (tallied_with (Paint v i page byte) past (vcpu_count guest) v refl refl (named guest past (Paint v i page byte) v legal.0 refl))
sheet_after guest (Local v i) past legal =
    ap (with_tallies (sheet_of guest (Local v i ∷ past))) (tallied_with (Local v i) past (vcpu_count guest) v refl refl (named guest past (Local v i) v legal.0 refl))
sheet_after guest (Halted v i) past legal =
    ap (with_tallies (sheet_of guest (Halted v i ∷ past))) (tallied_with (Halted v i) past (vcpu_count guest) v refl refl (named guest past (Halted v i) v legal.0 refl))
sheet_after guest (Pushed v k) past legal =
    ap (with_tallies (sheet_of guest (Pushed v k ∷ past))) (tallied_with (Pushed v k) past (vcpu_count guest) v refl refl (named guest past (Pushed v k) v legal.0 refl))
sheet_after guest (Exited v why) past legal =
    ap (with_tallies (sheet_of guest (Exited v why ∷ past))) (tallied_with (Exited v why) past (vcpu_count guest) v refl refl (named guest past (Exited v why) v legal.0 refl))
sheet_after guest (Throttled v us) past legal =
    ap (with_tallies (sheet_of guest (Throttled v us ∷ past))) (tallied_with (Throttled v us) past (vcpu_count guest) v refl refl (named guest past (Throttled v us) v legal.0 refl))
sheet_after guest e past legal = refl
