-- The turns that deposit nothing leave a collector in step.
use Rattle.std.proofs.Common.{◌≡◌, ℕ, List, [], ◌∷◌, map, length, Option, Some, None, ap, sym, ◌∙◌, subst, arith, slice_get, option_map}
use Rattle.std.proofs.lemmas.List.{length-map}
use Rattle.std.proofs.lemmas.Option.{same_Some, slice_get-map}
use Rattle.dr_types.specs.declared.guest.Guest.{Guest}
use Rattle.dr_types.specs.Scripts.{vcpu_count}
use Rattle.dr_history.specs.declared.event.Event.{Event}
use Rattle.dr_history.specs.declared.event.Event.TheVariants.{Flushed}
use Rattle.dr_ring.specs.Seats.{UserView}
use Rattle.dr_collector.specs.Collected.{Collected, begun}
use Rattle.dr_collector.proofs.Seating.{is_there}
use Rattle.dr_turns.specs.Due.{advanced}
use Rattle.dr_turns.specs.Turns.{after_op, after_exit}
use Rattle.dr_schedule_law.specs.Reaps.{AreFirstDeposited, AreDepositedUpTo}
use Rattle.dr_schedule_law.proofs.KeptDeposits.{no_deposits, op_keeps_deposits, exit_keeps_deposits, advance_keeps_deposits, flush_keeps_deposits}
use Rattle.dr_reap.specs.Harvests as harvests
use Rattle.dr_reap.specs.Harvests.{handed_out, handed_of}
use Rattle.dr_reap.proofs.Batches.{in_numbers}

-- after other events, where the numbers are the same
still_deposited : (guest : Guest) (past new : List Event) (collected : List Collected)
    → harvests.AllDeposited guest past collected
    → (AreDepositedUpTo guest (handed_of collected) past → AreDepositedUpTo guest (handed_of collected) new)
    → harvests.AllDeposited guest new collected
still_deposited guest past new collected first on =
    let now = on (in_numbers guest past collected first) in
    record {
      each = λ v lt.
          let at = first.each v lt in
          (at.0, at.1, subst (λ (o : Option Collected). AreFirstDeposited v (handed_out o) new) at.1 (now.each v lt));
    }

begun_none : (o : Option UserView) (x : Collected) → option_map begun o ≡ Some x → x.handed ≡ 0
begun_none None x is = absurd cc
begun_none (Some u) x is = ap (λ (y : Collected). y.handed) (sym (same_Some (begun u) x is))

-- before anything happened, with a collector that handed out nothing
pub begins_all_deposited : (guest : Guest) (users : List UserView) → length users ≡ vcpu_count guest
    → harvests.AllDeposited guest [] (map begun users)
begins_all_deposited guest users all = record {
  each = λ v lt.
      let at = is_there (map begun users) v (omega (arith, length-map users begun, all, lt)) in
      let none : at.0.handed ≡ 0 = begun_none (slice_get users v) at.0 (sym (slice_get-map begun users v) ∙ at.1) in
      (at.0, at.1, subst (λ (n : ℕ). AreFirstDeposited v n []) (sym none) ((no_deposits guest).each v lt));
}

-- an op, with the pushes after it
pub op_keeps_all : (guest : Guest) (v : ℕ) (past : List Event) (collected : List Collected)
    → harvests.AllDeposited guest past collected → harvests.AllDeposited guest (after_op guest v past) collected
op_keeps_all guest v past collected first =
    still_deposited guest past (after_op guest v past) collected first
    (op_keeps_deposits guest (handed_of collected) past v)

-- an exit
pub exit_keeps_all : (guest : Guest) (v : ℕ) (past : List Event) (collected : List Collected)
    → harvests.AllDeposited guest past collected → harvests.AllDeposited guest (after_exit guest v past) collected
exit_keeps_all guest v past collected first =
    still_deposited guest past (after_exit guest v past) collected first
    (exit_keeps_deposits guest (handed_of collected) past v)

-- an advance
pub advance_keeps_all : (guest : Guest) (now : ℕ) (past : List Event) (collected : List Collected)
    → harvests.AllDeposited guest past collected → harvests.AllDeposited guest (advanced guest now past).1 collected
advance_keeps_all guest now past collected first =
    still_deposited guest past (advanced guest now past).1 collected first
    (advance_keeps_deposits guest (handed_of collected) now past)

-- a flush
pub flush_keeps_all : (guest : Guest) (past : List Event) (collected : List Collected)
    → harvests.AllDeposited guest past collected → harvests.AllDeposited guest (Flushed ∷ past) collected
flush_keeps_all guest past collected first =
    still_deposited guest past (Flushed ∷ past) collected first (flush_keeps_deposits guest (handed_of collected) past)
