-- What is left of the other answers at which the migrator waits.
use Rattle.std.specs.Prelude.{None}
use Rattle.std.proofs.Common.{◌≡◌, ℕ, List, ◌∷◌, refl, ap, ◌∙◌, arith}
use Rattle.dr_types.specs.declared.guest.Guest.{Guest}
use Rattle.dr_history.specs.declared.event.Event.{Event}
use Rattle.dr_history.specs.declared.event.Event.TheVariants.{Flushed}
use Rattle.dr_history.specs.Legality.{IsLegalSoFar}
use Rattle.dr_history.specs.Times.{times}
use Rattle.dr_turns.specs.Due.{advanced}
use Rattle.dr_turns.specs.Turns.{after_exit}
use Rattle.dr_turns.specs.declared.answers.Advance.TheVariants as advance
use Rattle.dr_schedule_law.specs.Reaps.{AreDepositedUpTo, Extends, reaped}
use Rattle.dr_schedule_law.specs.Schedule.{exited}
use Rattle.dr_schedule_law.proofs.Cutting.{unreset_more}
use Rattle.dr_schedule_law.proofs.Exiting.{exited_inside}
use Rattle.dr_schedule_law.proofs.Progress.{exit_more}
use Rattle.dr_schedule_law.proofs.Scheduled.{exit_follows, reap_follows, flush_follows, reap_cut}
use Rattle.dr_schedule_law.proofs.Telling.{not_out, not_reset}
use Rattle.dr_schedule_law.proofs.Timing.{exited_times, reap_times}
use Rattle.dr_migrate.specs.Driving.{Breaks, Moves}
use Rattle.dr_migrate.proofs.Acting.{part_breaks}

-- a kicked vCPU left
pub out_moves : (guest : Guest) (now v : ℕ) (old new : List Event) → IsLegalSoFar guest old → (advanced guest now old).0 ≡ advance.NotOut v → new ≡ exited guest v old → Moves guest old new
out_moves guest now v old new legal answer is =
    let here : new ≡ after_exit guest v old = is ∙ exited_inside guest v old (not_out guest now old v legal answer).inside in
    record {
      follows = rw here (exit_follows guest now old v legal answer);
      more = rw here (exit_more guest old v);
      timeless = ap times is ∙ exited_times guest old v;
    }

-- all rings were reaped
pub reap_moves : (guest : Guest) (now v k : ℕ) (old new : List Event) (starts : ℕ → ℕ) → IsLegalSoFar guest old → AreDepositedUpTo guest starts old → (advanced guest now old).0 ≡ advance.NotReset v k → new ≡ reaped guest None old → Moves guest old new
reap_moves guest now v k old new starts legal all_deposited answer is = rw is (record {
  follows = reap_follows guest now old v k answer;
  more = unreset_more guest starts old v k legal all_deposited (not_reset guest now old v k legal answer);
  timeless = reap_times guest None old;
})

-- a first part of that was done
pub reap_breaks : (guest : Guest) (now v k : ℕ) (old new : List Event)
    → (advanced guest now old).0 ≡ advance.NotReset v k → Extends old new
    → Extends new (reaped guest None old) → Breaks guest old new
reap_breaks guest now v k old new answer begun within =
    part_breaks guest old old new (reaped guest None old) (reap_cut guest now old new v k answer begun within)
    refl (reap_times guest None old) begun within

-- what was closing was flushed
pub flush_moves : (guest : Guest) (now : ℕ) (old new : List Event) → (advanced guest now old).0 ≡ advance.NotFlushed → new ≡ Flushed ∷ old → Moves guest old new
flush_moves guest now old new answer is = rw is (record {
  follows = flush_follows guest now old answer;
  more = omega arith;
  timeless = refl;
})
