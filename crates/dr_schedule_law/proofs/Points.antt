-- What holds at each point of a legal schedule: a vCPU with a full ring for which it waits is in the guest.
use Rattle.std.proofs.Common.{◌≡◌, ℕ, true, List, [], ◌∷◌, refl, sym, subst}
use Rattle.std.proofs.lemmas.Bool.{false≢true}
use Rattle.dr_types.specs.declared.guest.Guest.{Guest}
use Rattle.dr_types.specs.Validity.{IsValid}
use Rattle.dr_history.specs.declared.event.Event.{Event}
use Rattle.dr_history.specs.Legality.{IsLegalSoFar}
use Rattle.dr_history.specs.Vcpus.{in_guest, is_full}
use Rattle.dr_turns_law.proofs.Whole.{by_advanced}
use Rattle.dr_turns.specs.declared.answers.Advance.TheVariants as advance
use Rattle.dr_turns.specs.Due.{advanced}
use Rattle.dr_schedule_law.specs.Reaps.{AreDepositedUpTo, starts_after}
use Rattle.dr_schedule_law.specs.Schedule.{Point, point, Call, block, next_block, blocks_from, Follows}
use Rattle.dr_schedule_law.specs.Schedule.Call.{rest}
use Rattle.dr_schedule_law.specs.Waiting.{AwaitsOp}
use Rattle.dr_schedule_law.proofs.KeptDeposits.{no_deposits, flush_keeps_deposits, advance_keeps_deposits, op_keeps_deposits, exited_keeps_deposits}
use Rattle.dr_schedule_law.proofs.Keeping.{by_op, by_exited, by_block}
use Rattle.dr_schedule_law.proofs.Reaped.{reap_moves_deposits}
use Rattle.dr_schedule_law.proofs.Reaping.{by_reaped}
use Rattle.dr_schedule_law.proofs.Telling.{not_paced}
use Rattle.dr_schedule_law.proofs.FullInside.{AreFullInside, HoldsThere, unused_inside, block_keeps}

-- how far each vCPU's entries are deposited
record IsDeposited (guest : Guest) (past : List Event) : Type 0 where
  starts : ℕ → ℕ
  step : AreDepositedUpTo guest starts past

block_deposits : (guest : Guest) (now : ℕ) (starts : ℕ → ℕ) (call : Call) (past : List Event)
    → IsLegalSoFar guest past → AreDepositedUpTo guest starts past
    → IsDeposited guest (block guest now call past).past
block_deposits guest now starts call past legal step =
    by_block (IsDeposited guest) guest now call past (record {
      exits = λ v. record { starts = starts; step = exited_keeps_deposits guest starts past v step };
      executes = λ v. record { starts = starts; step = op_keeps_deposits guest starts past v step };
      reaps = λ whose. record {
        starts = starts_after whose starts past;
        step = reap_moves_deposits guest whose starts past legal step;
      };
      flushes = record { starts = starts; step = flush_keeps_deposits guest starts past step };
      advances = record { starts = starts; step = advance_keeps_deposits guest starts now past step };
    })

-- before a legal block the events are legal
block_legal : (guest : Guest) (now : ℕ) (call : Call) (past : List Event)
    → IsLegalSoFar guest (block guest now call past).past → IsLegalSoFar guest past
block_legal guest now call past =
    by_block (λ (xs : List Event). IsLegalSoFar guest xs → IsLegalSoFar guest past) guest now call past
    (record {
      exits = λ v. by_exited (λ (xs : List Event). IsLegalSoFar guest xs → IsLegalSoFar guest past) guest past v
          (λ legal. legal) (λ e xs turn so legal. so legal.1);
      executes = λ v. by_op (λ (xs : List Event). IsLegalSoFar guest xs → IsLegalSoFar guest past) guest past v
          (λ legal. legal) (λ e xs turn so legal. so legal.1);
      reaps = λ whose. by_reaped (λ (xs : List Event). IsLegalSoFar guest xs → IsLegalSoFar guest past) guest
          whose past (λ legal. legal) (λ e xs is so legal. so legal.1);
      flushes = λ legal. legal.1;
      advances = by_advanced (λ (xs : List Event). IsLegalSoFar guest xs → IsLegalSoFar guest past) guest now
          past (λ legal. legal) (λ e xs is so legal. so legal.1);
    })

-- what holds at each point of a legal schedule
record IsAt (guest : Guest) (at : Point) : Type 0 where
  deposited : IsDeposited guest at.past
  holds : HoldsThere guest at

first_holds : (guest : Guest) → IsValid guest → AreFullInside guest []
first_holds guest valid = record {
  inside = λ none v lt. unused_inside guest [] v valid refl;
  still = λ some. absurd (false≢true some);
}

next_at : (guest : Guest) (now : ℕ) (at : Point) → IsValid guest → IsLegalSoFar guest at.past → IsAt guest at
    → IsAt guest (next_block guest now at)
unfolding next_block
next_at guest now at valid legal it = record {
  deposited = block_deposits guest now it.deposited.starts at.call at.past legal it.deposited.step;
  holds = block_keeps guest now it.deposited.starts at.call at.past valid legal it.deposited.step it.holds;
}

next_legal : (guest : Guest) (now : ℕ) (at : Point) → IsLegalSoFar guest (next_block guest now at).past
    → IsLegalSoFar guest at.past
unfolding next_block
next_legal guest now at = block_legal guest now at.call at.past

blocks_at : (guest : Guest) (times : List ℕ) → IsValid guest
    → IsLegalSoFar guest (blocks_from guest (point rest []) times).past
    → IsAt guest (blocks_from guest (point rest []) times)
blocks_at guest [] valid legal = record {
  deposited = record { starts = λ v. 0; step = no_deposits guest };
  holds = first_holds guest valid;
}
blocks_at guest (now ∷ times) valid legal =
    let at : Point = blocks_from guest (point rest []) times in
    let before : IsLegalSoFar guest at.past = next_legal guest now at legal in
    next_at guest now at valid before (blocks_at guest times valid before)

-- A vCPU with a full ring for which the schedule waits is in the guest.
pub full_inside : (guest : Guest) (now : ℕ) (past : List Event) (v done : ℕ) → IsValid guest
    → IsLegalSoFar guest past → Follows guest [] past
    → (advanced guest now past).0 ≡ advance.NotPaced v done → is_full guest v past ≡ true
    → in_guest v past ≡ true
full_inside guest now past v done valid legal follows is full =
    let it : IsAt guest (point rest past) =
    subst (IsAt guest) follows.blocks
    (blocks_at guest follows.times valid
    (subst (λ (p : Point). IsLegalSoFar guest p.past) (sym follows.blocks) legal)) in
    let awaits : AwaitsOp guest past v = not_paced guest now past v done legal is in
    it.holds.inside awaits.answered v awaits.vcpu full awaits.unhalted
