-- What the turn of a vCPU and a reap leave as they were: the other vCPUs, and the rounds.
use Rattle.std.proofs.Common.{◌≡◌, ℕ, ◌+◌, ◌-◌, ◌≤◌, Bool, true, false, cond, List, ◌∷◌, Some, refl, sym, subst, ◌∙◌, arith}
use Rattle.std.specs.Prelude.{◌==◌, ◌||◌, not}
use Rattle.std.proofs.lemmas.Bool.{true≢false}
use Rattle.dr_types.specs.declared.guest.Guest.{Guest}
use Rattle.dr_history.specs.declared.event.Event.{Event}
use Rattle.dr_history.specs.declared.event.Event.TheVariants.{Read, Write, Paint, Local, Halted, Pushed, Exited, Deposited, Reset, Flushed, Asked, Synced}
use Rattle.dr_history.specs.Entries.{opens, pushes, resets, used}
use Rattle.dr_history.specs.Kinds.{is_asked}
use Rattle.dr_history.specs.Lookback.{before}
use Rattle.dr_history.specs.Rounds.{unanswered}
use Rattle.dr_history.specs.Vcpus.{halted, in_guest}
use Rattle.dr_history_law.specs.Room.{unpushed}
use Rattle.dr_turns_law.proofs.Buffers.{opens_pushed}
use Rattle.dr_turns.specs.Turns.{after_exit}
use Rattle.dr_schedule_law.specs.Reaps.{IsReap}
use Rattle.dr_schedule_law.proofs.Keeping.{turn_of, by_exit}

-- from these events to those the vCPU uses no more entries, and is where it was
pub record IsAside (u : ℕ) (old new : List Event) : Type 0 where
  pub uses : used u new ≤ used u old
  pub halts : halted u new ≡ halted u old
  pub stays : in_guest u new ≡ in_guest u old

-- where no event came
pub aside_still : (u : ℕ) (past : List Event) → IsAside u past past
aside_still u past = record { uses = omega arith; halts = refl; stays = refl }

other_vcpu : (w v u : ℕ) → Some w ≡ Some v → (v == u) ≡ false → (w == u) ≡ false
other_vcpu w v u is not = let same : w ≡ v = cc in subst (λ (n : ℕ). (n == u) ≡ false) (sym same) not

or_case : (a b : Bool) → a ≡ false → (a || b) ≡ b
or_case true b h = absurd (true≢false h)
or_case false b h = refl

exit_case : (same inside : Bool) → same ≡ false → cond same false inside ≡ inside
exit_case true inside h = absurd (true≢false h)
exit_case false inside h = refl

push_case : (same : Bool) (p r n : ℕ) → same ≡ false → p - r ≤ n → cond same (p + 1) p - r ≤ n
push_case true p r n h le = absurd (true≢false h)
push_case false p r n h le = le

reset_case : (same : Bool) (p r n : ℕ) → p - r ≤ n → p - cond same (r + 1) r ≤ n
reset_case true p r n le = omega (arith, le)
reset_case false p r n le = le

-- the turn of another vCPU leaves it aside
pub turn_aside : (v u : ℕ) (old : List Event) → (v == u) ≡ false → (e : Event) (xs : List Event)
    → turn_of e ≡ Some v → IsAside u old xs → IsAside u old (e ∷ xs)
turn_aside v u old not (Read w i space a x) xs is it = record {
  uses = it.uses;
  halts = it.halts;
  stays = or_case (w == u) (in_guest u xs) (other_vcpu w v u is not) ∙ it.stays;
}
turn_aside v u old not (Write w i space a l x) xs is it = record {
  uses = it.uses;
  halts = it.halts;
  stays = or_case (w == u) (in_guest u xs) (other_vcpu w v u is not) ∙ it.stays;
}
turn_aside v u old not (Paint w i q b) xs is it = record {
  uses = it.uses;
  halts = it.halts;
  stays = or_case (w == u) (in_guest u xs) (other_vcpu w v u is not) ∙ it.stays;
}
turn_aside v u old not (Local w i) xs is it = record {
  uses = it.uses;
  halts = it.halts;
  stays = or_case (w == u) (in_guest u xs) (other_vcpu w v u is not) ∙ it.stays;
}
turn_aside v u old not (Halted w i) xs is it = record {
  uses = it.uses;
  halts = or_case (w == u) (halted u xs) (other_vcpu w v u is not) ∙ it.halts;
  stays = or_case (w == u) (in_guest u xs) (other_vcpu w v u is not) ∙ it.stays;
}
turn_aside v u old not (Pushed w k) xs is it = record {
  uses = push_case (w == u) (pushes u xs) (resets u xs) (used u old) (other_vcpu w v u is not) it.uses;
  halts = it.halts;
  stays = it.stays;
}
turn_aside v u old not (Exited w why) xs is it = record {
  uses = it.uses;
  halts = it.halts;
  stays = exit_case (w == u) (in_guest u xs) (other_vcpu w v u is not) ∙ it.stays;
}
turn_aside v u old not (Reset w k) xs is it = cc
turn_aside v u old not e xs is it = record { uses = it.uses; halts = it.halts; stays = it.stays }

-- and a reap leaves each aside
pub reap_aside : (u : ℕ) (old : List Event) (e : Event) (xs : List Event) → IsReap e → IsAside u old xs
    → IsAside u old (e ∷ xs)
reap_aside u old (Deposited w from to) xs is it = record { uses = it.uses; halts = it.halts; stays = it.stays }
reap_aside u old (Reset w k) xs is it = record {
  uses = reset_case (w == u) (pushes u xs) (resets u xs) (used u old) it.uses;
  halts = it.halts;
  stays = it.stays;
}
reap_aside u old Flushed xs is it = record { uses = it.uses; halts = it.halts; stays = it.stays }
reap_aside u old e xs is it = absurd is

-- from these events to those no round is asked or answered
pub record IsSameRound (old new : List Event) : Type 0 where
  pub answers : unanswered new ≡ unanswered old
  pub asks : before is_asked new ≡ before is_asked old

-- where no event came
pub round_still : (past : List Event) → IsSameRound past past
round_still past = record { answers = refl; asks = refl }

-- in the turn of a vCPU none is
pub turn_round : (v : ℕ) (old : List Event) (e : Event) (xs : List Event) → turn_of e ≡ Some v
    → IsSameRound old xs → IsSameRound old (e ∷ xs)
turn_round v old (Asked r) xs is it = cc
turn_round v old (Synced r at pages) xs is it = cc
turn_round v old e xs is it = record { answers = it.answers; asks = it.asks }

-- no round is asked or answered, and no entry is opened
pub record IsStill (old new : List Event) : Type 0 where
  pub round : IsSameRound old new
  pub opened : (u : ℕ) → opens u new ≡ opens u old

-- so it is in a reap
pub reap_still : (old : List Event) (e : Event) (xs : List Event) → IsReap e → IsStill old xs → IsStill old (e ∷ xs)
reap_still old (Deposited w from to) xs is it =
    record { round = record { answers = it.round.answers; asks = it.round.asks }; opened = it.opened }
reap_still old (Reset w k) xs is it =
    record { round = record { answers = it.round.answers; asks = it.round.asks }; opened = it.opened }
reap_still old Flushed xs is it =
    record { round = record { answers = it.round.answers; asks = it.round.asks }; opened = it.opened }
reap_still old e xs is it = absurd is

-- and at an exit
pub exit_still : (guest : Guest) (past : List Event) (v : ℕ) → IsStill past (after_exit guest v past)
exit_still guest past v = record {
  round = by_exit (IsSameRound past) guest past v (round_still past) (turn_round v past);
  opened = λ u. opens_pushed v u (unpushed v past) past;
}
