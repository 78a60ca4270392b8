-- The last throttles, through each turn.
use Rattle.std.proofs.Common.{◌≡◌, ℕ, zero, suc, ◌+◌, ◌<◌, Bool, true, false, not, List, [], ◌∷◌, length, replicate, refl, ap, sym, subst, ◌∙◌, arith, cond, get_or}
use Rattle.std.specs.Prelude.{◌==◌, ◌&&◌, nat_le, Some}
use Rattle.std.proofs.lemmas.Bool.{eqb-true, eqb-false, true≢false}
use Rattle.std.proofs.lemmas.List.{get_or-replicate, get_or-set_same, get_or-set_other, length-replicate}
use Rattle.std.proofs.Math.ListN.{set, length-set}
use Rattle.dr_types.specs.declared.guest.Guest.{Guest}
use Rattle.dr_types.specs.Scripts.{vcpu_count}
use Rattle.dr_history.specs.declared.event.Event.{Event}
use Rattle.dr_history.specs.declared.event.Event.TheVariants.{Read, Write, Paint, Local, Halted, Opened, Filled, Pushed, Exited, Deposited, Reset, Flushed, Start, Asked, Synced, Copied, Throttled, Stopped, Switched}
use Rattle.dr_history.specs.Dirty.{dirty_pages}
use Rattle.dr_history.specs.Entries.{opens}
use Rattle.dr_history.specs.Rules.{vcpu_of_op}
use Rattle.dr_history.specs.Throttles.{throttle}
use Rattle.dr_history.specs.Vcpus.{stopped}
use Rattle.dr_history_law.specs.Room.{unpushed}
use Rattle.dr_turns.specs.Buffers.{pushed_after, all_pushed}
use Rattle.dr_history.specs.Rounds.{last_synced}
use Rattle.dr_turns.specs.Due.{advanced, throttled_after, copies_from, round_of}
use Rattle.dr_turns.specs.declared.answers.Advance.{Advance}
use Rattle.dr_turns.specs.declared.answers.Advance.TheVariants as advance
use Rattle.dr_turns_law.proofs.Cases.{IsWait, advanced_cases}
use Rattle.dr_turns.specs.Turns.{executed, after_op, after_exit}
use Rattle.dr_turns_law.proofs.Executing.{by_executed}
use Rattle.dr_log_turns.specs.Throttled.{last_throttle, AreThrottles, SameThrottles, IsNoThrottle, AreTaken, is_answer, throttles_all, FollowThrottles}

by_test : (b : Bool) (P : Type 0) → (b ≡ true → P) → (b ≡ false → P) → P
by_test true P f g = f refl
by_test false P f g = g refl

-- nothing happened
pub none_since : (past : List Event) → SameThrottles past past
none_since past = record { each = λ v. refl }

then_none : (a b d : List Event) → SameThrottles a b → SameThrottles b d → SameThrottles a d
then_none a b d p q = record { each = λ v. q.each v ∙ p.each v }

-- an event that throttles no vCPU
pub quiet_event : (e : Event) (past : List Event) → IsNoThrottle e → SameThrottles past (e ∷ past)
quiet_event (Read v i space a x) past is = record { each = λ u. refl }
quiet_event (Write v i space a l x) past is = record { each = λ u. refl }
quiet_event (Paint v i p b) past is = record { each = λ u. refl }
quiet_event (Local v i) past is = record { each = λ u. refl }
quiet_event (Halted v i) past is = record { each = λ u. refl }
quiet_event (Opened v k p) past is = record { each = λ u. refl }
quiet_event (Filled v p) past is = record { each = λ u. refl }
quiet_event (Pushed v k) past is = record { each = λ u. refl }
quiet_event (Exited v why) past is = record { each = λ u. refl }
quiet_event (Deposited v a b) past is = record { each = λ u. refl }
quiet_event (Reset v k) past is = record { each = λ u. refl }
quiet_event Flushed past is = record { each = λ u. refl }
quiet_event (Start at) past is = record { each = λ u. refl }
quiet_event (Asked r) past is = record { each = λ u. refl }
quiet_event (Synced r at pages) past is = record { each = λ u. refl }
quiet_event (Copied r p) past is = record { each = λ u. refl }
quiet_event (Throttled v us) past is = absurd is
quiet_event Stopped past is = record { each = λ u. refl }
quiet_event Switched past is = record { each = λ u. refl }

op_throttles_none : (e : Event) (v : ℕ) → vcpu_of_op e ≡ Some v → IsNoThrottle e
op_throttles_none (Throttled w us) v is = cc
op_throttles_none e v is = tt

pushes_throttle_none : (v n : ℕ) (past : List Event) → SameThrottles past (pushed_after v n past)
pushes_throttle_none v zero past = none_since past
pushes_throttle_none v (suc n) past = record { each = (pushes_throttle_none v n past).each }

-- the lists go on where no vCPU was throttled since
pub throttles_stay : (guest : Guest) (old new : List Event) (throttles : List ℕ) → AreThrottles guest old throttles → SameThrottles old new → AreThrottles guest new throttles
throttles_stay guest old new throttles are same = record { count = are.count; each = λ v lt. are.each v lt ∙ sym (same.each v) }

executed_throttles_none : (guest : Guest) (v : ℕ) (past : List Event) → SameThrottles past (executed guest v past)
executed_throttles_none guest v past =
    by_executed (λ (xs : List Event). SameThrottles past xs) guest past v
    (λ none. none_since past)
    (λ e is. quiet_event e past (op_throttles_none e v is))
    (λ e page is. then_none past (Filled v page ∷ past) (e ∷ Filled v page ∷ past) (record { each = λ u. refl }) (quiet_event e (Filled v page ∷ past) (op_throttles_none e v is)))
    (λ e page is. then_none past (Opened v (opens v past) page ∷ past) (e ∷ Opened v (opens v past) page ∷ past) (record { each = λ u. refl }) (quiet_event e (Opened v (opens v past) page ∷ past) (op_throttles_none e v is)))

full_case : (test : Bool) (v : ℕ) (past : List Event) → SameThrottles past (cond test (all_pushed v past) past)
full_case true v past = pushes_throttle_none v (unpushed v past) past
full_case false v past = none_since past

-- the turn of a vCPU throttles none
pub op_throttles : (guest : Guest) (v : ℕ) (past : List Event) → SameThrottles past (after_op guest v past)
op_throttles guest v past =
    then_none past (executed guest v past) (after_op guest v past) (executed_throttles_none guest v past)
    (full_case _ v (executed guest v past))

-- nor does its exit
pub exit_throttles : (guest : Guest) (v : ℕ) (past : List Event) → SameThrottles past (after_exit guest v past)
exit_throttles guest v past = record { each = (pushes_throttle_none v (unpushed v past) past).each }

-- no vCPU is throttled at first
pub throttles_begin : (guest : Guest) (past : List Event) (throttles : List ℕ) → past ≡ [] → throttles ≡ replicate (vcpu_count guest) 0 → AreThrottles guest past throttles
throttles_begin guest past throttles none zeros = record {
  count = ap length zeros ∙ length-replicate (vcpu_count guest) 0;
  each = λ v lt. ap (λ xs. get_or xs v 0) zeros ∙ get_or-replicate (vcpu_count guest) v 0 0 lt ∙ sym (ap (last_throttle v) none);
}

-- no throttle is taken yet
pub none_taken : (guest : Guest) (past : List Event) (throttles : List ℕ) → length throttles ≡ vcpu_count guest → AreTaken guest past 0 throttles
none_taken guest past throttles count = record { count = count; each = λ v lt. absurd (omega (arith, lt)) }

-- one more throttle is taken
pub one_taken : (guest : Guest) (past : List Event) (n us : ℕ) (throttles : List ℕ) → AreTaken guest past n throttles → n < vcpu_count guest → us ≡ (throttle guest n past).us → AreTaken guest past (n + 1) (set throttles n us)
one_taken guest past n us throttles taken lt is = record {
  count = length-set throttles n us ∙ taken.count;
  each = λ v lv. by_test (v == n) _
      (λ yes.
      let same : v ≡ n = eqb-true v n yes in
      let within : n < length throttles = omega (arith, lt, taken.count) in
      subst (λ (k : ℕ). get_or (set throttles n us) k 0 ≡ (throttle guest k past).us) (sym same) (get_or-set_same throttles n us 0 within ∙ is))
      (λ other.
      let apart : v ≡ n → ⊥ = eqb-false v n other in
      let less : v < n = omega (arith, lv, apart) in
      get_or-set_other throttles n v us 0 apart ∙ taken.each v less);
}

-- a Throttled changes no throttle
same_formula : (guest : Guest) (v n : ℕ) (past : List Event) → throttle guest v (throttled_after guest n past) ≡ throttle guest v past
same_formula guest v zero past = refl
same_formula guest v (suc n) past = same_formula guest v n past

-- the first n vCPUs were throttled, each by its formula
last_of_first : (guest : Guest) (v n : ℕ) (past : List Event) → v < n → last_throttle v (throttled_after guest n past) ≡ (throttle guest v past).us
last_of_first guest v zero past lt = absurd (omega (arith, lt))
last_of_first guest v (suc n) past lt =
    by_test (n == v) _
    (λ yes. rw yes (subst (λ (k : ℕ). (throttle guest n (throttled_after guest n past)).us ≡ (throttle guest k past).us) (eqb-true n v yes) (ap (λ t. t.us) (same_formula guest n n past))))
    (λ other.
    let apart : n ≡ v → ⊥ = eqb-false n v other in
    let less : v < n = omega (arith, lt, apart) in
    rw other (last_of_first guest v n past less))

stop_stays : (guest : Guest) (n : ℕ) (past : List Event) → stopped (throttled_after guest n past) ≡ stopped past
stop_stays guest zero past = refl
stop_stays guest (suc n) past = stop_stays guest n past

-- what an advance leaves of the last throttles: those of an answer are the formula's, where there is a quota and the guest
-- runs; else each stays
record Leaves (guest : Guest) (old : List Event) (p : Advance × List Event) : Type 0 where
  stay : throttles_all guest p.1 p.0 ≡ false → SameThrottles old p.1
  taken : throttles_all guest p.1 p.0 ≡ true → (v : ℕ) → v < vcpu_count guest → last_throttle v p.1 ≡ (throttle guest v p.1).us

no_answer : (guest : Guest) (old : List Event) (p : Advance × List Event) → is_answer p.0 ≡ false → SameThrottles old p.1 → Leaves guest old p
no_answer guest old p quiet same = record {
  stay = λ h. same;
  taken = λ h. absurd (true≢false (sym h ∙ ap (λ b. b && (nat_le 1 guest.settings.quota && not (stopped p.1))) quiet));
}

run_throttle : (v r first n : ℕ) (past : List Event) → last_throttle v (copies_from r first n past) ≡ last_throttle v past
run_throttle v r first zero past = refl
run_throttle v r first (suc n) past = run_throttle v r first n past

wait_answers_none : (a : Advance) → IsWait a → is_answer a ≡ false
wait_answers_none (advance.NotPaced v done) is = refl
wait_answers_none (advance.NotOut v) is = refl
wait_answers_none (advance.NotReset v k) is = refl
wait_answers_none advance.NotFlushed is = refl
wait_answers_none advance.Finished is = refl
wait_answers_none advance.Budget is = refl
wait_answers_none a is = absurd is

answer_case : (test : Bool) (guest : Guest) (old : List Event) (r n now : ℕ) → (nat_le 1 guest.settings.quota && not (stopped old)) ≡ test
    → Leaves guest old (advance.Answered r n, cond test (throttled_after guest (vcpu_count guest) (Synced r now (dirty_pages guest old) ∷ old)) (Synced r now (dirty_pages guest old) ∷ old))
answer_case true guest old r n now is =
    let answer : List Event = Synced r now (dirty_pages guest old) ∷ old in
    let runs : (nat_le 1 guest.settings.quota && not (stopped (throttled_after guest (vcpu_count guest) answer))) ≡ true =
    ap (λ b. nat_le 1 guest.settings.quota && not b) (stop_stays guest (vcpu_count guest) answer) ∙ is in
    record {
      stay = λ h. absurd (true≢false (sym runs ∙ h));
      taken = λ h v lt. last_of_first guest v (vcpu_count guest) answer lt ∙ ap (λ t. t.us) (sym (same_formula guest v (vcpu_count guest) answer));
    }
answer_case false guest old r n now is =
    record {
      stay = λ h. record { each = λ v. refl };
      taken = λ h. absurd (true≢false (sym h ∙ is));
    }

advance_leaves : (guest : Guest) (now : ℕ) (old : List Event) → Leaves guest old (advanced guest now old)
advance_leaves guest now old =
    advanced_cases (Leaves guest old) guest now old (record {
      waits = λ a is. no_answer guest old (a, old) (wait_answers_none a is) (none_since old);
      starts = λ due. no_answer guest old _ refl (record { each = λ v. refl });
      answers = λ r due. answer_case (nat_le 1 guest.settings.quota && not (stopped old)) guest old r (length (dirty_pages guest old)) now refl;
      copies = λ page due alone. no_answer guest old _ refl (record { each = λ v. refl });
      blanks = λ page n due zeros. no_answer guest old _ refl (record { each = λ v. run_throttle v (round_of (last_synced old)) page (suc n) old });
      asks_last = λ on stop fresh. no_answer guest old _ refl (record { each = λ v. refl });
      switches = λ on stop asked. no_answer guest old _ refl (record { each = λ v. refl });
      stops = λ on runs few. no_answer guest old _ refl (record { each = λ v. refl });
      asks_first = λ on runs none more. no_answer guest old _ refl (record { each = λ v. refl });
      asks_later = λ on runs many more some paced. no_answer guest old _ refl (record { each = λ v. refl });
    })

follow_case : (test : Bool) (guest : Guest) (old new : List Event) (due : Advance) (before after : List ℕ) → throttles_all guest new due ≡ test
    → AreThrottles guest old before → Leaves guest old (due, new) → FollowThrottles guest new due before after → AreThrottles guest new after
follow_case true guest old new due before after is are leaves follow =
    let taken : AreTaken guest new (vcpu_count guest) after = follow.taken is in
    record { count = taken.count; each = λ v lt. taken.each v lt ∙ sym (leaves.taken is v lt) }
follow_case false guest old new due before after is are leaves follow =
    rw (follow.stay is) (throttles_stay guest old new before are (leaves.stay is))

-- the lists go on through an advance
pub throttles_advance : (guest : Guest) (now : ℕ) (old new : List Event) (due : Advance) (before after : List ℕ) → AreThrottles guest old before
    → due ≡ (advanced guest now old).0 → new ≡ (advanced guest now old).1 → FollowThrottles guest new due before after → AreThrottles guest new after
throttles_advance guest now old new due before after are answer past follow =
    let leaves : Leaves guest old (due, new) = rw (answer, past) (advance_leaves guest now old) in
    follow_case (throttles_all guest new due) guest old new due before after refl are leaves follow
