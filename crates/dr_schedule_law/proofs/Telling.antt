-- What each answer of the advance tells.
use Rattle.std.proofs.Common.{◌≡◌, ℕ, Bool, true, false, cond, List, Option, Some, None, is_some, refl, subst}
use Rattle.std.specs.List.{list_any}
use Rattle.std.proofs.lemmas.Bool.{and_parts, not-true}
use Rattle.dr_types.specs.declared.guest.Guest.{Guest}
use Rattle.dr_types.specs.Pages.{soft_limit}
use Rattle.dr_types.specs.Scripts.{operation}
use Rattle.dr_types.specs.Validity.{IsValid}
use Rattle.dr_history.specs.declared.event.Event.{Event}
use Rattle.dr_history.specs.Entries.{used}
use Rattle.dr_history.specs.Execution.{ops}
use Rattle.dr_history.specs.Kinds.{is_switched}
use Rattle.dr_history.specs.Legality.{IsLegalSoFar}
use Rattle.dr_history.specs.Vcpus.{halted, stopped, kicked, is_full}
use Rattle.dr_event_law.proofs.Running.{has_operation}
use Rattle.dr_turns_law.proofs.Cases.{IsWait, advanced_cases}
use Rattle.dr_turns_law.proofs.Operations.{valid_ends, valid_some}
use Rattle.dr_turns_law.proofs.Spent.{budget_is_spent}
use Rattle.dr_turns.specs.declared.answers.Advance.{Advance}
use Rattle.dr_turns.specs.declared.answers.Advance.TheVariants as advance
use Rattle.dr_turns.specs.declared.answers.RunEnd.TheVariants as end
use Rattle.dr_turns.specs.declared.answers.Turn.{Turn}
use Rattle.dr_turns.specs.declared.answers.Turn.TheVariants as turn
use Rattle.dr_turns.specs.Due.{advanced, some_closing, is_spent, run_end}
use Rattle.dr_turns.specs.Turns.{refusal}
use Rattle.dr_schedule_law.specs.Waiting.{AwaitsOp, AwaitsExit, AwaitsReset, Awaits}
use Rattle.dr_schedule_law.proofs.Waiting.{advance_awaits}

-- NotPaced: the vCPU may execute, unless its ring is full
pub not_paced : (guest : Guest) (now : ℕ) (past : List Event) (v done : ℕ) → IsLegalSoFar guest past
    → (advanced guest now past).0 ≡ advance.NotPaced v done → AwaitsOp guest past v
not_paced guest now past v done legal is = subst (Awaits guest past) is (advance_awaits guest now past legal)

-- NotOut: the vCPU is kicked and in the guest
pub not_out : (guest : Guest) (now : ℕ) (past : List Event) (v : ℕ) → IsLegalSoFar guest past
    → (advanced guest now past).0 ≡ advance.NotOut v → AwaitsExit guest past v
not_out guest now past v legal is = subst (Awaits guest past) is (advance_awaits guest now past legal)

-- NotReset: all are out, and the vCPU is the first that has reset too little
pub not_reset : (guest : Guest) (now : ℕ) (past : List Event) (v k : ℕ) → IsLegalSoFar guest past
    → (advanced guest now past).0 ≡ advance.NotReset v k → AwaitsReset guest past v k
not_reset guest now past v k legal is = subst (Awaits guest past) is (advance_awaits guest now past legal)

-- NotFlushed: some page is closing
pub not_flushed : (guest : Guest) (now : ℕ) (past : List Event) → IsLegalSoFar guest past
    → (advanced guest now past).0 ≡ advance.NotFlushed → some_closing guest past ≡ true
not_flushed guest now past legal is = subst (Awaits guest past) is (advance_awaits guest now past legal)

-- Finished: the guest had switched over
pub finished : (guest : Guest) (now : ℕ) (past : List Event) → IsLegalSoFar guest past
    → (advanced guest now past).0 ≡ advance.Finished → list_any is_switched past ≡ true
finished guest now past legal is = subst (Awaits guest past) is (advance_awaits guest now past legal)

switched_end : (switched spent : Bool) → switched ≡ true
    → cond switched end.Switched (cond spent end.Budget end.Open) ≡ end.Switched
switched_end switched spent h = rw h refl

budget_end : (switched spent : Bool) → switched ≡ false → spent ≡ true
    → cond switched end.Switched (cond spent end.Budget end.Open) ≡ end.Budget
budget_end switched spent h k = rw (h, k) refl

-- .. and the run stands there
pub finished_end : (guest : Guest) (now : ℕ) (past : List Event) → IsLegalSoFar guest past
    → (advanced guest now past).0 ≡ advance.Finished → run_end guest past ≡ end.Switched
finished_end guest now past legal is =
    switched_end (list_any is_switched past) (is_spent guest past) (finished guest now past legal is)

spent_unswitched : (guest : Guest) (past : List Event) → is_spent guest past ≡ true
    → list_any is_switched past ≡ false
unfolding is_spent
spent_unswitched guest past h =
    not-true (list_any is_switched past)
    (and_parts _ _ (and_parts _ _ (and_parts _ _ (and_parts _ _ h).0).0).0).1

-- Budget: the budget is spent
pub budget_ends : (guest : Guest) (now : ℕ) (past : List Event)
    → (advanced guest now past).0 ≡ advance.Budget → run_end guest past ≡ end.Budget
budget_ends guest now past is =
    let spent : is_spent guest past ≡ true = (budget_is_spent guest now past).0 is in
    budget_end (list_any is_switched past) (is_spent guest past) (spent_unswitched guest past spent) spent

no_switch : (guest : Guest) (past : List Event) (a : Advance) → IsWait a → a ≡ advance.Switched
    → list_any is_switched past ≡ true
no_switch guest past a is h = absurd (subst IsWait h is)

-- Switched: the guest switches over
pub switches : (guest : Guest) (now : ℕ) (past : List Event)
    → (advanced guest now past).0 ≡ advance.Switched → list_any is_switched
    (advanced guest now past).1 ≡ true
switches guest now past =
    advanced_cases (λ (p : Advance × List Event). p.0 ≡ advance.Switched → list_any is_switched p.1 ≡ true)
    guest now past (record {
      waits = λ a is h. no_switch guest past a is h;
      starts = λ due h. cc;
      answers = λ r due h. cc;
      copies = λ page due alone h. cc;
      blanks = λ page n due zeros h. cc;
      asks_last = λ _ stop fresh h. cc;
      switches = λ _ stop asked h. refl;
      stops = λ _ runs few h. cc;
      asks_first = λ _ runs none more h. cc;
      asks_later = λ _ runs many more some paced h. cc;
    })

none_refuses : (h s k f : Bool) (a b c : Option Turn) (d : Turn) → h ≡ false → s ≡ false → k ≡ false
    → cond h a (cond s b (cond k c (cond f (Some d) None))) ≡ cond f (Some d) None
none_refuses h s k f a b c d hh hs hk = rw (hh, hs, hk) refl

-- a vCPU that is to execute is refused exactly where its ring is full
pub refused_when_full : (guest : Guest) (past : List Event) (v : ℕ) → AwaitsOp guest past v
    → refusal guest false v past ≡ cond (is_full guest v past)
    (Some (turn.Full (used v past) (soft_limit guest))) None
refused_when_full guest past v awaits =
    none_refuses (halted v past) (stopped past) (kicked v past) (is_full guest v past) _ _ _
    (turn.Full (used v past) (soft_limit guest)) awaits.unhalted awaits.running awaits.unkicked

-- and has an op to execute
pub has_op : (guest : Guest) (past : List Event) (v : ℕ) → IsValid guest → IsLegalSoFar guest past
    → AwaitsOp guest past v → is_some (operation guest v (ops v past)) ≡ true
has_op guest past v valid legal awaits =
    has_operation guest past v (valid_ends guest valid) (valid_some guest v valid awaits.vcpu) legal
    awaits.unhalted
