-- The round that was asked is answered, and after the answer each vCPU is throttled where that is due.
use Rattle.std.proofs.Common.{◌≡◌, ℕ, zero, suc, ◌+◌, ◌<◌, ◌≤◌, Bool, true, false, cond, List, ◌∷◌, Option, Some, None, is_some, refl, ap, sym, ◌∙◌, arith, add-one}
use Rattle.std.specs.Prelude.{◌&&◌, not, nat_le, nat_lt}
use Rattle.std.specs.List.{list_any, list_all}
use Rattle.std.proofs.lemmas.Bool.{eq-eqb, le-leb, lt-ltb, le-ltb, ltb-false}
use Rattle.dr_types.specs.declared.guest.Guest.{Guest}
use Rattle.dr_types.specs.Scripts.{vcpu_count}
use Rattle.dr_history.specs.declared.event.Event.{Event}
use Rattle.dr_history.specs.declared.event.Event.TheVariants.{Synced, Throttled}
use Rattle.dr_history.specs.Lookback.{before}
use Rattle.dr_history.specs.Kinds.{is_asked, is_switched}
use Rattle.dr_history.specs.Dirty.{dirty_pages}
use Rattle.dr_history.specs.Entries.{opens, resets}
use Rattle.dr_history.specs.Legality.{IsLegalSoFar}
use Rattle.dr_history.specs.Rounds.{unanswered, is_reset_in}
use Rattle.dr_history.specs.Rules.{last_owes_write}
use Rattle.dr_history.specs.Throttles.{throttle, throttle_due, next_throttled, one_after, if_below}
use Rattle.dr_history.specs.Vcpus.{stopped, kicked, some_kicked}
use Rattle.dr_history_law.specs.Room.{unpushed}
use Rattle.dr_history_law.proofs.Covered.{covered, all_from}
use Rattle.dr_event_law.specs.May.{MayFollow}
use Rattle.dr_event_law.proofs.Legally.{answers_legally, throttles_legally}
use Rattle.dr_event_law.proofs.Rounds.{asked_here as unanswered_here}
use Rattle.dr_turns.specs.Between.{AtTurnsEnd}
use Rattle.dr_turns.specs.Due.{some_closing, throttled_after, answered_after}
use Rattle.dr_turns.specs.Firsts.{first_kicked, first_unreset}
use Rattle.dr_turns_law.proofs.Found.{first_none}
use Rattle.dr_turns_law.proofs.Done.{none_any}

-- while an Asked has no answer the guest has not switched over
pub asked_here : (guest : Guest) (past : List Event) → IsLegalSoFar guest past → is_some (unanswered past) ≡ true → list_any is_switched past ≡ false
asked_here = unanswered_here

-- where no vCPU is found that is kicked, none is
pub none_kicked : (guest : Guest) (past : List Event) → first_kicked guest past ≡ None → some_kicked guest past ≡ false
unfolding first_kicked
none_kicked guest past h = none_any (λ v. kicked v past) (vcpu_count guest) (first_none (λ v. kicked v past) (vcpu_count guest) h)

-- where no vCPU is found with an entry to be reset, all that was opened before the last Asked is reset
pub none_unreset : (guest : Guest) (past : List Event) → IsLegalSoFar guest past → first_unreset guest past ≡ None → list_all (is_reset_in past) (before is_asked past) ≡ true
unfolding first_unreset
none_unreset guest past legal h =
    covered guest past legal
    ∙ all_from (λ v. nat_le (opens v (before is_asked past)) (resets v past)) (vcpu_count guest) (λ v lt.
    le-leb (opens v (before is_asked past)) (resets v past)
    (ltb-false (resets v past) (opens v (before is_asked past))
    (first_none (λ u. nat_lt (resets u past) (opens u (before is_asked past))) (vcpu_count guest) h v lt)))

-- the round that was asked is answered by the rules, where all are out, all is reset and nothing is closing
pub answer_follows : (guest : Guest) (past : List Event) (r now : ℕ) → IsLegalSoFar guest past → AtTurnsEnd guest past → unanswered past ≡ Some r → first_kicked guest past ≡ None → first_unreset guest past ≡ None → some_closing guest past ≡ false → MayFollow guest past (Synced r now (dirty_pages guest past))
unfolding some_closing
answer_follows guest past r now legal end asked out reset flushed =
    answers_legally guest past r now
    (record { rests = end.rests; here = asked_here guest past legal (ap (λ (o : Option ℕ). is_some o) asked) })
    (record { asked = asked; out = none_kicked guest past out; reset = none_unreset guest past legal reset; flushed = flushed })

-- after an answer and the throttles of the first vCPUs the throttle of the next one comes
pub next_throttle_after : (guest : Guest) (past : List Event) (r now n : ℕ) (pages : List ℕ) → next_throttled (throttled_after guest n (Synced r now pages ∷ past)) ≡ Some n
next_throttle_after guest past r now zero pages = refl
next_throttle_after guest past r now (suc n) pages =
    ap (one_after n) (next_throttle_after guest past r now n pages) ∙ ap (λ b. cond b (Some (n + 1)) None) (eq-eqb n n refl) ∙ ap Some (add-one n)

-- throttles owe no write
no_write_owed : (guest : Guest) (past : List Event) (r now n : ℕ) (pages : List ℕ) → last_owes_write (throttled_after guest n (Synced r now pages ∷ past)) ≡ false
no_write_owed guest past r now zero pages = refl
no_write_owed guest past r now (suc n) pages = refl

-- a throttle is no switch-over
switched_after : (guest : Guest) (answer : List Event) (n : ℕ) → list_any is_switched (throttled_after guest n answer) ≡ list_any is_switched answer
switched_after guest answer zero = refl
switched_after guest answer (suc n) = switched_after guest answer n

-- a throttle stops no guest
stopped_after : (guest : Guest) (answer : List Event) (n : ℕ) → stopped (throttled_after guest n answer) ≡ stopped answer
stopped_after guest answer zero = refl
stopped_after guest answer (suc n) = stopped_after guest answer n

-- a throttle opens and pushes nothing
unpushed_after : (guest : Guest) (answer : List Event) (n v : ℕ) → unpushed v (throttled_after guest n answer) ≡ unpushed v answer
unpushed_after guest answer zero v = refl
unpushed_after guest answer (suc n) v = unpushed_after guest answer n v

due_case : (quota stop : Bool) (vcpus n : ℕ) (next : Option ℕ) → quota ≡ true → stop ≡ false → next ≡ Some n → n < vcpus → cond (quota && not stop) (if_below vcpus next) None ≡ Some n
due_case quota stop vcpus n next hq hs hn lt = rw (hq, hs, hn, lt-ltb n vcpus lt) refl

-- the next throttle is due
due_after : (guest : Guest) (past : List Event) (r now n : ℕ) (pages : List ℕ) → 1 ≤ guest.settings.quota → stopped past ≡ false → n < vcpu_count guest → throttle_due guest (throttled_after guest n (Synced r now pages ∷ past)) ≡ Some n
due_after guest past r now n pages some runs lt =
    let answer : List Event = Synced r now pages ∷ past in
    due_case (nat_le 1 guest.settings.quota) (stopped (throttled_after guest n answer)) (vcpu_count guest) n (next_throttled (throttled_after guest n answer))
    (le-leb 1 guest.settings.quota some) (stopped_after guest answer n ∙ runs) (next_throttle_after guest past r now n pages) lt

-- a vCPU is throttled by the rules after the answer and the throttles of those before it
pub throttle_follows : (guest : Guest) (past : List Event) (r now n : ℕ) → IsLegalSoFar guest (throttled_after guest n (Synced r now (dirty_pages guest past) ∷ past)) → AtTurnsEnd guest past → list_any is_switched past ≡ false → 1 ≤ guest.settings.quota → stopped past ≡ false → n < vcpu_count guest → MayFollow guest (throttled_after guest n (Synced r now (dirty_pages guest past) ∷ past)) (Throttled n (throttle guest n (throttled_after guest n (Synced r now (dirty_pages guest past) ∷ past))).us)
throttle_follows guest past r now n legal end here some runs lt =
    let answer : List Event = Synced r now (dirty_pages guest past) ∷ past in
    throttles_legally guest (throttled_after guest n answer) n
    (no_write_owed guest past r now n (dirty_pages guest past)) (switched_after guest answer n ∙ here) lt
    (due_after guest past r now n (dirty_pages guest past) some runs lt)

-- one throttle more
pub throttle_more : (guest : Guest) (answer : List Event) (n : ℕ) → Throttled n (throttle guest n (throttled_after guest n answer)).us ∷ throttled_after guest n answer ≡ throttled_after guest (n + 1) answer
throttle_more guest answer n = ap (λ m. throttled_after guest m answer) (sym (add-one n))

last_case : (test : Bool) (vcpus : ℕ) (next : Option ℕ) → next ≡ Some vcpus → is_some (cond test (if_below vcpus next) None) ≡ false
last_case true vcpus next h = rw (h, le-ltb vcpus vcpus (omega arith)) refl
last_case false vcpus next h = refl

-- after the last throttle nothing is owed, and no buffer is full
throttled_ends : (guest : Guest) (past : List Event) (r now : ℕ) (pages : List ℕ) → AtTurnsEnd guest past → AtTurnsEnd guest (throttled_after guest (vcpu_count guest) (Synced r now pages ∷ past))
throttled_ends guest past r now pages end =
    let answer : List Event = Synced r now pages ∷ past in
    record {
      rests = rw (
        no_write_owed guest past r now (vcpu_count guest) pages,
        last_case (nat_le 1 guest.settings.quota && not (stopped (throttled_after guest (vcpu_count guest) answer))) (vcpu_count guest) (next_throttled (throttled_after guest (vcpu_count guest) answer)) (next_throttle_after guest past r now (vcpu_count guest) pages),
      ) refl;
      buffers = λ v. rw (unpushed_after guest answer (vcpu_count guest) v) (end.buffers v);
    }

none_due : (test : Bool) (o : Option ℕ) → test ≡ false → not (is_some (cond test o None)) ≡ true
none_due test o h = rw h refl

ends_case : (test : Bool) (guest : Guest) (past : List Event) (r now : ℕ) (pages : List ℕ) → (nat_le 1 guest.settings.quota && not (stopped past)) ≡ test → AtTurnsEnd guest past → AtTurnsEnd guest (cond test (throttled_after guest (vcpu_count guest) (Synced r now pages ∷ past)) (Synced r now pages ∷ past))
ends_case true guest past r now pages is end = throttled_ends guest past r now pages end
ends_case false guest past r now pages is end = record {
  rests = none_due (nat_le 1 guest.settings.quota && not (stopped past)) (if_below (vcpu_count guest) (Some 0)) is;
  buffers = end.buffers;
}

-- after the answer and its throttles nothing is owed, and no buffer is full
pub answered_ends : (guest : Guest) (past : List Event) (r now : ℕ) → IsLegalSoFar guest past → AtTurnsEnd guest past → unanswered past ≡ Some r → first_kicked guest past ≡ None → first_unreset guest past ≡ None → some_closing guest past ≡ false → AtTurnsEnd guest (answered_after guest r now past)
answered_ends guest past r now legal end asked out reset flushed =
    ends_case (nat_le 1 guest.settings.quota && not (stopped past)) guest past r now (dirty_pages guest past) refl end
