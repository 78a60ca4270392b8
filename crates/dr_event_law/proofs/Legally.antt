-- For each kind of event, what it needs suffices: it breaks no rule.
use Rattle.std.proofs.Common.{◌≡◌, ℕ, zero, suc, ◌+◌, ◌-◌, ◌<◌, ◌≤◌, max, Bool, true, false, cond, List, [], ◌∷◌, filter, Some, refl, ap, ◌∙◌, arith}
use Rattle.std.specs.Prelude.{◌&&◌, ◌==◌, nat_lt}
use Rattle.std.specs.List.{list_any, list_all}
use Rattle.std.proofs.lemmas.Bool.{lt-ltb, le-leb, eq-eqb, and_parts}
use Rattle.std.proofs.lemmas.List.Folds.{list_all-append}
use Rattle.dr_types.specs.declared.guest.Guest.{Guest}
use Rattle.dr_types.specs.declared.guest.Why.{Why}
use Rattle.dr_types.specs.Pages.{page_count}
use Rattle.dr_types.specs.Scripts.{vcpu_count}
use Rattle.dr_history.specs.declared.event.Event.{Event}
use Rattle.dr_history.specs.declared.event.Event.TheVariants.{Start, Read, Write, Paint, Local, Halted, Opened, Filled, Pushed, Exited, Deposited, Reset, Flushed, Asked, Synced, Copied, Throttled, Stopped, Switched}
use Rattle.dr_history.specs.Lookback.{below}
use Rattle.dr_history.specs.Entries.{opens, pushes, resets}
use Rattle.dr_history.specs.Protection.{closing}
use Rattle.dr_history.specs.Dirty.{dirty, dirty_pages}
use Rattle.dr_history.specs.Vcpus.{kicked, is_full}
use Rattle.dr_history.specs.Rounds.{asks}
use Rattle.dr_history.specs.Rules.{write_follows, names_exist, not_switched, follows_script, reads_memory, op_before_stop, op_not_kicked, op_has_room, op_has_buffer, write_is_cached, opens_protected, fills_writable, pushes_next, exits_with_reason, deposits_pushed, resets_deposited, flush_has_cause, starts_paced, asks_in_turn, answers_covered, answers_dirty, throttles_due, copies_next, stops_when_few, switches_when_copied, before_fault, last_owes_write, is_page, same_numbers, vcpu_of_op}
use Rattle.dr_history.specs.Execution.{is_next_op}
use Rattle.dr_event_law.specs.May.{MayFollow, AtRest, MayRun, MayOpen, MayFill, MayPush, MayExit, MayDeposit, MayReset, MayStart, MayAsk, MayAnswer, MayCopy, MayStop, MaySwitch}
use Rattle.dr_history.specs.Kinds.{is_switched}
use Rattle.dr_history.specs.Throttles.{throttle_due, throttle}
use Rattle.dr_event_law.proofs.Rest.{follows_rest, rest_follows, rest_due}

same : (n : ℕ) → (n == n) ≡ true
same n = eq-eqb n n refl

-- a list of numbers is the same as itself
same_list : (xs : List ℕ) → same_numbers xs xs ≡ true
same_list [] = refl
same_list (x ∷ xs) = rw (same x, same_list xs) refl

both : (a b : Bool) → a ≡ true → b ≡ true → (a && (b && true)) ≡ true
both a b h k = rw (h, k) refl

kept : (p : Bool) (x : ℕ) (xs : List ℕ) (f : ℕ → Bool) → f x ≡ true → list_all f xs ≡ true → list_all f (cond p (x ∷ xs) xs) ≡ true
kept true x xs f h k = rw (h, k) refl
kept false x xs f h k = k

-- the dirty pages are pages of the guest
all_filtered : (p q : ℕ → Bool) (xs : List ℕ) → list_all q xs ≡ true → list_all q (filter p xs) ≡ true
all_filtered p q [] h = refl
all_filtered p q (x ∷ xs) h = kept (p x) x (filter p xs) q (and_parts _ _ h).0 (all_filtered p q xs (and_parts _ _ h).1)

below_all : (n m : ℕ) → n ≤ m → list_all (λ k. nat_lt k m) (below n) ≡ true
below_all zero m h = refl
below_all (suc n) m h = list_all-append (λ k. nat_lt k m) (below n) (n ∷ []) ∙ both (list_all (λ k. nat_lt k m) (below n)) (nat_lt n m) (below_all n m (omega (arith, h))) (lt-ltb n m (omega (arith, h)))

all_pages : (guest : Guest) (past : List Event) → list_all (is_page guest) (dirty_pages guest past) ≡ true
all_pages guest past = all_filtered (λ page. dirty page past) (is_page guest) (below (page_count guest)) (below_all (page_count guest) (page_count guest) (omega arith))

-- an operation, by the facts that its kind needs beside those of each
pub runs_legally : (guest : Guest) (past : List Event) (e : Event) (v : ℕ) → vcpu_of_op e ≡ Some v → MayRun guest past v → write_follows guest past e ≡ true → names_exist guest past e ≡ true → is_next_op guest past e ≡ true → reads_memory guest past e ≡ true → write_is_cached guest past e ≡ true → MayFollow guest past e
unfolding not_switched follows_script op_before_stop op_not_kicked op_has_room op_has_buffer opens_protected fills_writable pushes_next exits_with_reason deposits_pushed resets_deposited flush_has_cause starts_paced asks_in_turn answers_covered answers_dirty throttles_due copies_next stops_when_few switches_when_copied
runs_legally guest past (Read w i space a x) v is m follows names next reads cached =
    let e : w ≡ v = cc in
    record { kept = rw (m.due, follows, names, m.here, next, reads, m.running, ap (λ (u : ℕ). kicked u past) e, m.unkicked, ap (λ (u : ℕ). is_full guest u past) e, m.room, ap (λ (u : ℕ). nat_lt (opens u (before_fault past) - pushes u past) (max 1 guest.settings.buffer)) e, lt-ltb _ _ m.buffer, cached) refl }
runs_legally guest past (Write w i space a l x) v is m follows names next reads cached =
    let e : w ≡ v = cc in
    record { kept = rw (m.due, follows, names, m.here, next, reads, m.running, ap (λ (u : ℕ). kicked u past) e, m.unkicked, ap (λ (u : ℕ). is_full guest u past) e, m.room, ap (λ (u : ℕ). nat_lt (opens u (before_fault past) - pushes u past) (max 1 guest.settings.buffer)) e, lt-ltb _ _ m.buffer, cached) refl }
runs_legally guest past (Paint w i q b) v is m follows names next reads cached =
    let e : w ≡ v = cc in
    record { kept = rw (m.due, follows, names, m.here, next, reads, m.running, ap (λ (u : ℕ). kicked u past) e, m.unkicked, ap (λ (u : ℕ). is_full guest u past) e, m.room, ap (λ (u : ℕ). nat_lt (opens u (before_fault past) - pushes u past) (max 1 guest.settings.buffer)) e, lt-ltb _ _ m.buffer, cached) refl }
runs_legally guest past (Local w i) v is m follows names next reads cached =
    let e : w ≡ v = cc in
    record { kept = rw (m.due, follows, names, m.here, next, reads, m.running, ap (λ (u : ℕ). kicked u past) e, m.unkicked, ap (λ (u : ℕ). is_full guest u past) e, m.room, ap (λ (u : ℕ). nat_lt (opens u (before_fault past) - pushes u past) (max 1 guest.settings.buffer)) e, lt-ltb _ _ m.buffer, cached) refl }
runs_legally guest past (Halted w i) v is m follows names next reads cached =
    let e : w ≡ v = cc in
    record { kept = rw (m.due, follows, names, m.here, next, reads, m.running, ap (λ (u : ℕ). kicked u past) e, m.unkicked, ap (λ (u : ℕ). is_full guest u past) e, m.room, ap (λ (u : ℕ). nat_lt (opens u (before_fault past) - pushes u past) (max 1 guest.settings.buffer)) e, lt-ltb _ _ m.buffer, cached) refl }
runs_legally guest past e v is m follows names next reads cached = cc

pub opens_legally : (guest : Guest) (past : List Event) (v page : ℕ) → AtRest guest past → MayOpen guest past v page → MayFollow guest past (Opened v (opens v past) page)
unfolding names_exist not_switched follows_script reads_memory op_before_stop op_not_kicked op_has_room op_has_buffer write_is_cached opens_protected fills_writable pushes_next exits_with_reason deposits_pushed resets_deposited flush_has_cause starts_paced asks_in_turn answers_covered answers_dirty throttles_due copies_next stops_when_few switches_when_copied
opens_legally guest past v page r m = record { kept = rw (rest_follows guest past (Opened v (opens v past) page) r.rests, r.here, rest_due guest past r.rests, lt-ltb _ _ m.vcpu, lt-ltb _ _ m.within, m.started, m.protected, m.uncached, same (opens v past)) refl }

pub fills_legally : (guest : Guest) (past : List Event) (v page : ℕ) → AtRest guest past → MayFill guest past v page → MayFollow guest past (Filled v page)
unfolding names_exist not_switched follows_script reads_memory op_before_stop op_not_kicked op_has_room op_has_buffer write_is_cached opens_protected fills_writable pushes_next exits_with_reason deposits_pushed resets_deposited flush_has_cause starts_paced asks_in_turn answers_covered answers_dirty throttles_due copies_next stops_when_few switches_when_copied
fills_legally guest past v page r m = record { kept = rw (rest_follows guest past (Filled v page) r.rests, r.here, rest_due guest past r.rests, lt-ltb _ _ m.vcpu, lt-ltb _ _ m.within, m.started, m.writable, m.uncached) refl }

pub pushes_legally : (guest : Guest) (past : List Event) (v : ℕ) → AtRest guest past → MayPush guest past v → MayFollow guest past (Pushed v (pushes v past))
unfolding names_exist not_switched follows_script reads_memory op_before_stop op_not_kicked op_has_room op_has_buffer write_is_cached opens_protected fills_writable pushes_next exits_with_reason deposits_pushed resets_deposited flush_has_cause starts_paced asks_in_turn answers_covered answers_dirty throttles_due copies_next stops_when_few switches_when_copied
pushes_legally guest past v r m = record { kept = rw (rest_follows guest past (Pushed v (pushes v past)) r.rests, r.here, rest_due guest past r.rests, lt-ltb _ _ m.vcpu, lt-ltb _ _ m.opened, lt-ltb _ _ m.room, same (pushes v past)) refl }

pub exits_legally : (guest : Guest) (past : List Event) (v : ℕ) (why : Why) → AtRest guest past → MayExit guest past v why → MayFollow guest past (Exited v why)
unfolding names_exist not_switched follows_script reads_memory op_before_stop op_not_kicked op_has_room op_has_buffer write_is_cached opens_protected fills_writable pushes_next exits_with_reason deposits_pushed resets_deposited flush_has_cause starts_paced asks_in_turn answers_covered answers_dirty throttles_due copies_next stops_when_few switches_when_copied
exits_legally guest past v why r m = record { kept = rw (rest_follows guest past (Exited v why) r.rests, r.here, rest_due guest past r.rests, lt-ltb _ _ m.vcpu, m.inside, eq-eqb _ _ m.pushed, m.reason) refl }

pub deposits_legally : (guest : Guest) (past : List Event) (v from to : ℕ) → AtRest guest past → MayDeposit guest past v from to → MayFollow guest past (Deposited v from to)
unfolding names_exist not_switched follows_script reads_memory op_before_stop op_not_kicked op_has_room op_has_buffer write_is_cached opens_protected fills_writable pushes_next exits_with_reason deposits_pushed resets_deposited flush_has_cause starts_paced asks_in_turn answers_covered answers_dirty throttles_due copies_next stops_when_few switches_when_copied
deposits_legally guest past v from to r m = record { kept = rw (rest_follows guest past (Deposited v from to) r.rests, r.here, rest_due guest past r.rests, lt-ltb _ _ m.vcpu, lt-ltb _ _ m.some, le-leb _ _ m.pushed, m.first) refl }

pub resets_legally : (guest : Guest) (past : List Event) (v : ℕ) → AtRest guest past → MayReset guest past v → MayFollow guest past (Reset v (resets v past))
unfolding names_exist not_switched follows_script reads_memory op_before_stop op_not_kicked op_has_room op_has_buffer write_is_cached opens_protected fills_writable pushes_next exits_with_reason deposits_pushed resets_deposited flush_has_cause starts_paced asks_in_turn answers_covered answers_dirty throttles_due copies_next stops_when_few switches_when_copied
resets_legally guest past v r m = record { kept = rw (rest_follows guest past (Reset v (resets v past)) r.rests, r.here, rest_due guest past r.rests, lt-ltb _ _ m.vcpu, m.deposited, same (resets v past)) refl }

pub flushes_legally : (guest : Guest) (past : List Event) → AtRest guest past → list_any (λ page. closing page past) (below (page_count guest)) ≡ true → MayFollow guest past (Flushed)
unfolding names_exist not_switched follows_script reads_memory op_before_stop op_not_kicked op_has_room op_has_buffer write_is_cached opens_protected fills_writable pushes_next exits_with_reason deposits_pushed resets_deposited flush_has_cause starts_paced asks_in_turn answers_covered answers_dirty throttles_due copies_next stops_when_few switches_when_copied
flushes_legally guest past r m = record { kept = rw (rest_follows guest past (Flushed) r.rests, r.here, rest_due guest past r.rests, m) refl }

pub starts_legally : (guest : Guest) (past : List Event) (at : ℕ) → AtRest guest past → MayStart guest past → MayFollow guest past (Start at)
unfolding names_exist not_switched follows_script reads_memory op_before_stop op_not_kicked op_has_room op_has_buffer write_is_cached opens_protected fills_writable pushes_next exits_with_reason deposits_pushed resets_deposited flush_has_cause starts_paced asks_in_turn answers_covered answers_dirty throttles_due copies_next stops_when_few switches_when_copied
starts_legally guest past at r m = record { kept = rw (rest_follows guest past (Start at) r.rests, r.here, rest_due guest past r.rests, m.fresh, m.paced) refl }

pub asks_legally : (guest : Guest) (past : List Event) → AtRest guest past → MayAsk guest past → MayFollow guest past (Asked (asks past + 1))
unfolding names_exist not_switched follows_script reads_memory op_before_stop op_not_kicked op_has_room op_has_buffer write_is_cached opens_protected fills_writable pushes_next exits_with_reason deposits_pushed resets_deposited flush_has_cause starts_paced asks_in_turn answers_covered answers_dirty throttles_due copies_next stops_when_few switches_when_copied
asks_legally guest past r m = record { kept = rw (rest_follows guest past (Asked (asks past + 1)) r.rests, r.here, rest_due guest past r.rests, m.started, m.answered, same (asks past + 1), m.turn) refl }

pub answers_legally : (guest : Guest) (past : List Event) (r at : ℕ) → AtRest guest past → MayAnswer guest past r → MayFollow guest past (Synced r at (dirty_pages guest past))
unfolding names_exist not_switched follows_script reads_memory op_before_stop op_not_kicked op_has_room op_has_buffer write_is_cached opens_protected fills_writable pushes_next exits_with_reason deposits_pushed resets_deposited flush_has_cause starts_paced asks_in_turn answers_covered answers_dirty throttles_due copies_next stops_when_few switches_when_copied
answers_legally guest past r at rest m = record { kept = rw (rest_follows guest past (Synced r at (dirty_pages guest past)) rest.rests, rest.here, rest_due guest past rest.rests, all_pages guest past, m.asked, same r, m.out, m.reset, m.flushed, same_list (dirty_pages guest past)) refl }

pub copies_legally : (guest : Guest) (past : List Event) (r page : ℕ) → AtRest guest past → MayCopy guest past r page → MayFollow guest past (Copied r page)
unfolding names_exist not_switched follows_script reads_memory op_before_stop op_not_kicked op_has_room op_has_buffer write_is_cached opens_protected fills_writable pushes_next exits_with_reason deposits_pushed resets_deposited flush_has_cause starts_paced asks_in_turn answers_covered answers_dirty throttles_due copies_next stops_when_few switches_when_copied
copies_legally guest past r page rest m = record { kept = rw (rest_follows guest past (Copied r page) rest.rests, rest.here, rest_due guest past rest.rests, lt-ltb _ _ m.within, m.answered, m.next) refl }

pub stops_legally : (guest : Guest) (past : List Event) → AtRest guest past → MayStop guest past → MayFollow guest past (Stopped)
unfolding names_exist not_switched follows_script reads_memory op_before_stop op_not_kicked op_has_room op_has_buffer write_is_cached opens_protected fills_writable pushes_next exits_with_reason deposits_pushed resets_deposited flush_has_cause starts_paced asks_in_turn answers_covered answers_dirty throttles_due copies_next stops_when_few switches_when_copied
stops_legally guest past r m = record { kept = rw (rest_follows guest past (Stopped) r.rests, r.here, rest_due guest past r.rests, m.runs, m.answered, m.few) refl }

pub switches_legally : (guest : Guest) (past : List Event) → AtRest guest past → MaySwitch guest past → MayFollow guest past (Switched)
unfolding names_exist not_switched follows_script reads_memory op_before_stop op_not_kicked op_has_room op_has_buffer write_is_cached opens_protected fills_writable pushes_next exits_with_reason deposits_pushed resets_deposited flush_has_cause starts_paced asks_in_turn answers_covered answers_dirty throttles_due copies_next stops_when_few switches_when_copied
switches_legally guest past r m = record { kept = rw (rest_follows guest past (Switched) r.rests, r.here, rest_due guest past r.rests, m.stopped, m.synced, m.answered, m.copied) refl }

-- a throttle that is due, as long as the formula says
pub throttles_legally : (guest : Guest) (past : List Event) (v : ℕ) → last_owes_write past ≡ false → list_any is_switched past ≡ false → v < vcpu_count guest → throttle_due guest past ≡ Some v → MayFollow guest past (Throttled v (throttle guest v past).us)
unfolding names_exist not_switched follows_script reads_memory op_before_stop op_not_kicked op_has_room op_has_buffer write_is_cached opens_protected fills_writable pushes_next exits_with_reason deposits_pushed resets_deposited flush_has_cause starts_paced asks_in_turn answers_covered answers_dirty throttles_due copies_next stops_when_few switches_when_copied
throttles_legally guest past v owed here hv due = record { kept = rw (follows_rest guest past (Throttled v (throttle guest v past).us) owed, here, lt-ltb v (vcpu_count guest) hv, due, same v, same (throttle guest v past).us) refl }
