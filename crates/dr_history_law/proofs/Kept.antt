-- What the rules give of a legal event: each rule, and for each kind of event the facts that proofs cite.
use Rattle.std.proofs.Common.{◌≡◌, ℕ, zero, suc, ◌+◌, ◌-◌, ◌<◌, ◌≤◌, max, Bool, true, false, List, [], ◌∷◌, Option, Some, None, is_some, refl, subst}
use Rattle.std.specs.Prelude.{◌||◌, not, nat_lt}
use Rattle.std.specs.List.{slice_get, list_any, list_all}
use Rattle.std.proofs.lemmas.Bool.{eqb-true, ltb-true, leb-true, leb-false, and_parts, not-true, false≢true}
use Rattle.dr_types.specs.declared.guest.Guest.{Guest}
use Rattle.dr_types.specs.Pages.{page_count, page_of_address, soft_limit}
use Rattle.dr_history.specs.declared.event.Event.{Event}
use Rattle.dr_history.specs.declared.event.Event.TheVariants.{Start, Write, Paint, Opened, Filled, Pushed, Deposited, Reset, Asked, Synced, Stopped, Switched}
use Rattle.dr_history.specs.Lookback.{below, before, since, is_number}
use Rattle.dr_history.specs.Kinds.{is_asked, is_stopped, is_switched, is_synced}
use Rattle.dr_history.specs.Entries.{opens, pushes, resets, used}
use Rattle.dr_history.specs.Protection.{started, writable, cached, closing}
use Rattle.dr_history.specs.Dirty.{dirty_pages}
use Rattle.dr_history.specs.Vcpus.{stopped, is_full}
use Rattle.dr_history.specs.Rounds.{asks, unanswered, is_reset_in, round_copied, last_synced}
use Rattle.dr_history.specs.Execution.{is_next_op}
use Rattle.dr_history.specs.Rules.{write_follows, names_exist, not_switched, follows_script, reads_memory, op_before_stop, op_not_kicked, op_has_room, op_has_buffer, write_is_cached, opens_protected, fills_writable, pushes_next, exits_with_reason, deposits_pushed, resets_deposited, flush_has_cause, starts_paced, asks_in_turn, answers_covered, answers_dirty, throttles_due, copies_next, stops_when_few, switches_when_copied, writes_page, for_op, vcpu_of_op, before_fault, is_cached_for, deposits_entry, same_numbers}
use Rattle.dr_history.specs.Legality.{first_failing, rules, broken}
use Rattle.dr_history_law.specs.Stop.{last_opens}

-- where no test fails, each holds
holds : (n : ℕ) (tests : List Bool) (i : ℕ) (b : Bool) → first_failing n tests ≡ None → slice_get tests i ≡ Some b → b ≡ true
holds n [] i b h s = cc
holds n (true ∷ tests) zero b h s = cc
holds n (true ∷ tests) (suc i) b h s = holds (n + 1) tests i b h s
holds n (false ∷ tests) i b h s = cc

-- an event keeps each rule
pub record Keeps (guest : Guest) (past : List Event) (e : Event) : Type 0 where
  pub write_follows_holds : write_follows guest past e ≡ true
  pub names_exist_holds : names_exist guest past e ≡ true
  pub not_switched_holds : not_switched guest past e ≡ true
  pub follows_script_holds : follows_script guest past e ≡ true
  pub reads_memory_holds : reads_memory guest past e ≡ true
  pub op_before_stop_holds : op_before_stop guest past e ≡ true
  pub op_not_kicked_holds : op_not_kicked guest past e ≡ true
  pub op_has_room_holds : op_has_room guest past e ≡ true
  pub op_has_buffer_holds : op_has_buffer guest past e ≡ true
  pub write_is_cached_holds : write_is_cached guest past e ≡ true
  pub opens_protected_holds : opens_protected guest past e ≡ true
  pub fills_writable_holds : fills_writable guest past e ≡ true
  pub pushes_next_holds : pushes_next guest past e ≡ true
  pub exits_with_reason_holds : exits_with_reason guest past e ≡ true
  pub deposits_pushed_holds : deposits_pushed guest past e ≡ true
  pub resets_deposited_holds : resets_deposited guest past e ≡ true
  pub flush_has_cause_holds : flush_has_cause guest past e ≡ true
  pub starts_paced_holds : starts_paced guest past e ≡ true
  pub asks_in_turn_holds : asks_in_turn guest past e ≡ true
  pub answers_covered_holds : answers_covered guest past e ≡ true
  pub answers_dirty_holds : answers_dirty guest past e ≡ true
  pub throttles_due_holds : throttles_due guest past e ≡ true
  pub copies_next_holds : copies_next guest past e ≡ true
  pub stops_when_few_holds : stops_when_few guest past e ≡ true
  pub switches_when_copied_holds : switches_when_copied guest past e ≡ true

pub keeps : (guest : Guest) (past : List Event) (e : Event) → broken guest past e ≡ None → Keeps guest past e
keeps guest past e h = record {
  write_follows_holds = holds 1 (rules guest past e) 0 (write_follows guest past e) h refl;
  names_exist_holds = holds 1 (rules guest past e) 1 (names_exist guest past e) h refl;
  not_switched_holds = holds 1 (rules guest past e) 2 (not_switched guest past e) h refl;
  follows_script_holds = holds 1 (rules guest past e) 3 (follows_script guest past e) h refl;
  reads_memory_holds = holds 1 (rules guest past e) 4 (reads_memory guest past e) h refl;
  op_before_stop_holds = holds 1 (rules guest past e) 5 (op_before_stop guest past e) h refl;
  op_not_kicked_holds = holds 1 (rules guest past e) 6 (op_not_kicked guest past e) h refl;
  op_has_room_holds = holds 1 (rules guest past e) 7 (op_has_room guest past e) h refl;
  op_has_buffer_holds = holds 1 (rules guest past e) 8 (op_has_buffer guest past e) h refl;
  write_is_cached_holds = holds 1 (rules guest past e) 9 (write_is_cached guest past e) h refl;
  opens_protected_holds = holds 1 (rules guest past e) 10 (opens_protected guest past e) h refl;
  fills_writable_holds = holds 1 (rules guest past e) 11 (fills_writable guest past e) h refl;
  pushes_next_holds = holds 1 (rules guest past e) 12 (pushes_next guest past e) h refl;
  exits_with_reason_holds = holds 1 (rules guest past e) 13 (exits_with_reason guest past e) h refl;
  deposits_pushed_holds = holds 1 (rules guest past e) 14 (deposits_pushed guest past e) h refl;
  resets_deposited_holds = holds 1 (rules guest past e) 15 (resets_deposited guest past e) h refl;
  flush_has_cause_holds = holds 1 (rules guest past e) 16 (flush_has_cause guest past e) h refl;
  starts_paced_holds = holds 1 (rules guest past e) 17 (starts_paced guest past e) h refl;
  asks_in_turn_holds = holds 1 (rules guest past e) 18 (asks_in_turn guest past e) h refl;
  answers_covered_holds = holds 1 (rules guest past e) 19 (answers_covered guest past e) h refl;
  answers_dirty_holds = holds 1 (rules guest past e) 20 (answers_dirty guest past e) h refl;
  throttles_due_holds = holds 1 (rules guest past e) 21 (throttles_due guest past e) h refl;
  copies_next_holds = holds 1 (rules guest past e) 22 (copies_next guest past e) h refl;
  stops_when_few_holds = holds 1 (rules guest past e) 23 (stops_when_few guest past e) h refl;
  switches_when_copied_holds = holds 1 (rules guest past e) 24 (switches_when_copied guest past e) h refl;
}

-- what holds where an operation is executed
pub record Executes (guest : Guest) (past : List Event) (v : ℕ) : Type 0 where
  pub running : stopped past ≡ false
  pub room : used v past < soft_limit guest
  pub buffer : opens v (before_fault past) - pushes v past < max 1 guest.settings.buffer

pub op_facts : (guest : Guest) (past : List Event) (e : Event) (v : ℕ) → broken guest past e ≡ None → vcpu_of_op e ≡ Some v → Executes guest past v
unfolding op_before_stop op_has_room op_has_buffer
op_facts guest past e v h o =
    let k = keeps guest past e h in
    let at = λ (passes : ℕ → Bool) (t : for_op passes (vcpu_of_op e) ≡ true). subst (λ (p : Option ℕ). for_op passes p ≡ true) o t in
    record {
      running = not-true (stopped past) (at (λ w. not (stopped past)) k.op_before_stop_holds);
      room = leb-false (soft_limit guest) (used v past) (not-true (is_full guest v past) (at (λ w. not (is_full guest w past)) k.op_has_room_holds));
      buffer = ltb-true (opens v (before_fault past) - pushes v past) (max 1 guest.settings.buffer)
          (at (λ w. nat_lt (opens w (before_fault past) - pushes w past) (max 1 guest.settings.buffer)) k.op_has_buffer_holds);
    }

-- an operation is the next one of its script
pub op_next : (guest : Guest) (past : List Event) (e : Event) → broken guest past e ≡ None → is_next_op guest past e ≡ true
unfolding follows_script
op_next guest past e h = (keeps guest past e h).follows_script_holds

-- after an Opened comes a write of its vCPU into its page
pub opened_written : (guest : Guest) (past : List Event) (v k page : ℕ) (e : Event) → broken guest (Opened v k page ∷ past) e ≡ None → writes_page guest v page e ≡ true
unfolding write_follows
opened_written guest past v k page e h = (keeps guest (Opened v k page ∷ past) e h).write_follows_holds

write_runs : (guest : Guest) (past : List Event) (v page : ℕ) (e : Event) → broken guest past e ≡ None → writes_page guest v page e ≡ true → stopped past ≡ false
write_runs guest past v page (Write w i space address len value) h t = (op_facts guest past (Write w i space address len value) w h refl).running
write_runs guest past v page (Paint w i q byte) h t = (op_facts guest past (Paint w i q byte) w h refl).running
write_runs guest past v page e h t = absurd (false≢true t)

-- no event comes after an Opened that comes after Stopped
pub opened_ends : (guest : Guest) (past : List Event) (e : Event) → broken guest past e ≡ None → stopped past ≡ true → last_opens past ≡ false
opened_ends guest [] e h s = refl
opened_ends guest (Opened v k page ∷ past) e h s =
    let f : stopped past ≡ false = write_runs guest (Opened v k page ∷ past) v page e h (opened_written guest past v k page e h) in
    cc
opened_ends guest (last ∷ past) e h s = refl

-- after Start
after : (s c : Bool) → (not s || c) ≡ true → s ≡ true → c ≡ true
after true c h s = h
after false c h s = absurd (false≢true s)

cached_at : (v page : ℕ) (past : List Event) (place : Option ℕ) → is_cached_for v past place ≡ true → is_number page place ≡ true → cached v page past ≡ true
cached_at v page past None c n = absurd (false≢true n)
cached_at v page past (Some q) c n = subst (λ (p : ℕ). cached v p past ≡ true) (eqb-true q page n) c

-- after Start the page of a write is cached
pub write_cached : (guest : Guest) (past : List Event) (v i space address len value page : ℕ) → broken guest past (Write v i space address len value) ≡ None → is_number page (page_of_address guest space address) ≡ true → started past ≡ true → cached v page past ≡ true
unfolding write_is_cached
write_cached guest past v i space address len value page h n s =
    cached_at v page past (page_of_address guest space address) (after (started past) (is_cached_for v past (page_of_address guest space address)) (keeps guest past (Write v i space address len value) h).write_is_cached_holds s) n

-- what holds where a page is painted
pub record Paints (guest : Guest) (past : List Event) (v page : ℕ) : Type 0 where
  pub named : page < page_count guest
  pub is_cached : started past ≡ true → cached v page past ≡ true

pub paint_facts : (guest : Guest) (past : List Event) (v i page byte : ℕ) → broken guest past (Paint v i page byte) ≡ None → Paints guest past v page
unfolding names_exist write_is_cached
paint_facts guest past v i page byte h =
    let k = keeps guest past (Paint v i page byte) h in
    record {
      named = ltb-true page (page_count guest) (and_parts _ _ k.names_exist_holds).1;
      is_cached = after (started past) (cached v page past) k.write_is_cached_holds;
    }

-- what holds where an entry is opened
pub record Opens (guest : Guest) (past : List Event) (v k page : ℕ) : Type 0 where
  pub named : page < page_count guest
  pub started : started past ≡ true
  pub protected : writable page past ≡ false
  pub uncached : cached v page past ≡ false
  pub number : k ≡ opens v past

pub opens_facts : (guest : Guest) (past : List Event) (v k page : ℕ) → broken guest past (Opened v k page) ≡ None → Opens guest past v k page
unfolding names_exist opens_protected
opens_facts guest past v k page h =
    let kept = keeps guest past (Opened v k page) h in
    let a = and_parts _ _ kept.opens_protected_holds in
    let b = and_parts _ _ a.0 in
    let c = and_parts _ _ b.0 in
    record {
      named = ltb-true page (page_count guest) (and_parts _ _ kept.names_exist_holds).1;
      started = c.0;
      protected = not-true (writable page past) c.1;
      uncached = not-true (cached v page past) b.1;
      number = eqb-true k (opens v past) a.1;
    }

-- what holds where a permission is filled
pub record Fills (past : List Event) (v page : ℕ) : Type 0 where
  pub started : started past ≡ true
  pub writable : writable page past ≡ true
  pub uncached : cached v page past ≡ false

pub fills_facts : (guest : Guest) (past : List Event) (v page : ℕ) → broken guest past (Filled v page) ≡ None → Fills past v page
unfolding fills_writable
fills_facts guest past v page h =
    let a = and_parts _ _ (keeps guest past (Filled v page) h).fills_writable_holds in
    let b = and_parts _ _ a.0 in
    record { started = b.0; writable = b.1; uncached = not-true (cached v page past) a.1 }

-- what holds where an entry is pushed
pub record Pushes (past : List Event) (v k : ℕ) : Type 0 where
  pub number : k ≡ pushes v past
  pub opened : k < opens v past

pub pushes_facts : (guest : Guest) (past : List Event) (v k : ℕ) → broken guest past (Pushed v k) ≡ None → Pushes past v k
unfolding pushes_next
pushes_facts guest past v k h =
    let a = and_parts _ _ (and_parts _ _ (keeps guest past (Pushed v k) h).pushes_next_holds).0 in
    record { number = eqb-true k (pushes v past) a.0; opened = ltb-true k (opens v past) a.1 }

-- deposited entries were pushed
pub deposits_facts : (guest : Guest) (past : List Event) (v from to : ℕ) → broken guest past (Deposited v from to) ≡ None → to ≤ pushes v past
unfolding deposits_pushed
deposits_facts guest past v from to h =
    leb-true to (pushes v past) (and_parts _ _ (and_parts _ _ (keeps guest past (Deposited v from to) h).deposits_pushed_holds).0).1

-- what holds where an entry is reset
pub record Resets (past : List Event) (v k : ℕ) : Type 0 where
  pub number : k ≡ resets v past
  pub deposited : list_any (deposits_entry v k) past ≡ true

pub resets_facts : (guest : Guest) (past : List Event) (v k : ℕ) → broken guest past (Reset v k) ≡ None → Resets past v k
unfolding resets_deposited
resets_facts guest past v k h =
    let a = and_parts _ _ (keeps guest past (Reset v k) h).resets_deposited_holds in
    record { number = eqb-true k (resets v past) a.0; deposited = a.1 }

-- logging starts once
pub starts_facts : (guest : Guest) (past : List Event) (at : ℕ) → broken guest past (Start at) ≡ None → started past ≡ false
unfolding starts_paced
starts_facts guest past at h = not-true (started past) (and_parts _ _ (keeps guest past (Start at) h).starts_paced_holds).0

-- what holds where a round is asked
pub record Asks (past : List Event) (r : ℕ) : Type 0 where
  pub started : started past ≡ true
  pub number : r ≡ asks past + 1
  pub answered : is_some (unanswered past) ≡ false

pub asks_facts : (guest : Guest) (past : List Event) (r : ℕ) → broken guest past (Asked r) ≡ None → Asks past r
unfolding asks_in_turn
asks_facts guest past r h =
    let a = and_parts _ _ (keeps guest past (Asked r) h).asks_in_turn_holds in
    let b = and_parts _ _ a.0 in
    let c = and_parts _ _ b.0 in
    record { started = c.0; number = eqb-true r (asks past + 1) c.1; answered = not-true (is_some (unanswered past)) b.1 }

-- what holds where a round is answered
pub record Syncs (guest : Guest) (past : List Event) (r : ℕ) (pages : List ℕ) : Type 0 where
  pub asked : is_number r (unanswered past) ≡ true
  pub reset : list_all (is_reset_in past) (before is_asked past) ≡ true
  pub flushed : list_any (λ page. closing page past) (below (page_count guest)) ≡ false
  pub exact : same_numbers pages (dirty_pages guest past) ≡ true

pub syncs_facts : (guest : Guest) (past : List Event) (r at : ℕ) (pages : List ℕ) → broken guest past (Synced r at pages) ≡ None → Syncs guest past r pages
unfolding answers_covered answers_dirty
syncs_facts guest past r at pages h =
    let k = keeps guest past (Synced r at pages) h in
    let a = and_parts _ _ k.answers_covered_holds in
    let b = and_parts _ _ a.0 in
    let c = and_parts _ _ b.0 in
    record { asked = c.0; reset = b.1; flushed = not-true (list_any (λ page. closing page past) (below (page_count guest))) a.1; exact = k.answers_dirty_holds }

-- every Asked has its answer where the guest is stopped
pub stops_facts : (guest : Guest) (past : List Event) → broken guest past Stopped ≡ None → is_some (unanswered past) ≡ false
unfolding stops_when_few
stops_facts guest past h = not-true (is_some (unanswered past)) (and_parts _ _ (and_parts _ _ (keeps guest past Stopped h).stops_when_few_holds).0).1

-- what holds at the switch-over
pub record Switches (guest : Guest) (past : List Event) : Type 0 where
  pub stopped : stopped past ≡ true
  pub answered : list_any is_synced (since is_stopped past) ≡ true
  pub copied : round_copied guest (last_synced past) (since is_synced past) ≡ true

pub switches_facts : (guest : Guest) (past : List Event) → broken guest past Switched ≡ None → Switches guest past
unfolding switches_when_copied
switches_facts guest past h =
    let a = and_parts _ _ (keeps guest past Switched h).switches_when_copied_holds in
    let b = and_parts _ _ a.0 in
    let c = and_parts _ _ b.0 in
    record { stopped = c.0; answered = c.1; copied = a.1 }

-- nothing comes after the switch-over
pub unswitched : (guest : Guest) (past : List Event) (e : Event) → broken guest past e ≡ None → list_any is_switched past ≡ false
unfolding not_switched
unswitched guest past e h = not-true (list_any is_switched past) (keeps guest past e h).not_switched_holds
