-- A vCPU executes its next operation.
use Rattle.std.proofs.Common.{◌≡◌, ℕ, ◌+◌, ◌-◌, ◌<◌, ◌≤◌, max, Bool, true, false, cond, List, ◌∷◌, Option, Some, None, is_some, refl, sym, subst, arith}
use Rattle.std.specs.Prelude.{◌==◌, ◌||◌, not, IfSome}
use Rattle.std.proofs.lemmas.Bool.{false≢true, true≢false}
use Rattle.dr_types.specs.declared.guest.Guest.{Guest}
use Rattle.dr_types.specs.declared.guest.Op.{Op}
use Rattle.dr_types.specs.declared.guest.Op.TheVariants as op
use Rattle.dr_types.specs.Pages.{page_count}
use Rattle.dr_types.specs.Scripts.{operation, vcpu_count}
use Rattle.dr_types.specs.Validity.{IsValid}
use Rattle.dr_script.specs.Fits.{IsOpOrHalt}
use Rattle.dr_script.proofs.Fits.{op_fits as op_is_valid}
use Rattle.dr_history.specs.declared.event.Event.{Event}
use Rattle.dr_history.specs.declared.event.Event.TheVariants.{Opened, Filled}
use Rattle.dr_history.specs.Entries.{opens, pushes, resets}
use Rattle.dr_history.specs.Execution.{ops}
use Rattle.dr_history.specs.Legality.{IsLegalSoFar}
use Rattle.dr_history.specs.Protection.{started, opened_last, writable, cached}
use Rattle.dr_history.specs.Rules.{vcpu_of_op}
use Rattle.dr_history.specs.Vcpus.{halted, stopped, kicked, is_full}
use Rattle.dr_history_law.specs.Room.{unpushed}
use Rattle.dr_event_law.specs.May.{MayFollow, AtRest, WritesNext}
use Rattle.dr_event_law.specs.Operations.{op_event, op_page, OpFits}
use Rattle.dr_event_law.proofs.Legally.{opens_legally, fills_legally}
use Rattle.dr_event_law.proofs.Operations.{op_writes, op_quiet, op_of}
use Rattle.dr_event_law.proofs.Rest.{rest_due, ends_before}
use Rattle.dr_event_law.proofs.Running.{running_here, has_operation}
use Rattle.dr_event_law.proofs.Writes.{writes_alone, writes_filled, writes_opened}
use Rattle.dr_turns.specs.Between.{AtTurnsEnd, MayTurn, OthersFew}
use Rattle.dr_turns.specs.Turns.{refusal, event_after, op_after, executed}
use Rattle.dr_turns_law.proofs.Operations.{valid_ends, valid_some, op_in_page, frame_page, op_rest, op_counts}

none_case : {X : Type 0} (b : Bool) (t : X) (rest : Option X) → cond b (Some t) rest ≡ None → (b ≡ false) × (rest ≡ None)
none_case true t rest h = cc
none_case false t rest h = (refl, h)

-- a vCPU that nothing refuses may have its turn
pub may_turn : (guest : Guest) (past : List Event) (over : Bool) (v : ℕ) → IsValid guest → IsLegalSoFar guest past → AtTurnsEnd guest past → v < vcpu_count guest → refusal guest over v past ≡ None → MayTurn guest past v
may_turn guest past over v valid legal end hv free =
    let a = none_case over _ _ free in
    let b = none_case (halted v past) _ _ a.1 in
    let c = none_case (stopped past) _ _ b.1 in
    let d = none_case (kicked v past) _ _ c.1 in
    let e = none_case (is_full guest v past) _ None d.1 in
    record {
      valid = valid;
      end = end;
      run = record {
        vcpu = hv;
        here = running_here guest past legal c.0;
        running = c.0;
        unkicked = d.0;
        room = e.0;
        buffer = subst (λ (p : List Event). opens v p - pushes v past < max 1 guest.settings.buffer) (sym (ends_before guest past end.rests)) (end.buffers v);
        due = rest_due guest past end.rests;
      };
      some = has_operation guest past v (valid_ends guest valid) (valid_some guest v valid hv) legal b.0;
    }

-- an operation of a valid guest has its bytes in one page
pub op_fits : (guest : Guest) (v i : ℕ) (o : Op) → IsValid guest → operation guest v i ≡ Some o → OpFits guest o
op_fits guest v i o valid is =
    op_in_page guest o (subst (λ (p : Option Op). IfSome p (IsOpOrHalt guest.slots)) is (op_is_valid guest v i valid))

-- the page that an operation writes is one of the guest
pub page_within : (guest : Guest) (o : Op) (page : ℕ) → op_page guest o ≡ Some page → OpFits guest o → page < page_count guest
page_within guest (op.W space address len value) page is fits = frame_page guest space _ page is
page_within guest (op.F space frame byte) page is fits = frame_page guest space frame page is
page_within guest (op.S space address) page is fits = frame_page guest space _ page is
page_within guest (op.R space address) page is fits = cc
page_within guest (op.A n) page is fits = cc
page_within guest (op.Nap us) page is fits = cc
page_within guest op.Halt page is fits = cc

-- an operation that writes no page follows the rules
pub quiet_follows : (guest : Guest) (past : List Event) (v : ℕ) (o : Op) → MayTurn guest past v → operation guest v (ops v past) ≡ Some o → op_page guest o ≡ None → MayFollow guest past (op_event guest v past o)
quiet_follows guest past v o t is place = op_quiet guest past v o t.run.vcpu t.end.rests t.run is (op_fits guest v (ops v past) o t.valid is) place

-- the event of an operation that writes a page is the vCPU's next operation, and writes that page
pub event_writes : (guest : Guest) (past : List Event) (v page : ℕ) (o : Op) → MayTurn guest past v → operation guest v (ops v past) ≡ Some o → op_page guest o ≡ Some page → WritesNext guest past v page (op_event guest v past o)
event_writes guest past v page o t is place =
    let fits = op_fits guest v (ops v past) o t.valid is in
    op_writes guest past v page o t.run.vcpu (page_within guest o page place fits) is fits place

-- a write comes alone before Start and where its page is cached
pub alone_follows : (guest : Guest) (past : List Event) (v page : ℕ) (e : Event) → MayTurn guest past v → WritesNext guest past v page e → (not (started past) || cached v page past) ≡ true → MayFollow guest past e
alone_follows guest past v page e t m c = writes_alone guest past v page e t.end.rests t.run m c

not_alone : (s c : Bool) → (not s || c) ≡ false → (s ≡ true) × (c ≡ false)
not_alone true c h = (refl, h)
not_alone false c h = absurd (true≢false h)

opened_case : (s o w : Bool) → s ≡ true → (not s || o) ≡ w → o ≡ w
opened_case true o w h k = k
opened_case false o w h k = absurd (false≢true h)

-- a Filled comes where the page is writable and not cached
pub filled_follows : (guest : Guest) (past : List Event) (v page : ℕ) → MayTurn guest past v → page < page_count guest → (not (started past) || cached v page past) ≡ false → writable page past ≡ true → MayFollow guest past (Filled v page)
filled_follows guest past v page t hp c w =
    let parts = not_alone (started past) (cached v page past) c in
    fills_legally guest past v page (record { rests = t.end.rests; here = t.run.here })
    (record { vcpu = t.run.vcpu; within = hp; started = parts.0; writable = opened_case (started past) (opened_last page past) true parts.0 w; uncached = parts.1 })

-- an Opened of the vCPU's next number comes where the page is protected and not cached
pub opened_follows : (guest : Guest) (past : List Event) (v page : ℕ) → MayTurn guest past v → page < page_count guest → (not (started past) || cached v page past) ≡ false → writable page past ≡ false → MayFollow guest past (Opened v (opens v past) page)
opened_follows guest past v page t hp c w =
    let parts = not_alone (started past) (cached v page past) c in
    opens_legally guest past v page (record { rests = t.end.rests; here = t.run.here })
    (record { vcpu = t.run.vcpu; within = hp; started = parts.0; protected = opened_case (started past) (opened_last page past) false parts.0 w; uncached = parts.1 })

-- a write comes after its Filled
pub write_follows_filled : (guest : Guest) (past : List Event) (v page : ℕ) (e : Event) → MayTurn guest past v → WritesNext guest past v page e → MayFollow guest (Filled v page ∷ past) e
write_follows_filled guest past v page e t m = writes_filled guest past v page e t.run (t.end.buffers v) m

-- a write comes after its Opened
pub write_follows_opened : (guest : Guest) (past : List Event) (v k page : ℕ) (e : Event) → MayTurn guest past v → WritesNext guest past v page e → MayFollow guest (Opened v k page ∷ past) e
write_follows_opened guest past v k page e t m = writes_opened guest past v k page e t.run (t.end.buffers v) m

write_case : (P : List Event → Type 0) (alone writes : Bool) (a b c : List Event) → P a → P b → P c → P (cond alone a (cond writes b c))
write_case P true writes a b c x y z = x
write_case P false true a b c x y z = y
write_case P false false a b c x y z = z

by_place : (P : List Event → Type 0) (v : ℕ) (e : Event) (place : Option ℕ) (past : List Event) → P (e ∷ past) → ((page : ℕ) → P (e ∷ Filled v page ∷ past)) → ((page : ℕ) → P (e ∷ Opened v (opens v past) page ∷ past)) → P (event_after v e place past)
by_place P v e None past a f o = a
by_place P v e (Some page) past a f o =
    write_case P (not (started past) || cached v page past) (writable page past) (e ∷ past) (e ∷ Filled v page ∷ past) (e ∷ Opened v (opens v past) page ∷ past) a (f page) (o page)

by_op : (P : List Event → Type 0) (guest : Guest) (past : List Event) (v : ℕ) (o : Option Op) → (o ≡ None → P past) → ((e : Event) → vcpu_of_op e ≡ Some v → P (e ∷ past)) → ((e : Event) (page : ℕ) → vcpu_of_op e ≡ Some v → P (e ∷ Filled v page ∷ past))
    → ((e : Event) (page : ℕ) → vcpu_of_op e ≡ Some v → P (e ∷ Opened v (opens v past) page ∷ past)) → P (op_after guest v o past)
by_op P guest past v None n a f o = n refl
by_op P guest past v (Some x) n a f o =
    let e : Event = op_event guest v past x in
    let is : vcpu_of_op e ≡ Some v = op_of guest past v x in
    by_place P v (op_event guest v past x) (op_page guest x) past (a (op_event guest v past x) is) (λ page. f (op_event guest v past x) page is) (λ page. o (op_event guest v past x) page is)

-- what holds after an operation in each of its three places holds after what is executed
pub by_executed : (P : List Event → Type 0) (guest : Guest) (past : List Event) (v : ℕ) → (operation guest v (ops v past) ≡ None → P past) → ((e : Event) → vcpu_of_op e ≡ Some v → P (e ∷ past)) → ((e : Event) (page : ℕ) → vcpu_of_op e ≡ Some v → P (e ∷ Filled v page ∷ past))
    → ((e : Event) (page : ℕ) → vcpu_of_op e ≡ Some v → P (e ∷ Opened v (opens v past) page ∷ past)) → P (executed guest v past)
unfolding executed
by_executed P guest past v n a f o = by_op P guest past v (operation guest v (ops v past)) n a f o

no_none : {X : Type 0} (o : Option X) → is_some o ≡ true → o ≡ None → ⊥
no_none None s h = false≢true s
no_none (Some x) s h = cc

-- after what a vCPU executes the history is at rest
pub executed_rests : (guest : Guest) (past : List Event) (v : ℕ) → MayTurn guest past v → AtRest guest (executed guest v past)
executed_rests guest past v t =
    by_executed (λ (xs : List Event). AtRest guest xs) guest past v
    (λ none. absurd (no_none (operation guest v (ops v past)) t.some none))
    (λ e is. op_rest guest past e v is t.run.here)
    (λ e page is. op_rest guest (Filled v page ∷ past) e v is t.run.here)
    (λ e page is. op_rest guest (Opened v (opens v past) page ∷ past) e v is t.run.here)

-- one entry more is no more in another's buffer
other_case : (same : Bool) (o p m : ℕ) → same ≡ false → o - p < m → cond same (o + 1) o - p < m
other_case true o p m h lt = absurd (true≢false h)
other_case false o p m h lt = lt

few_after : (past : List Event) (e : Event) (v u m : ℕ) → vcpu_of_op e ≡ Some v → unpushed u past < m → unpushed u (e ∷ past) < m
few_after past e v u m is lt = subst (λ (n : ℕ). n < m) (sym (op_counts past e v u is).unpushed_stay) lt

-- no buffer has grown full, but perhaps its own
pub executed_others : (guest : Guest) (past : List Event) (v : ℕ) → MayTurn guest past v → OthersFew guest (executed guest v past) v
executed_others guest past v t =
    by_executed (λ (xs : List Event). OthersFew guest xs v) guest past v
    (λ none. absurd (no_none (operation guest v (ops v past)) t.some none))
    (λ e is. record { few = λ u ne. few_after past e v u (max 1 guest.settings.buffer) is (t.end.buffers u) })
    (λ e page is. record { few = λ u ne. few_after (Filled v page ∷ past) e v u (max 1 guest.settings.buffer) is (t.end.buffers u) })
    (λ e page is. record {
      few = λ u ne. few_after (Opened v (opens v past) page ∷ past) e v u (max 1 guest.settings.buffer) is
          (other_case (v == u) (opens u past) (pushes u past) (max 1 guest.settings.buffer) ne (t.end.buffers u));
    })

one_opened : (same : Bool) (o p m : ℕ) → o - p < m → cond same (o + 1) o - p ≤ m
one_opened true o p m h = omega arith
one_opened false o p m h = omega arith

most_after : (past : List Event) (e : Event) (v m : ℕ) → vcpu_of_op e ≡ Some v → unpushed v past ≤ m → unpushed v (e ∷ past) ≤ m
most_after past e v m is le = subst (λ (n : ℕ). n ≤ m) (sym (op_counts past e v v is).unpushed_stay) le

most : (n m : ℕ) → n < m → n ≤ m
most n m h = omega (arith, h)

-- and its own is no more than full
pub executed_own : (guest : Guest) (past : List Event) (v : ℕ) → MayTurn guest past v → unpushed v (executed guest v past) ≤ max 1 guest.settings.buffer
executed_own guest past v t =
    by_executed (λ (xs : List Event). unpushed v xs ≤ max 1 guest.settings.buffer) guest past v
    (λ none. absurd (no_none (operation guest v (ops v past)) t.some none))
    (λ e is. most_after past e v (max 1 guest.settings.buffer) is (most (unpushed v past) (max 1 guest.settings.buffer) (t.end.buffers v)))
    (λ e page is. most_after (Filled v page ∷ past) e v (max 1 guest.settings.buffer) is (most (unpushed v past) (max 1 guest.settings.buffer) (t.end.buffers v)))
    (λ e page is. most_after (Opened v (opens v past) page ∷ past) e v (max 1 guest.settings.buffer) is
    (one_opened (v == v) (opens v past) (pushes v past) (max 1 guest.settings.buffer) (t.end.buffers v)))

-- what is executed pushes nothing
pub executed_counts : (guest : Guest) (past : List Event) (v u : ℕ) → pushes u (executed guest v past) ≡ pushes u past
executed_counts guest past v u =
    by_executed (λ (xs : List Event). pushes u xs ≡ pushes u past) guest past v (λ none. refl)
    (λ e is. (op_counts past e v u is).pushes_stay)
    (λ e page is. (op_counts (Filled v page ∷ past) e v u is).pushes_stay)
    (λ e page is. (op_counts (Opened v (opens v past) page ∷ past) e v u is).pushes_stay)

-- and resets nothing
pub resets_executed : (guest : Guest) (past : List Event) (v u : ℕ) → resets u (executed guest v past) ≡ resets u past
resets_executed guest past v u =
    by_executed (λ (xs : List Event). resets u xs ≡ resets u past) guest past v (λ none. refl)
    (λ e is. (op_counts past e v u is).resets_stay)
    (λ e page is. (op_counts (Filled v page ∷ past) e v u is).resets_stay)
    (λ e page is. (op_counts (Opened v (opens v past) page ∷ past) e v u is).resets_stay)
