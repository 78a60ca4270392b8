-- A page that a vCPU has written is cached for it.
use Rattle.std.proofs.Common.{◌≡◌, ℕ, Bool, true, false, cond, List, ◌∷◌, Option, Some, None, refl, sym, subst, ◌∙◌}
use Rattle.std.specs.Prelude.{◌==◌, ◌||◌, ◌&&◌, not}
use Rattle.std.proofs.lemmas.Bool.{eq-eqb, false≢true, true≢false}
use Rattle.dr_types.specs.declared.guest.Guest.{Guest}
use Rattle.dr_types.specs.declared.guest.Op.{Op}
use Rattle.dr_types.specs.Scripts.{operation}
use Rattle.dr_history.specs.declared.event.Event.{Event}
use Rattle.dr_history.specs.declared.event.Event.TheVariants.{Opened, Filled}
use Rattle.dr_history.specs.Entries.{opens}
use Rattle.dr_history.specs.Execution.{ops}
use Rattle.dr_history.specs.Protection.{started, opened_last, writable, cached}
use Rattle.dr_history.specs.Rules.{vcpu_of_op}
use Rattle.dr_event_law.specs.Operations.{op_event}
use Rattle.dr_event_law.proofs.Operations.{op_of}
use Rattle.dr_turns.specs.Turns.{event_after, op_after, executed, after_op}
use Rattle.dr_machine_law.specs.Turns.{page_of_op, next_page}
use Rattle.dr_machine_law.proofs.Events.{op_leaves}
use Rattle.dr_machine_law.proofs.Pushing.{by_full}

after_case : (P : List Event → Type 0) (alone writes : Bool) (a b c : List Event) → (alone ≡ true → P a) → (alone ≡ false → writes ≡ true → P b) → (alone ≡ false → P c) → P (cond alone a (cond writes b c))
after_case P true writes a b c x y z = x refl
after_case P false true a b c x y z = y refl refl
after_case P false false a b c x y z = z refl

had : (s c : Bool) → s ≡ true → (not s || c) ≡ true → c ≡ true
had true c h k = k
had false c h k = absurd (false≢true h)

or_right : (a b : Bool) → b ≡ true → (a || b) ≡ true
or_right true b h = refl
or_right false b h = h

given : (v page : ℕ) (rest : Bool) → ((v == v && page == page) || rest) ≡ true
given v page rest = rw (eq-eqb v v refl, eq-eqb page page refl) refl

-- after a write that comes after Start its page is cached
pub event_cached : (v page : ℕ) (e : Event) (past : List Event) → vcpu_of_op e ≡ Some v → started past ≡ true → cached v page (event_after v e (Some page) past) ≡ true
event_cached v page e past is begun =
    after_case (λ (xs : List Event). cached v page xs ≡ true) (not (started past) || cached v page past) (writable page past) (e ∷ past) (e ∷ Filled v page ∷ past) (e ∷ Opened v (opens v past) page ∷ past)
    (λ alone. (op_leaves v past e is).cached_stays v page ∙ had (started past) (cached v page past) begun alone)
    (λ asks writes. (op_leaves v (Filled v page ∷ past) e is).cached_stays v page ∙ given v page (cached v page past))
    (λ asks. (op_leaves v (Opened v (opens v past) page ∷ past) e is).cached_stays v page ∙ given v page (cached v page past))

writable_op : (v page : ℕ) (e : Event) (past : List Event) → vcpu_of_op e ≡ Some v → writable page past ≡ true → writable page (e ∷ past) ≡ true
writable_op v page e past is w =
    let leaves = op_leaves v past e is in
    rw (leaves.started_stays, leaves.opened_stays page) w

writable_opened : (v k page : ℕ) (past : List Event) → writable page (Opened v k page ∷ past) ≡ true
writable_opened v k page past = or_right (not (started past)) (cond (page == page) true (opened_last page past)) (rw (eq-eqb page page refl) refl)

-- and it is writable, where it wasn't cached before
pub event_writable : (v page : ℕ) (e : Event) (past : List Event) → vcpu_of_op e ≡ Some v → started past ≡ true → cached v page past ≡ false → writable page (event_after v e (Some page) past) ≡ true
event_writable v page e past is begun uncached =
    after_case (λ (xs : List Event). writable page xs ≡ true) (not (started past) || cached v page past) (writable page past) (e ∷ past) (e ∷ Filled v page ∷ past) (e ∷ Opened v (opens v past) page ∷ past)
    (λ alone. absurd (true≢false (sym (had (started past) (cached v page past) begun alone) ∙ uncached)))
    (λ asks writes. writable_op v page e (Filled v page ∷ past) is writes)
    (λ asks. writable_op v page e (Opened v (opens v past) page ∷ past) is (writable_opened v (opens v past) page past))

by_next : (P : List Event → Type 0) (guest : Guest) (v page : ℕ) (past : List Event) (next : Option Op) → page_of_op guest next ≡ Some page → ((e : Event) → vcpu_of_op e ≡ Some v → P (event_after v e (Some page) past)) → P (op_after guest v next past)
by_next P guest v page past None place after = cc
by_next P guest v page past (Some o) place after =
    subst (λ (p : Option ℕ). P (event_after v (op_event guest v past o) p past)) (sym place) (after (op_event guest v past o) (op_of guest past v o))

by_write : (P : List Event → Type 0) (guest : Guest) (v page : ℕ) (past : List Event) → next_page guest v past ≡ Some page → ((e : Event) → vcpu_of_op e ≡ Some v → P (event_after v e (Some page) past)) → P (executed guest v past)
unfolding executed
by_write P guest v page past place after = by_next P guest v page past (operation guest v (ops v past)) place after

-- after a turn that wrote a page after Start, the page is cached
pub cached_after : (guest : Guest) (v page : ℕ) (past : List Event) → next_page guest v past ≡ Some page → started past ≡ true → cached v page (after_op guest v past) ≡ true
cached_after guest v page past place begun =
    by_full (λ (xs : List Event). cached v page xs ≡ true) guest v (executed guest v past) (λ k xs h. h)
    (by_write (λ (xs : List Event). cached v page xs ≡ true) guest v page past place (λ e is. event_cached v page e past is begun))

-- and writable, where it wasn't cached before
pub writable_after : (guest : Guest) (v page : ℕ) (past : List Event) → next_page guest v past ≡ Some page → started past ≡ true → cached v page past ≡ false → writable page (after_op guest v past) ≡ true
writable_after guest v page past place begun uncached =
    by_full (λ (xs : List Event). writable page xs ≡ true) guest v (executed guest v past) (λ k xs h. h)
    (by_write (λ (xs : List Event). writable page xs ≡ true) guest v page past place (λ e is. event_writable v page e past is begun uncached))
