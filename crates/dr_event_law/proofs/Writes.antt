-- A write breaks no rule where it may come, alone or after its Filled or Opened.
use Rattle.std.proofs.Common.{◌≡◌, ℕ, ◌<◌, max, Bool, true, false, List, ◌∷◌, Option, Some, None, refl, ap, ◌∙◌}
use Rattle.std.specs.Prelude.{not, ◌&&◌, ◌||◌, ◌==◌}
use Rattle.std.proofs.lemmas.Bool.{and_parts, eqb-true, eq-eqb, false≢true}
use Rattle.dr_types.specs.declared.guest.Guest.{Guest}
use Rattle.dr_types.specs.Pages.{page_of_address}
use Rattle.dr_history.specs.declared.event.Event.{Event}
use Rattle.dr_history.specs.declared.event.Event.TheVariants.{Write, Paint, Opened, Filled}
use Rattle.dr_history.specs.Lookback.{is_number}
use Rattle.dr_history.specs.Protection.{started, cached}
use Rattle.dr_history.specs.Rules.{write_follows, names_exist, reads_memory, write_is_cached, is_cached_for, may_end}
use Rattle.dr_history_law.specs.Room.{unpushed}
use Rattle.dr_event_law.specs.May.{MayFollow, MayRun, WritesNext}
use Rattle.dr_event_law.proofs.Rest.{rest_follows, due_opened, due_filled}
use Rattle.dr_event_law.proofs.Legally.{runs_legally}

cached_place : (v page : ℕ) (past : List Event) (place : Option ℕ) → is_number page place ≡ true → is_cached_for v past place ≡ cached v page past
cached_place v page past None n = absurd (false≢true n)
cached_place v page past (Some q) n = ap (λ (p : ℕ). cached v p past) (eqb-true q page n)

-- a write, by what holds at its place
write_legal : (guest : Guest) (past : List Event) (v page : ℕ) (e : Event) → MayRun guest past v → write_follows guest past e ≡ true → WritesNext guest past v page e → (not (started past) || cached v page past) ≡ true → MayFollow guest past e
unfolding reads_memory write_is_cached
write_legal guest past v page (Write w i space address len value) run follows m c =
    let parts = and_parts (w == v) (is_number page (page_of_address guest space address)) m.writes in
    let place : is_cached_for w past (page_of_address guest space address) ≡ cached v page past =
    ap (λ (u : ℕ). is_cached_for u past (page_of_address guest space address)) (eqb-true w v parts.0) ∙ cached_place v page past (page_of_address guest space address) parts.1 in
    runs_legally guest past (Write w i space address len value) v m.is_of run follows m.names m.next refl (ap (λ b. not (started past) || b) place ∙ c)
write_legal guest past v page (Paint w i q byte) run follows m c =
    let parts = and_parts (w == v) (q == page) m.writes in
    let place : cached w q past ≡ cached v page past = ap (λ (u : ℕ). cached u q past) (eqb-true w v parts.0) ∙ ap (λ (p : ℕ). cached v p past) (eqb-true q page parts.1) in
    runs_legally guest past (Paint w i q byte) v m.is_of run follows m.names m.next refl (ap (λ b. not (started past) || b) place ∙ c)
write_legal guest past v page e run follows m c = absurd (false≢true m.writes)

-- a write where logging has not begun or its page is cached
pub writes_alone : (guest : Guest) (past : List Event) (v page : ℕ) (e : Event) → may_end guest past ≡ true → MayRun guest past v → WritesNext guest past v page e → (not (started past) || cached v page past) ≡ true → MayFollow guest past e
writes_alone guest past v page e rests run m c = write_legal guest past v page e run (rest_follows guest past e rests) m c

or_true : (a : Bool) → (a || true) ≡ true
or_true true = refl
or_true false = refl

granted : (s : Bool) (v page : ℕ) (rest : Bool) → (not s || ((v == v && page == page) || rest)) ≡ true
granted s v page rest = ap (λ b. not s || ((b && page == page) || rest)) (eq-eqb v v refl) ∙ ap (λ b. not s || (b || rest)) (eq-eqb page page refl) ∙ or_true (not s)

-- a write after its Filled
pub writes_filled : (guest : Guest) (past : List Event) (v page : ℕ) (e : Event) → MayRun guest past v → unpushed v past < max 1 guest.settings.buffer → WritesNext guest past v page e → MayFollow guest (Filled v page ∷ past) e
unfolding write_follows names_exist
writes_filled guest past v page (Write w i space address len value) run few m =
    let r : MayRun guest (Filled v page ∷ past) v = record { vcpu = run.vcpu; here = run.here; running = run.running; unkicked = run.unkicked; room = run.room; buffer = few; due = due_filled guest past v page } in
    write_legal guest (Filled v page ∷ past) v page (Write w i space address len value) r m.writes (record { is_of = m.is_of; names = m.names; next = m.next; writes = m.writes }) (granted (started past) v page (cached v page past))
writes_filled guest past v page (Paint w i q byte) run few m =
    let r : MayRun guest (Filled v page ∷ past) v = record { vcpu = run.vcpu; here = run.here; running = run.running; unkicked = run.unkicked; room = run.room; buffer = few; due = due_filled guest past v page } in
    write_legal guest (Filled v page ∷ past) v page (Paint w i q byte) r m.writes (record { is_of = m.is_of; names = m.names; next = m.next; writes = m.writes }) (granted (started past) v page (cached v page past))
writes_filled guest past v page e run few m = absurd (false≢true m.writes)

-- a write after its Opened
pub writes_opened : (guest : Guest) (past : List Event) (v k page : ℕ) (e : Event) → MayRun guest past v → unpushed v past < max 1 guest.settings.buffer → WritesNext guest past v page e → MayFollow guest (Opened v k page ∷ past) e
unfolding write_follows names_exist
writes_opened guest past v k page (Write w i space address len value) run few m =
    let r : MayRun guest (Opened v k page ∷ past) v = record { vcpu = run.vcpu; here = run.here; running = run.running; unkicked = run.unkicked; room = run.room; buffer = few; due = due_opened guest past v k page } in
    write_legal guest (Opened v k page ∷ past) v page (Write w i space address len value) r m.writes (record { is_of = m.is_of; names = m.names; next = m.next; writes = m.writes }) (granted (started past) v page (cached v page past))
writes_opened guest past v k page (Paint w i q byte) run few m =
    let r : MayRun guest (Opened v k page ∷ past) v = record { vcpu = run.vcpu; here = run.here; running = run.running; unkicked = run.unkicked; room = run.room; buffer = few; due = due_opened guest past v k page } in
    write_legal guest (Opened v k page ∷ past) v page (Paint w i q byte) r m.writes (record { is_of = m.is_of; names = m.names; next = m.next; writes = m.writes }) (granted (started past) v page (cached v page past))
writes_opened guest past v k page e run few m = absurd (false≢true m.writes)
