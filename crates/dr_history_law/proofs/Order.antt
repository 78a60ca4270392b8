-- In which order entries are opened, pushed, deposited and reset.
use Rattle.std.proofs.Common.{◌≡◌, ℕ, ◌+◌, ◌<◌, ◌≤◌, Bool, true, false, cond, List, [], ◌∷◌, ◌++◌, None, refl, arith, subst}
use Rattle.std.specs.Prelude.{◌==◌}
use Rattle.std.proofs.lemmas.Bool.{eqb-true, and_parts, false_from_ne_true, both_ways, true≢false, false≢true}
use Rattle.dr_types.specs.declared.guest.Guest.{Guest}
use Rattle.dr_history.specs.declared.event.Event.{Event}
use Rattle.dr_history.specs.declared.event.Event.TheVariants.{Write, Paint, Opened, Pushed, Reset}
use Rattle.dr_history.specs.Entries.{opens, pushes, resets}
use Rattle.dr_history.specs.Rules.{writes_page}
use Rattle.dr_history.specs.Legality.{IsLegalSoFar, broken}
use Rattle.dr_history_law.specs.Order.{is_write_of, writes, last_opens_for, InOrder, WasHarvested}
use Rattle.dr_history_law.proofs.Kept.{resets_facts, opened_written}
use Rattle.dr_history_law.proofs.Earlier.{earlier_legal}
use Rattle.dr_history_law.proofs.Outstanding.{more, one_more, pushed_opened, deposited_pushed}

-- a reset entry was pushed
pub reset_pushed : (guest : Guest) (past : List Event) (v : ℕ) → IsLegalSoFar guest past → resets v past ≤ pushes v past
reset_pushed guest [] v legal = omega arith
reset_pushed guest (Pushed w k ∷ past) v legal = more (w == v) (resets v past) (pushes v past) (reset_pushed guest past v legal.1)
reset_pushed guest (Reset w k ∷ past) v legal =
    let facts = resets_facts guest past w k legal.0 in
    let lt : resets w past < pushes w past = subst (λ (n : ℕ). n < pushes w past) facts.number (deposited_pushed guest past w k legal.1 facts.deposited) in
    one_more (w == v) (resets v past) (pushes v past)
    (λ s. subst (λ (u : ℕ). resets u past < pushes u past) (eqb-true w v s) lt)
    (reset_pushed guest past v legal.1)
reset_pushed guest (e ∷ past) v legal = reset_pushed guest past v legal.1

-- a write into a page is a write of its vCPU
page_write : (guest : Guest) (v page : ℕ) (e : Event) → writes_page guest v page e ≡ true → is_write_of v e ≡ true
page_write guest v page (Write w i space address len value) h = (and_parts (w == v) _ h).0
page_write guest v page (Paint w i q byte) h = (and_parts (w == v) (q == page) h).0
page_write guest v page e h = absurd (false≢true h)

-- after an Opened of the vCPU comes a write of it
pub owed : (guest : Guest) (past : List Event) (v : ℕ) (e : Event) → broken guest past e ≡ None → last_opens_for v past ≡ true → is_write_of v e ≡ true
owed guest [] v e h o = absurd (false≢true o)
owed guest (Opened w k q ∷ past) v e h o =
    subst (λ (u : ℕ). is_write_of u e ≡ true) (eqb-true w v o) (page_write guest w q e (opened_written guest past w k q e h))
owed guest (last ∷ past) v e h o = absurd (false≢true o)

-- no Opened of the vCPU stands before what is no write of it
pub unowed : (guest : Guest) (past : List Event) (v : ℕ) (e : Event) → broken guest past e ≡ None → is_write_of v e ≡ false → last_opens_for v past ≡ false
unowed guest past v e h w = false_from_ne_true (last_opens_for v past) (λ t. both_ways (is_write_of v e) w (owed guest past v e h t))

pub open_count : (same last : Bool) (o b : ℕ) → last ≡ false → o ≤ b + cond last 1 0 → cond same (o + 1) o ≤ b + cond same 1 0
open_count true true o b z h = absurd (true≢false z)
open_count true false o b z h = omega arith
open_count false true o b z h = absurd (true≢false z)
open_count false false o b z h = h

write_count : (same last : Bool) (o w : ℕ) → (last ≡ true → same ≡ true) → o ≤ w + cond last 1 0 → o ≤ cond same (w + 1) w + 0
write_count true true o w f h = omega arith
write_count true false o w f h = omega arith
write_count false true o w f h = absurd (false≢true (f refl))
write_count false false o w f h = h

pub none_owed : (last : Bool) (o b : ℕ) → last ≡ false → o ≤ b + cond last 1 0 → o ≤ b + 0
none_owed true o b z h = absurd (true≢false z)
none_owed false o b z h = h

pub opened_in_order : (guest : Guest) (past : List Event) (v : ℕ) → IsLegalSoFar guest past → opens v past ≤ writes v past + cond (last_opens_for v past) 1 0
opened_in_order guest [] v legal = omega arith
opened_in_order guest (Opened w k q ∷ past) v legal =
    open_count (w == v) (last_opens_for v past) (opens v past) (writes v past) (unowed guest past v (Opened w k q) legal.0 refl) (opened_in_order guest past v legal.1)
opened_in_order guest (Write w i space address len value ∷ past) v legal =
    write_count (w == v) (last_opens_for v past) (opens v past) (writes v past) (owed guest past v (Write w i space address len value) legal.0) (opened_in_order guest past v legal.1)
opened_in_order guest (Paint w i q byte ∷ past) v legal =
    write_count (w == v) (last_opens_for v past) (opens v past) (writes v past) (owed guest past v (Paint w i q byte) legal.0) (opened_in_order guest past v legal.1)
opened_in_order guest (e ∷ past) v legal =
    none_owed (last_opens_for v past) (opens v past) (writes v past) (unowed guest past v e legal.0 refl) (opened_in_order guest past v legal.1)

pub in_order : (guest : Guest) (past : List Event) (v : ℕ) → IsLegalSoFar guest past → InOrder v past
in_order guest past v legal =
    record { reset = reset_pushed guest past v legal; pushed = pushed_opened guest past v legal; opened = opened_in_order guest past v legal }

-- an entry is reset only after it was deposited
pub resets_follow_harvest : (guest : Guest) (later earlier : List Event) (v k : ℕ) → IsLegalSoFar guest (later ++ Reset v k ∷ earlier) → WasHarvested v k earlier
resets_follow_harvest guest later earlier v k legal =
    (resets_facts guest earlier v k (earlier_legal guest later (Reset v k ∷ earlier) legal).0).deposited
