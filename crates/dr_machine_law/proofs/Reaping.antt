-- What a deposit, a reset and a flush leave.
use Rattle.std.proofs.Common.{◌≡◌, ◌≢◌, ℕ, ◌+◌, ◌-◌, ◌<◌, ◌≤◌, Bool, true, false, cond, List, ◌∷◌, length, Option, Some, None, refl, ap, sym, ◌∙◌, arith}
use Rattle.std.specs.Prelude.{◌||◌, IfSome, IfOk, OnOk, OnErr, Result, Ok, Err}
use Rattle.std.proofs.lemmas.Result.{on_ok_weaker}
use Rattle.dr_types.specs.declared.memory.Memory.{Memory}
use Rattle.std.specs.List.{list_any}
use Rattle.std.proofs.lemmas.Bool.{eq-eqb, ne_eqb, le-leb, lt-ltb}
use Rattle.dr_types.specs.declared.guest.Guest.{Guest}
use Rattle.dr_types.specs.Pages.{page_count}
use Rattle.dr_history.specs.declared.event.Event.{Event}
use Rattle.dr_history.specs.declared.event.Event.TheVariants.{Deposited, Reset, Flushed}
use Rattle.dr_history.specs.Dirty.{dirty}
use Rattle.dr_history.specs.Entries.{page_of_entry, pushes, resets}
use Rattle.dr_history.specs.Legality.{IsLegalSoFar}
use Rattle.dr_history.specs.Lookback.{is_number}
use Rattle.dr_history.specs.Protection.{closing}
use Rattle.dr_history.specs.Rules.{deposits_entry}
use Rattle.dr_history_law.proofs.Outstanding.{deposited_pushed}
use Rattle.dr_turns_law.proofs.Done.{none_any}
use Rattle.dr_ring.specs.Seats.{KernelView}
use Rattle.dr_ring_set.specs.Seated.{HasAt}
use Rattle.dr_seat_law.specs.Seats.{AreSeats}
use Rattle.dr_turns.specs.Due.{some_closing}
use Rattle.dr_machine_law.proofs.Seats.{has_seat}

-- the numbers of a batch are deposited
pub batch_is_deposited : (past : List Event) (v from to k : ℕ) → from ≤ k → k < to → list_any (deposits_entry v k) (Deposited v from to ∷ past) ≡ true
batch_is_deposited past v from to k le lt = rw (eq-eqb v v refl, le-leb from k le, lt-ltb k to lt) refl

-- so they are pushed
pub batch_is_pushed : (guest : Guest) (past : List Event) (v from to : ℕ) → from < to → IsLegalSoFar guest (Deposited v from to ∷ past) → to ≤ pushes v (Deposited v from to ∷ past)
batch_is_pushed guest past v from to some legal =
    let last : list_any (deposits_entry v (to - 1)) (Deposited v from to ∷ past) ≡ true = batch_is_deposited past v from to (to - 1) (omega (arith, some)) (omega (arith, some)) in
    let lt : to - 1 < pushes v past = deposited_pushed guest (Deposited v from to ∷ past) v (to - 1) legal last in
    omega (arith, lt, some)

-- and known to be harvested
pub batch_is_known : (guest : Guest) (past : List Event) (seats : List KernelView) (v from to : ℕ) → from < to → v < length seats → AreSeats guest (Deposited v from to ∷ past) seats → HasAt seats v (λ s. to ≤ s.known)
batch_is_known guest past seats v from to some within are =
    has_seat seats v (λ s. to ≤ s.known) within (λ s at.
    let last : list_any (deposits_entry v (to - 1)) (Deposited v from to ∷ past) ≡ true = batch_is_deposited past v from to (to - 1) (omega (arith, some)) (omega (arith, some)) in
    let lt = (are.are v s at).knows (to - 1) last in
    omega (arith, lt, some))

-- a reset counts for its vCPU alone
pub own_reset : (past : List Event) (v k : ℕ) → resets v (Reset v k ∷ past) ≡ resets v past + 1
own_reset past v k = ap (λ b. cond b (resets v past + 1) (resets v past)) (eq-eqb v v refl)

pub other_reset : (past : List Event) (v k u : ℕ) → u ≢ v → resets u (Reset v k ∷ past) ≡ resets u past
other_reset past v k u ne = ap (λ b. cond b (resets u past + 1) (resets u past)) (ne_eqb v u (λ e. ne (sym e)))

closes_case : (past : List Event) (v k : ℕ) (place : Option ℕ) → place ≡ page_of_entry v k past → IfSome place (λ p. closing p (Reset v k ∷ past) ≡ true)
closes_case past v k None is = tt
closes_case past v k (Some p) is = ap (λ (o : Option ℕ). is_number p o || closing p past) (sym is) ∙ ap (λ b. b || closing p past) (eq-eqb p p refl)

-- its page is closing then
pub reset_closes : (past : List Event) (v k : ℕ) → IfSome (page_of_entry v k past) (λ p. closing p (Reset v k ∷ past) ≡ true)
reset_closes past v k = closes_case past v k (page_of_entry v k past) refl

pub seat_reset : (guest : Guest) (past : List Event) (seats : List KernelView) (v : ℕ) → v < length seats → AreSeats guest past seats → HasAt seats v (λ s. s.reset ≡ resets v past)
seat_reset guest past seats v within are =
    has_seat seats v (λ s. s.reset ≡ resets v past) within (λ s at. (are.are v s at).is_reset)

-- after a flush nothing is closing
pub flush_closes : (guest : Guest) (past : List Event) → some_closing guest (Flushed ∷ past) ≡ false
unfolding some_closing
flush_closes guest past = none_any (λ page. closing page (Flushed ∷ past)) (page_count guest) (λ page lt. refl)

-- and what was closing is dirty
pub flush_dirties : (past : List Event) (page : ℕ) → closing page past ≡ true → dirty page (Flushed ∷ past) ≡ true
flush_dirties past page is = rw is refl

on_any : {T E P : Type 0} (result : Result T E) → P → OnOk result P
on_any (Ok x) p = p
on_any (Err e) p = tt

-- where nothing was closing, nothing is
pub stays_closed : (guest : Guest) (old new : List Event) (result : Result Bool Memory) (closing : Bool) → some_closing guest old ≡ closing → (closing ≡ false → new ≡ old) → (closing ≡ true → OnOk result (new ≡ Flushed ∷ old)) → OnOk result (some_closing guest new ≡ false)
stays_closed guest old new result false is stays appended = on_any result (ap (some_closing guest) (stays refl) ∙ is)
stays_closed guest old new result true is stays appended = on_ok_weaker result (λ past. ap (some_closing guest) past ∙ flush_closes guest old) (appended refl)

ok_is : (n m : ℕ) → ◌≡◌ {A = Result ℕ Memory} (Ok n) (Ok m) → n ≡ m
ok_is n m h = cc

-- so many more resets
pub counts_resets : (old new : List Event) (v : ℕ) (result : Result ℕ Memory) (next : Bool) → (next ≡ false → (result ≡ Ok 0) × (new ≡ old)) → (next ≡ true → IfOk result (λ n. n ≡ 1)) → (next ≡ true → OnOk result (new ≡ Reset v (resets v old) ∷ old)) → IfOk result (λ n. resets v new ≡ resets v old + n)
counts_resets old new v (Err m) next none one appended = tt
counts_resets old new v (Ok n) false none one appended =
    let zero_more : n ≡ 0 = ok_is n 0 (none refl).0 in
    ap (resets v) (none refl).1 ∙ omega (arith, zero_more)
counts_resets old new v (Ok n) true none one appended =
    let is_one : n ≡ 1 = one refl in
    ap (resets v) (appended refl) ∙ own_reset old v (resets v old) ∙ omega (arith, is_one)

pub others_stay : (old new : List Event) (v u : ℕ) (result : Result ℕ Memory) (next : Bool) → u ≢ v → (next ≡ false → new ≡ old) → (next ≡ true → OnOk result (new ≡ Reset v (resets v old) ∷ old)) → OnErr result (new ≡ old) → resets u new ≡ resets u old
others_stay old new v u result false ne stays appended err = ap (resets u) (stays refl)
others_stay old new v u (Err m) true ne stays appended err = ap (resets u) err
others_stay old new v u (Ok n) true ne stays appended err = ap (resets u) (appended refl) ∙ other_reset old v (resets v old) u ne
