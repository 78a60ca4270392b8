-- What each vCPU executes of its script.
use Rattle.std.proofs.Common.{◌≡◌, ◌⊎◌, ℕ, ◌+◌, ◌%◌, Bool, true, false, cond, List, [], ◌∷◌, ◌++◌, Option, None, Some, inl, inr, refl, ap, sym, ◌∙◌, subst, add-one}
use Rattle.std.specs.Prelude.{◌&&◌, ◌==◌}
use Rattle.std.proofs.lemmas.Bool.{eqb-true, and_parts, false≢true}
use Rattle.dr_types.specs.declared.guest.Guest.{Guest}
use Rattle.dr_types.specs.declared.guest.Op.{Op}
use Rattle.dr_types.specs.declared.guest.Op.TheVariants as op
use Rattle.dr_types.specs.Pages.{page_of_address, page_of_frame}
use Rattle.dr_types.specs.Scripts.{operation}
use Rattle.dr_history.specs.declared.event.Event.{Event}
use Rattle.dr_history.specs.declared.event.Event.TheVariants.{Read, Write, Paint, Local, Halted}
use Rattle.dr_history.specs.Lookback.{below, is_number}
use Rattle.dr_history.specs.Memory.{page_bytes, loaded}
use Rattle.dr_history.specs.Execution.{ops, acc, is_load, is_store, is_fill, is_local, is_halt}
use Rattle.dr_history.specs.Rules.{reads_memory, is_value_at, vcpu_of_op}
use Rattle.dr_history.specs.Legality.{IsLegalSoFar, broken}
use Rattle.dr_history_law.specs.Execution.{op_numbers, IsInMemory, Performs}
use Rattle.dr_history_law.proofs.Kept.{keeps, op_next}
use Rattle.dr_history_law.proofs.Earlier.{earlier_legal}

-- the number of an operation is how many its vCPU executed before it
next_number : (past : List Event) (w v i : ℕ) (t : Bool) → (i == ops w past && t) ≡ true → (w == v) ≡ true → i ≡ ops v past
next_number past w v i t h s =
    eqb-true i (ops w past) (and_parts (i == ops w past) t h).0 ∙ ap (λ (u : ℕ). ops u past) (eqb-true w v s)

one_number : (same : Bool) (i n : ℕ) (numbers : List ℕ) → (same ≡ true → i ≡ n) → numbers ≡ below n → cond same (numbers ++ i ∷ []) numbers ≡ below (cond same (n + 1) n)
one_number true i n numbers f h =
    ap (λ (xs : List ℕ). xs ++ i ∷ []) h ∙ ap (λ (k : ℕ). below n ++ k ∷ []) (f refl) ∙ sym (ap below (add-one n))
one_number false i n numbers f h = h

pub executes_in_order : (guest : Guest) (past : List Event) (v : ℕ) → IsLegalSoFar guest past → op_numbers v past ≡ below (ops v past)
executes_in_order guest [] v legal = refl
executes_in_order guest (Read w i space address value ∷ past) v legal =
    one_number (w == v) i (ops v past) (op_numbers v past)
    (next_number past w v i (is_load (operation guest w i) space address) (op_next guest past (Read w i space address value) legal.0))
    (executes_in_order guest past v legal.1)
executes_in_order guest (Write w i space address len value ∷ past) v legal =
    one_number (w == v) i (ops v past) (op_numbers v past)
    (next_number past w v i (is_store (operation guest w i) (acc guest w past) space address len value) (op_next guest past (Write w i space address len value) legal.0))
    (executes_in_order guest past v legal.1)
executes_in_order guest (Paint w i page byte ∷ past) v legal =
    one_number (w == v) i (ops v past) (op_numbers v past)
    (next_number past w v i (is_fill guest (operation guest w i) page byte) (op_next guest past (Paint w i page byte) legal.0))
    (executes_in_order guest past v legal.1)
executes_in_order guest (Local w i ∷ past) v legal =
    one_number (w == v) i (ops v past) (op_numbers v past)
    (next_number past w v i (is_local (operation guest w i)) (op_next guest past (Local w i) legal.0))
    (executes_in_order guest past v legal.1)
executes_in_order guest (Halted w i ∷ past) v legal =
    one_number (w == v) i (ops v past) (op_numbers v past)
    (next_number past w v i (is_halt (operation guest w i)) (op_next guest past (Halted w i) legal.0))
    (executes_in_order guest past v legal.1)
executes_in_order guest (e ∷ past) v legal = executes_in_order guest past v legal.1

number_at : (n : ℕ) (o : Option ℕ) → is_number n o ≡ true → o ≡ Some n
number_at n None h = absurd (false≢true h)
number_at n (Some m) h = ap (λ (k : ℕ). Some k) (eqb-true m n h)

-- what each test of an operation says
load_at : (o : Option Op) (space address : ℕ) → is_load o space address ≡ true → o ≡ Some (op.R space address)
load_at (Some (op.R s a)) space address h =
    let same = and_parts (s == space) (a == address) h in
    let one : s ≡ space = eqb-true s space same.0 in
    let place : a ≡ address = eqb-true a address same.1 in
    cc
load_at o space address h = absurd (false≢true h)

abbrev Stores : Option Op → ℕ → ℕ → ℕ → ℕ → ℕ → Type 0
Stores o register space address len value =
    (o ≡ Some (op.W space address len value)) ⊎ ((o ≡ Some (op.S space address)) × (len ≡ 8) × (value ≡ register))

store_at : (o : Option Op) (register space address len value : ℕ) → is_store o register space address len value ≡ true → Stores o register space address len value
store_at (Some (op.W s a l x)) register space address len value h =
    let outer = and_parts (s == space && a == address && l == len) (x == value) h in
    let inner = and_parts (s == space && a == address) (l == len) outer.0 in
    let first = and_parts (s == space) (a == address) inner.0 in
    let one : s ≡ space = eqb-true s space first.0 in
    let place : a ≡ address = eqb-true a address first.1 in
    let size : l ≡ len = eqb-true l len inner.1 in
    let stored : x ≡ value = eqb-true x value outer.1 in
    inl (cc)
store_at (Some (op.S s a)) register space address len value h =
    let outer = and_parts (s == space && a == address && 8 == len) (register == value) h in
    let inner = and_parts (s == space && a == address) (8 == len) outer.0 in
    let first = and_parts (s == space) (a == address) inner.0 in
    let one : s ≡ space = eqb-true s space first.0 in
    let place : a ≡ address = eqb-true a address first.1 in
    inr (cc, sym (eqb-true 8 len inner.1), sym (eqb-true register value outer.1))
store_at o register space address len value h = absurd (false≢true h)

abbrev Fills : Guest → Option Op → ℕ → ℕ → Type 0
Fills guest o page byte = (space frame : ℕ) × (o ≡ Some (op.F space frame byte)) × (page_of_frame guest.slots space frame ≡ Some page)

fill_at : (guest : Guest) (o : Option Op) (page byte : ℕ) → is_fill guest o page byte ≡ true → Fills guest o page byte
fill_at guest (Some (op.F space frame b)) page byte h =
    let parts = and_parts (is_number page (page_of_frame guest.slots space frame)) (b == byte) h in
    (space, frame, ap (λ (k : ℕ). Some (op.F space frame k)) (eqb-true b byte parts.1), number_at page (page_of_frame guest.slots space frame) parts.0)
fill_at guest o page byte h = absurd (false≢true h)

abbrev IsLocal : Option Op → Type 0
IsLocal o = ((n : ℕ) × (o ≡ Some (op.A n))) ⊎ ((us : ℕ) × (o ≡ Some (op.Nap us)))

local_at : (o : Option Op) → is_local o ≡ true → IsLocal o
local_at (Some (op.A n)) h = inl (n, refl)
local_at (Some (op.Nap us)) h = inr (us, refl)
local_at o h = absurd (false≢true h)

halt_at : (o : Option Op) → is_halt o ≡ true → o ≡ Some op.Halt
halt_at (Some op.Halt) h = refl
halt_at o h = absurd (false≢true h)

value_at : (guest : Guest) (past : List Event) (at : ℕ) (place : Option ℕ) (value : ℕ) → is_value_at guest past at place value ≡ true
    → (page : ℕ) × (place ≡ Some page) × (value ≡ loaded (page_bytes guest page past) at)
value_at guest past at None value h = absurd (false≢true h)
value_at guest past at (Some page) value h = (page, refl, eqb-true value (loaded (page_bytes guest page past) at) h)

read_value : (guest : Guest) (past : List Event) (v i space address value : ℕ) → broken guest past (Read v i space address value) ≡ None → IsInMemory guest past space address value
unfolding reads_memory
read_value guest past v i space address value h =
    value_at guest past (address % 4096) (page_of_address guest space address) value (keeps guest past (Read v i space address value) h).reads_memory_holds

-- an operation's number and its test
at_next : (past : List Event) (w i : ℕ) (t : Bool) → (i == ops w past && t) ≡ true → (i ≡ ops w past) × (t ≡ true)
at_next past w i t h =
    let parts = and_parts (i == ops w past) t h in
    (eqb-true i (ops w past) parts.0, parts.1)

-- for the vCPU that is meant
for_vcpu : (guest : Guest) (past : List Event) (w v : ℕ) (e : Event) → Some w ≡ Some v → Performs guest past w e → Performs guest past v e
for_vcpu guest past w v e h p = let same : w ≡ v = cc in subst (λ (u : ℕ). Performs guest past u e) same p

performs : (guest : Guest) (past : List Event) (v : ℕ) (e : Event) → broken guest past e ≡ None → vcpu_of_op e ≡ Some v → Performs guest past v e
performs guest past v (Read w i space address value) h o =
    let next = at_next past w i (is_load (operation guest w i) space address) (op_next guest past (Read w i space address value) h) in
    for_vcpu guest past w v (Read w i space address value) o
    (next.0, load_at (operation guest w i) space address next.1, read_value guest past w i space address value h)
performs guest past v (Write w i space address len value) h o =
    let next = at_next past w i (is_store (operation guest w i) (acc guest w past) space address len value) (op_next guest past (Write w i space address len value) h) in
    for_vcpu guest past w v (Write w i space address len value) o
    (next.0, store_at (operation guest w i) (acc guest w past) space address len value next.1)
performs guest past v (Paint w i page byte) h o =
    let next = at_next past w i (is_fill guest (operation guest w i) page byte) (op_next guest past (Paint w i page byte) h) in
    for_vcpu guest past w v (Paint w i page byte) o
    (next.0, fill_at guest (operation guest w i) page byte next.1)
performs guest past v (Local w i) h o =
    let next = at_next past w i (is_local (operation guest w i)) (op_next guest past (Local w i) h) in
    for_vcpu guest past w v (Local w i) o (next.0, local_at (operation guest w i) next.1)
performs guest past v (Halted w i) h o =
    let next = at_next past w i (is_halt (operation guest w i)) (op_next guest past (Halted w i) h) in
    for_vcpu guest past w v (Halted w i) o (next.0, halt_at (operation guest w i) next.1)
performs guest past v e h o = cc

pub executes_its_script : (guest : Guest) (later : List Event) (e : Event) (earlier : List Event) (v : ℕ) → IsLegalSoFar guest (later ++ e ∷ earlier) → vcpu_of_op e ≡ Some v → Performs guest earlier v e
executes_its_script guest later e earlier v legal o =
    performs guest earlier v e (earlier_legal guest later (e ∷ earlier) legal).0 o
