-- The state can take each event that breaks no rule.
use Rattle.std.proofs.Common.{◌≡◌, ℕ, zero, suc, ◌+◌, ◌%◌, ◌^◌, ◌<◌, ◌≤◌, Bool, true, false, cond, List, [], ◌∷◌, length, get_or, refl, ap, sym, ◌∙◌, subst, arith}
use Rattle.std.specs.Prelude.{None, All}
use Rattle.std.proofs.lemmas.Bool.{and_parts, ltb-true, leb-true}
use Rattle.std.proofs.lemmas.List.{length-map}
use Rattle.std.proofs.lemmas.List.Elements.{All-from_get_or}
use Rattle.dr_types.specs.declared.guest.Guest.{Guest}
use Rattle.dr_types.specs.declared.rates.Throttle.{Throttle}
use Rattle.dr_types.specs.Pages.{page_count}
use Rattle.dr_types.specs.Scripts.{vcpu_count}
use Rattle.dr_history.specs.declared.event.Event.{Event}
use Rattle.dr_history.specs.declared.event.Event.TheVariants.{Read, Write, Paint, Local, Halted, Opened, Filled, Pushed, Exited, Deposited, Reset, Synced, Copied, Throttled}
use Rattle.dr_history.specs.Lookback.{count, since}
use Rattle.dr_history.specs.Kinds.{is_op_of, is_opened_of, is_pushed_of, is_reset_of, is_asked, is_copied, is_synced}
use Rattle.dr_history.specs.Entries.{opens, pushes}
use Rattle.dr_history.specs.Throttles.{begins_span, throttle}
use Rattle.dr_history.specs.Memory.{page_bytes}
use Rattle.dr_history.specs.Protection.{writable}
use Rattle.dr_history.specs.Rules.{names_exist, deposits_pushed, fills_writable}
use Rattle.dr_history.specs.Legality.{IsLegalSoFar, broken}
use Rattle.dr_history_law.proofs.Kept.{keeps}
use Rattle.dr_history_law.proofs.Outstanding.{pushed_opened}
use Rattle.dr_history_law.proofs.Limits.{fits_rate, fits_throttle}
use Rattle.dr_state.specs.Rows.{table, rows_of, row_of, HasRoom, IsWithin}
use Rattle.dr_state.specs.Pages.{IsPageWithin, IsProtection, FillFits, ClosingFits}
use Rattle.dr_state.specs.Opened.{firsts, rows_are, entries_of, entry_of, OpeningFits, EntryFits}
use Rattle.dr_state.specs.Scripts.{rest_of}
use Rattle.dr_state.specs.Stores.{StoresWithin, StoreFits}
use Rattle.dr_state.specs.Spans.{FitsEntries, FitsSleep, SpanFits}
use Rattle.dr_state.specs.Whole.{IsStateOf, IsNamed, FitsState, CanTake}
use Rattle.dr_state.specs.declared.vcpus.Vcpu.{Vcpu}
use Rattle.dr_state.specs.declared.entry_fields.OpenedEntry.{OpenedEntry}
use Rattle.dr_state.specs.declared.state_fields.State.{State}
use Rattle.dr_state.proofs.Tables.{get-table, length-table}
use Rattle.dr_state.proofs.Turns.{length-rows}

-- counts are no greater than the number of events
more : (b : Bool) (n m : ℕ) → n ≤ m → cond b (n + 1) n ≤ suc m
more true n m h = omega arith
more false n m h = omega arith

pub count_few : (f : Event → Bool) (past : List Event) → count f past ≤ length past
count_few f [] = omega arith
count_few f (e ∷ past) = more (f e) (count f past) (length past) (count_few f past)

cut : (b : Bool) (e : Event) (xs : List Event) (m : ℕ) → length xs ≤ m → length (cond b [] (e ∷ xs)) ≤ suc m
cut true e xs m h = omega arith
cut false e xs m h = omega arith

since_few : (f : Event → Bool) (past : List Event) → length (since f past) ≤ length past
since_few f [] = omega arith
since_few f (e ∷ past) = cut (f e) e (since f past) (length past) (since_few f past)

pub count_since_few : (f g : Event → Bool) (past : List Event) → count f (since g past) ≤ length past
count_since_few f g past = let a : count f (since g past) ≤ length (since g past) = count_few f (since g past) in let b : length (since g past) ≤ length past = since_few g past in omega arith

row_room : (past : List Event) (v : ℕ) → length past < 2 ^ 63 → HasRoom (row_of past v)
row_room past v few = record {
  ops = omega (arith, few, count_few (is_op_of v) past);
  recent = omega (arith, few, count_since_few (is_op_of v) is_asked past);
  opens = omega (arith, few, count_few (is_opened_of v) past);
  pushes = omega (arith, few, count_few (is_pushed_of v) past);
  resets = omega (arith, few, count_few (is_reset_of v) past);
  span_pushes = omega (arith, few, count_since_few (is_pushed_of v) begins_span past);
}

-- what holds at each number holds of the table
pub all_table : {X : Type 0} (P : X → Type 0) (f : ℕ → X) (n : ℕ) → ((v : ℕ) → v < n → P (f v)) → All P (table f n)
all_table P f n h =
    All-from_get_or P (table f n) (f 0) (λ v lt.
    let within : v < n = omega (arith, lt, length-table f n) in
    subst P (sym (get-table f n v (f 0) within)) (h v within))

rooms : (rows : List Vcpu) (n : ℕ) (past : List Event) → rows ≡ rows_of n past → length past < 2 ^ 63 → All HasRoom rows
unfolding rows_of
rooms rows n past is few = subst (λ (xs : List Vcpu). All HasRoom xs) (sym is) (all_table HasRoom (row_of past) n (λ v lt. row_room past v few))

-- the vCPU and the page that an event names are in the guest
pub vcpu_within : (guest : Guest) (past : List Event) (e : Event) → names_exist guest past e ≡ true → IsWithin (vcpu_count guest) e
unfolding names_exist
vcpu_within guest past (Read v i space a x) h = ltb-true v (vcpu_count guest) (and_parts _ _ h).0
vcpu_within guest past (Write v i space a l x) h = ltb-true v (vcpu_count guest) (and_parts _ _ h).0
vcpu_within guest past (Paint v i q b) h = ltb-true v (vcpu_count guest) (and_parts _ _ h).0
vcpu_within guest past (Local v i) h = ltb-true v (vcpu_count guest) h
vcpu_within guest past (Halted v i) h = ltb-true v (vcpu_count guest) h
vcpu_within guest past (Opened v k page) h = ltb-true v (vcpu_count guest) (and_parts _ _ h).0
vcpu_within guest past (Filled v page) h = ltb-true v (vcpu_count guest) (and_parts _ _ h).0
vcpu_within guest past (Pushed v k) h = ltb-true v (vcpu_count guest) h
vcpu_within guest past (Exited v why) h = ltb-true v (vcpu_count guest) h
vcpu_within guest past (Deposited v from to) h = ltb-true v (vcpu_count guest) h
vcpu_within guest past (Reset v k) h = ltb-true v (vcpu_count guest) h
vcpu_within guest past (Throttled v us) h = ltb-true v (vcpu_count guest) h
vcpu_within guest past e h = tt

pub page_within : (guest : Guest) (past : List Event) (e : Event) → names_exist guest past e ≡ true → IsPageWithin (page_count guest) e
unfolding names_exist
page_within guest past (Paint v i q b) h = ltb-true q (page_count guest) (and_parts _ _ h).1
page_within guest past (Opened v k page) h = ltb-true page (page_count guest) (and_parts _ _ h).1
page_within guest past (Filled v page) h = ltb-true page (page_count guest) (and_parts _ _ h).1
page_within guest past (Copied r page) h = ltb-true page (page_count guest) h
page_within guest past e h = tt

stores_within : (guest : Guest) (past : List Event) (e : Event) → names_exist guest past e ≡ true → StoresWithin e
unfolding names_exist
stores_within guest past (Write v i space a l x) h = leb-true (a % 4096 + l) 4096 (and_parts _ _ (and_parts _ _ h).1).1
stores_within guest past e h = tt

pub memory_sized : (guest : Guest) (past : List Event) (it : State) → IsStateOf guest past it → length it.memory.pages ≡ page_count guest
memory_sized guest past it h = ap length h.is_memory ∙ length-table (λ q. page_bytes guest q past) (page_count guest)

pub rows_sized : (guest : Guest) (past : List Event) (it : State) → IsStateOf guest past it → length it.entries.rows.items ≡ vcpu_count guest
unfolding rows_are
rows_sized guest past it h = sym (length-map it.entries.rows.items (λ (r : List OpenedEntry × ℕ). r.0)) ∙ ap length h.are_entries ∙ length-table (entries_of past) (vcpu_count guest)

pub named : (guest : Guest) (past : List Event) (e : Event) (it : State) → IsStateOf guest past it → names_exist guest past e ≡ true → IsNamed it e
named guest past e it h n =
    let v : IsWithin (vcpu_count guest) e = vcpu_within guest past e n in
    let p : IsPageWithin (page_count guest) e = page_within guest past e n in
    let at = λ (m : ℕ) (is : m ≡ vcpu_count guest). subst (λ (k : ℕ). IsWithin k e) (sym is) v in
    let on = λ (m : ℕ) (is : m ≡ page_count guest). subst (λ (k : ℕ). IsPageWithin k e) (sym is) p in
    record {
      vcpus = at (length it.vcpus) (ap length h.are_vcpus ∙ length-rows (vcpu_count guest) past);
      readers = at it.running.readers.len (it.running.readers.ok.0 ∙ ap length h.is_running.are_rests ∙ length-table (rest_of guest past) (vcpu_count guest));
      rows = at it.entries.rows.len (it.entries.rows.ok.0 ∙ rows_sized guest past it h);
      protection = at it.protection.permissions.vcpus h.protection_vcpus;
      pages = on it.protection.permissions.pages h.protection_pages;
      memory = on (length it.memory.pages) (memory_sized guest past it h);
      held = at it.throttles.list.len (it.throttles.list.ok.0 ∙ h.are_throttles.sized);
    }

spans : (guest : Guest) (past : List Event) (e : Event) (rows : List Vcpu) (list : List Throttle) → FitsState guest → IsLegalSoFar guest (e ∷ past) → rows ≡ rows_of (vcpu_count guest) past → (1 ≤ guest.settings.quota → list ≡ table (λ v. throttle guest v past) (vcpu_count guest)) → SpanFits guest.settings.quota e rows list
unfolding rows_of
spans guest past (Synced r at pages) rows list can legal are held = λ some. (
  subst (λ (xs : List Vcpu). All FitsEntries xs) (sym are) (all_table FitsEntries (row_of past) (vcpu_count guest) (λ v lt. (fits_rate guest past r at v pages can.limits legal).entries)),
  subst (λ (xs : List Throttle). All FitsSleep xs) (sym (held some)) (all_table FitsSleep (λ v. throttle guest v past) (vcpu_count guest) (λ v lt. (fits_throttle guest past v can.limits legal.1).us)),
)
spans guest past e rows list can legal are held = tt

-- the entries that are deposited were opened
deposit_facts : (guest : Guest) (past : List Event) (v from to : ℕ) → IsLegalSoFar guest (Deposited v from to ∷ past) → (from < to) × (to ≤ opens v past)
unfolding deposits_pushed
deposit_facts guest past v from to legal =
    let a = and_parts _ _ (and_parts _ _ (keeps guest past (Deposited v from to) legal.0).deposits_pushed_holds).0 in
    let le : to ≤ pushes v past = leb-true to (pushes v past) a.1 in
    let o : pushes v past ≤ opens v past = pushed_opened guest past v legal.1 in
    (ltb-true from to a.0, omega (arith, le, o))

get_first : (rows : List (List OpenedEntry × ℕ)) (v : ℕ) (d : List OpenedEntry × ℕ) → (get_or rows v d).0 ≡ get_or (firsts rows) v d.0
get_first [] v d = refl
get_first (x ∷ xs) zero d = refl
get_first (x ∷ xs) (suc v) d = get_first xs v d

entry_fits : (guest : Guest) (past : List Event) (e : Event) (n : ℕ) (rows : List (List OpenedEntry × ℕ)) → n ≡ vcpu_count guest → IsLegalSoFar guest (e ∷ past) → firsts rows ≡ rows_are n past → IsWithin n e → OpeningFits e rows → EntryFits e rows
unfolding rows_are
entry_fits guest past (Opened v k page) n rows size legal are within fits = fits
entry_fits guest past (Deposited v from to) n rows size legal are within fits =
    let facts = deposit_facts guest past v from to legal in
    let lt : from < to = facts.0 in (
      omega (arith, lt),
      λ d.
          let is : (get_or rows v d).0 ≡ entries_of past v = get_first rows v d ∙ ap (λ xss. get_or xss v d.0) are ∙ get-table (entries_of past) n v d.0 within in
          let len : length (get_or rows v d).0 ≡ opens v past = ap length is ∙ length-table (entry_of past v) (opens v past) in
          let le : to ≤ opens v past = facts.1 in
          omega (arith, le, len),
    )
entry_fits guest past e n rows size legal are within fits = tt

-- a page that is filled may be written
fill_fits : (guest : Guest) (past : List Event) (e : Event) (it : State) → names_exist guest past e ≡ true → fills_writable guest past e ≡ true → IsProtection past it.protection → IsPageWithin it.protection.permissions.pages e → FillFits e it.protection.permissions
unfolding fills_writable
fill_fits guest past (Filled v page) it names holds are within =
    let may : writable page past ≡ true = (and_parts _ _ (and_parts _ _ holds).0).1 in
    ap (λ xs. get_or xs page false) are.is_writable ∙ get-table (λ q. writable q past) it.protection.permissions.pages page false within ∙ may
fill_fits guest past e it names holds are within = tt

pub can_take : (guest : Guest) (past : List Event) (e : Event) (it : State) → FitsState guest → IsStateOf guest past it → broken guest past e ≡ None → length past < 2 ^ 63 → OpeningFits e it.entries.rows.items → ClosingFits e it.protection.closing.1 → StoreFits guest e it.memory → CanTake guest e it
can_take guest past e it can h kept few opening room store =
    let legal : IsLegalSoFar guest (e ∷ past) = (kept, h.legal) in
    let names : names_exist guest past e ≡ true = (keeps guest past e kept).names_exist_holds in
    record {
      named = named guest past e it h names;
      counts = rooms it.vcpus (vcpu_count guest) past h.are_vcpus few;
      entry = entry_fits guest past e (vcpu_count guest) it.entries.rows.items refl legal h.are_entries (vcpu_within guest past e names) opening;
      fill = fill_fits guest past e it names (keeps guest past e kept).fills_writable_holds h.is_protection (rw h.protection_pages (page_within guest past e names));
      closing = room;
      asks = omega (arith, few, ap (λ r. r.asks) h.are_rounds, count_few is_asked past);
      copies = omega (arith, few, ap (λ r. r.copies) h.are_rounds, count_since_few is_copied is_synced past);
      whole = memory_sized guest past it h;
      stores = stores_within guest past e names;
      store = store;
      sized = ap length h.are_vcpus ∙ length-rows (vcpu_count guest) past ∙ sym (it.throttles.list.ok.0 ∙ h.are_throttles.sized);
      spans = spans guest past e it.vcpus it.throttles.list.items can legal h.are_vcpus h.are_throttles.are_held;
    }
