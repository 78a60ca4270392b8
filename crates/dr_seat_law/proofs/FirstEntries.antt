-- The entries of a vCPU: that they stay, that they are there, and how many are pushed.
use Rattle.std.proofs.Common.{◌≡◌, ℕ, ◌+◌, ◌-◌, ◌^◌, ◌<◌, ◌≤◌, Bool, true, false, cond, List, [], ◌∷◌, Option, Some, None, is_some, refl, ap, ◌∙◌, arith, inl, inr}
use Rattle.std.specs.Prelude.{◌==◌, ◌&&◌, nat_lt, IfSome}
use Rattle.std.proofs.lemmas.Bool.{eqb-true, cases_lt, lt-ltb, le-ltb, false≢true}
use Rattle.dr_types.specs.declared.guest.Guest.{Guest}
use Rattle.dr_types.specs.declared.guest.SlotRow.{SlotRow}
use Rattle.dr_types.specs.declared.entry.Entry.{Entry}
use Rattle.dr_types.specs.Pages.{slot_field, pages_of_slots, page_count}
use Rattle.dr_types.specs.Scripts.{op_count}
use Rattle.dr_types.specs.Validity.{IsValid}
use Rattle.dr_history.specs.declared.event.Event.{Event}
use Rattle.dr_history.specs.declared.event.Event.TheVariants.{Read, Write, Paint, Local, Halted, Opened}
use Rattle.dr_history.specs.Entries.{opens, pushes, page_of_entry, or_else}
use Rattle.dr_history.specs.Execution.{ops}
use Rattle.dr_history.specs.Legality.{IsLegalSoFar}
use Rattle.dr_history_law.specs.Order.{writes, last_opens_for}
use Rattle.dr_history_law.specs.Length.{script_length}
use Rattle.dr_history_law.proofs.Outstanding.{more, pushed_opened}
use Rattle.dr_history_law.proofs.Order.{opened_in_order}
use Rattle.dr_history_law.proofs.Length.{stays_in_script}
use Rattle.dr_history_law.proofs.Limits.{script_in_total}
use Rattle.dr_history_law.proofs.Listing.{map_below}
use Rattle.dr_history_law.proofs.Entered.{has_page, page_named}
use Rattle.dr_slots.specs.Places.{place_of}
use Rattle.dr_seat_law.specs.Entries.{placed, entry, first_entries}

older_case : (mine here : Bool) (page : ℕ) (old : Option ℕ) → (mine ≡ true → here ≡ true → ⊥) → or_else (cond (mine && here) (Some page) None) old ≡ old
older_case true true page old f = absurd (f refl refl)
older_case true false page old f = refl
older_case false here page old f = refl

older : (v w k j : ℕ) (past : List Event) → k ≡ opens w past → j < opens v past → (w == v) ≡ true → (k == j) ≡ true → ⊥
older v w k j past e lt s t =
    let a : w ≡ v = eqb-true w v s in
    let b : k ≡ j = eqb-true k j t in
    let c : opens w past ≡ opens v past = ap (λ (u : ℕ). opens u past) a in
    omega (arith, e, lt, b, c)

-- an Opened leaves the entries before it
pub entry_older : (guest : Guest) (v w k page j : ℕ) (past : List Event) → k ≡ opens w past → j < opens v past → entry guest v j (Opened w k page ∷ past) ≡ entry guest v j past
unfolding entry page_of_entry
entry_older guest v w k page j past e lt = ap (placed guest) (older_case (w == v) (k == j) page (page_of_entry v j past) (older v w k j past e lt))

-- .. so the first that were opened stay the first
pub first_stay : (guest : Guest) (v w k page n : ℕ) (past : List Event) → k ≡ opens w past → n ≤ opens v past → first_entries guest v n (Opened w k page ∷ past) ≡ first_entries guest v n past
first_stay guest v w k page n past e le =
    map_below (λ (j : ℕ). entry guest v j (Opened w k page ∷ past)) (λ (j : ℕ). entry guest v j past) n (λ j lt. entry_older guest v w k page j past e (omega (arith, lt, le)))

-- each page of the slots has a place
pub place_exists : (rows : List SlotRow) (page : ℕ) → page < pages_of_slots rows → (e : Entry) × (place_of rows page ≡ Some e)
place_exists [] page lt = absurd (omega arith)
place_exists (row ∷ rows) page lt =
    elim (cases_lt page row.pages) [
      | inl l ↦ (record { slot = slot_field row; offset = page }, let test : nat_lt page row.pages ≡ true = lt-ltb _ _ l in rw test refl)
      | inr g ↦
          let rest = place_exists rows (page - row.pages) (omega arith) in
          let test : nat_lt page row.pages ≡ false = le-ltb _ _ g in
          (rest.0, rw test rest.1)
    ]

placed_case : (guest : Guest) (o : Option ℕ) → is_some o ≡ true → IfSome o (λ page. page < page_count guest) → (e : Entry) × (placed guest o ≡ Some e)
placed_case guest None some named = absurd (false≢true some)
placed_case guest (Some page) some named = place_exists guest.slots page named

-- an opened entry has a slot and an offset
pub entry_exists : (guest : Guest) (past : List Event) (v k : ℕ) → IsLegalSoFar guest past → k < opens v past → (e : Entry) × (entry guest v k past ≡ Some e)
unfolding entry
entry_exists guest past v k legal lt = placed_case guest (page_of_entry v k past) (has_page guest past v k legal lt) (page_named guest past v k legal)

-- .. those of its page
pub entry_of_page : (guest : Guest) (past : List Event) (v k page : ℕ) (e : Entry) → page_of_entry v k past ≡ Some page → place_of guest.slots page ≡ Some e → entry guest v k past ≡ Some e
unfolding entry
entry_of_page guest past v k page e is place = ap (placed guest) is ∙ place

both_more : (same : Bool) (a b : ℕ) → a ≤ b → cond same (a + 1) a ≤ cond same (b + 1) b
both_more true a b h = omega arith
both_more false a b h = h

writes_ops : (past : List Event) (v : ℕ) → writes v past ≤ ops v past
writes_ops [] v = omega arith
writes_ops (Read w i space address value ∷ past) v = more (w == v) (writes v past) (ops v past) (writes_ops past v)
writes_ops (Write w i space address len value ∷ past) v = both_more (w == v) (writes v past) (ops v past) (writes_ops past v)
writes_ops (Paint w i q byte ∷ past) v = both_more (w == v) (writes v past) (ops v past) (writes_ops past v)
writes_ops (Local w i ∷ past) v = more (w == v) (writes v past) (ops v past) (writes_ops past v)
writes_ops (Halted w i ∷ past) v = more (w == v) (writes v past) (ops v past) (writes_ops past v)
writes_ops (e ∷ past) v = writes_ops past v

few_case : (last : Bool) (p o w n l t : ℕ) → p ≤ o → o ≤ w + cond last 1 0 → w ≤ n → n ≤ l → l ≤ t → t ≤ 200000 → p < 2 ^ 64 - 1
few_case true p o w n l t a b c d f g = omega arith
few_case false p o w n l t a b c d f g = omega arith

-- far fewer entries are pushed than a number of 64 bits can count
pub few_pushes : (guest : Guest) (past : List Event) (v : ℕ) → IsValid guest → IsLegalSoFar guest past → pushes v past < 2 ^ 64 - 1
few_pushes guest past v valid legal =
    few_case (last_opens_for v past) (pushes v past) (opens v past) (writes v past) (ops v past) (script_length guest v) (op_count guest.scripts)
    (pushed_opened guest past v legal) (opened_in_order guest past v legal) (writes_ops past v) (stays_in_script guest past v legal) (script_in_total guest.scripts v) valid.ops
