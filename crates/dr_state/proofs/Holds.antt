-- Each event's turn of the throttles.
use Rattle.std.proofs.Common.{◌≡◌, ℕ, zero, suc, ◌+◌, ◌-◌, ◌<◌, ◌≤◌, List, [], ◌∷◌, ◌++◌, length, get_or, take, refl, ap, sym, ◌∙◌, subst, arith}
use Rattle.std.specs.Prelude.{Option, Some, None, All}
use Rattle.std.proofs.Math.ListN.{set}
use Rattle.std.proofs.lemmas.List.{take_all}
use Rattle.std.proofs.lemmas.List.Elements.{All-get_or}
use Rattle.dr_types.specs.declared.guest.Guest.{Guest}
use Rattle.dr_types.specs.declared.rates.Throttle.{Throttle}
use Rattle.dr_types.specs.Scripts.{vcpu_count}
use Rattle.dr_history.specs.declared.event.Event.{Event}
use Rattle.dr_history.specs.declared.event.Event.TheVariants.{Start, Read, Write, Paint, Local, Halted, Opened, Filled, Pushed, Exited, Deposited, Reset, Flushed, Asked, Synced, Copied, Throttled, Stopped, Switched}
use Rattle.dr_history.specs.Throttles.{throttle, last_time, one_after}
use Rattle.dr_state.specs.Rows.{table, rows_of, row_of}
use Rattle.dr_state.specs.Spans.{AreHeld, IsUnheld, held_after, each_with, FitsSleep}
use Rattle.dr_state.specs.declared.vcpus.Vcpu.{Vcpu}
use Rattle.dr_state.proofs.Tables.{table_more, length-table, get-table, same_tables}

pub length_each : {X Y : Type 0} (f : X → Y → Y) (xs : List X) (ys : List Y) → length (each_with f xs ys) ≡ length ys
length_each f [] ys = refl
length_each f (x ∷ xs) [] = refl
length_each f (x ∷ xs) (y ∷ ys) = ap suc (length_each f xs ys)

-- the i-th is done
each_suc : {X Y : Type 0} (f : X → Y → Y) (xs : List X) (ys : List Y) (i : ℕ) (d : X) (c : Y) → i < length xs → i < length ys → each_with f (take (suc i) xs) ys ≡ set (each_with f (take i xs) ys) i (f (get_or xs i d) (get_or (each_with f (take i xs) ys) i c))
each_suc f [] ys i d c h g = absurd (omega arith)
each_suc f (x ∷ xs) [] i d c h g = absurd (omega arith)
each_suc f (x ∷ xs) (y ∷ ys) zero d c h g = none f xs (f x y ∷ ys)
  where
    none : {X Y : Type 0} (f : X → Y → Y) (xs : List X) (ys : List Y) → each_with f [] ys ≡ ys
    none f xs ys = refl
each_suc f (x ∷ xs) (y ∷ ys) (suc i) d c h g = ap (λ zs. f x y ∷ zs) (each_suc f xs ys i d c (omega arith) (omega arith))

pub each_more : (f : Vcpu → Throttle → Throttle) (xs : List Vcpu) (ys : List Throttle) (i : ℕ) (d : Vcpu) (c : Throttle) → i < length xs → i < length ys → each_with f (take (i + 1) xs) ys ≡ set (each_with f (take i xs) ys) i (f (get_or xs i d) (get_or (each_with f (take i xs) ys) i c))
each_more f xs ys i d c h g = let e : i + 1 ≡ suc i = omega arith in ap (λ k. each_with f (take k xs) ys) e ∙ each_suc f xs ys i d c h g

pub each_whole : (f : Vcpu → Throttle → Throttle) (xs : List Vcpu) (ys : List Throttle) (i : ℕ) → length xs ≤ i → each_with f (take i xs) ys ≡ each_with f xs ys
each_whole f xs ys i h = ap (λ zs. each_with f zs ys) (take_all i xs h)

pub ruleset each_steps = (each_more, length_each, each_whole)

-- those that aren't done yet are as they were
pub each_later : {X Y : Type 0} (f : X → Y → Y) (xs : List X) (ys : List Y) (i : ℕ) (c : Y) → get_or (each_with f (take i xs) ys) i c ≡ get_or ys i c
each_later f [] ys zero c = refl
each_later f [] ys (suc i) c = refl
each_later f (x ∷ xs) [] zero c = refl
each_later f (x ∷ xs) [] (suc i) c = refl
each_later f (x ∷ xs) (y ∷ ys) zero c = refl
each_later f (x ∷ xs) (y ∷ ys) (suc i) c = each_later f xs ys i c

pub later_fits : (f : Vcpu → Throttle → Throttle) (xs : List Vcpu) (ys : List Throttle) (i : ℕ) (c : Throttle) → i < length ys → All FitsSleep ys → FitsSleep (get_or (each_with f (take i xs) ys) i c)
later_fits f xs ys i c h all = subst FitsSleep (sym (each_later f xs ys i c)) (All-get_or FitsSleep ys i c h all)

each_last : {X Y : Type 0} (f : X → Y → Y) (xs : List X) (ys : List Y) (x : X) (y : Y) → length xs ≡ length ys → each_with f (xs ++ x ∷ []) (ys ++ y ∷ []) ≡ each_with f xs ys ++ f x y ∷ []
each_last f [] [] x y h = refl
each_last f [] (z ∷ ys) x y h = absurd (omega arith)
each_last f (z ∷ xs) [] x y h = absurd (omega arith)
each_last f (z ∷ xs) (w ∷ ys) x y h = ap (λ zs. f z w ∷ zs) (each_last f xs ys x y (omega arith))

pub each_table : {X Y : Type 0} (f : X → Y → Y) (a : ℕ → X) (b : ℕ → Y) (n : ℕ) → each_with f (table a n) (table b n) ≡ table (λ v. f (a v) (b v)) n
each_table f a b zero = refl
each_table f a b (suc n) =
    ap (λ xs. each_with f xs (table b (suc n))) (table_more a n) ∙ ap (λ ys. each_with f (table a n ++ a n ∷ []) ys) (table_more b n)
    ∙ each_last f (table a n) (table b n) (a n) (b n) (length-table a n ∙ sym (length-table b n))
    ∙ ap (λ zs. zs ++ f (a n) (b n) ∷ []) (each_table f a b n)
    ∙ sym (table_more (λ v. f (a v) (b v)) n)

pub started : (guest : Guest) (past : List Event) (at last : ℕ) (next : Option ℕ) (list : List Throttle) → AreHeld guest past next last list → AreHeld guest (Start at ∷ past) None at list
started guest past at last next list h = record { is_next = refl; is_last = refl; sized = h.sized; are_held = h.are_held }

held_row : (guest : Guest) (past : List Event) (r at v : ℕ) (pages : List ℕ) → held_after guest.settings.quota (at - last_time past) guest.settings.ring (row_of past v) (throttle guest v past) ≡ throttle guest v (Synced r at pages ∷ past)
unfolding held_after
held_row guest past r at v pages = refl

pub answered : (guest : Guest) (past : List Event) (r at last : ℕ) (pages : List ℕ) (next : Option ℕ) (rows : List Vcpu) (list : List Throttle) → 1 ≤ guest.settings.quota → rows ≡ rows_of (vcpu_count guest) past → AreHeld guest past next last list → AreHeld guest (Synced r at pages ∷ past) (Some 0) at (each_with (held_after guest.settings.quota (at - last) guest.settings.ring) rows list)
unfolding rows_of
answered guest past r at last pages next rows list some are h = record {
  is_next = refl;
  is_last = refl;
  sized = length_each (held_after guest.settings.quota (at - last) guest.settings.ring) rows list ∙ h.sized;
  are_held = λ q.
      let f : ℕ → Vcpu → Throttle → Throttle = λ l. held_after guest.settings.quota (at - l) guest.settings.ring in
      ap (λ l. each_with (f l) rows list) h.is_last
      ∙ ap (λ xs. each_with (f (last_time past)) xs list) are
      ∙ ap (λ ys. each_with (f (last_time past)) (table (row_of past) (vcpu_count guest)) ys) (h.are_held some)
      ∙ each_table (f (last_time past)) (row_of past) (λ v. throttle guest v past) (vcpu_count guest)
      ∙ same_tables _ (λ v. throttle guest v (Synced r at pages ∷ past)) (vcpu_count guest) (λ v lt. held_row guest past r at v pages);
}

pub unlimited : (guest : Guest) (past : List Event) (r at last : ℕ) (pages : List ℕ) (next : Option ℕ) (list : List Throttle) → guest.settings.quota < 1 → AreHeld guest past next last list → AreHeld guest (Synced r at pages ∷ past) (Some 0) at list
unlimited guest past r at last pages next list none h = record { is_next = refl; is_last = refl; sized = h.sized; are_held = λ q. absurd (omega (arith, none, q)) }

pub throttled : (guest : Guest) (past : List Event) (v us last : ℕ) (next : Option ℕ) (list : List Throttle) → AreHeld guest past next last list → AreHeld guest (Throttled v us ∷ past) (one_after v next) last list
throttled guest past v us last next list h = record { is_next = ap (one_after v) h.is_next; is_last = h.is_last; sized = h.sized; are_held = h.are_held }

pub unseen : (guest : Guest) (past : List Event) (e : Event) (last : ℕ) (next : Option ℕ) (list : List Throttle) → IsUnheld e → AreHeld guest past next last list → AreHeld guest (e ∷ past) None last list
unseen guest past (Read v i space a x) last next list kind h = record { is_next = refl; is_last = h.is_last; sized = h.sized; are_held = h.are_held }
unseen guest past (Write v i space a l x) last next list kind h = record { is_next = refl; is_last = h.is_last; sized = h.sized; are_held = h.are_held }
unseen guest past (Paint v i q b) last next list kind h = record { is_next = refl; is_last = h.is_last; sized = h.sized; are_held = h.are_held }
unseen guest past (Local v i) last next list kind h = record { is_next = refl; is_last = h.is_last; sized = h.sized; are_held = h.are_held }
unseen guest past (Halted v i) last next list kind h = record { is_next = refl; is_last = h.is_last; sized = h.sized; are_held = h.are_held }
unseen guest past (Opened v k page) last next list kind h = record { is_next = refl; is_last = h.is_last; sized = h.sized; are_held = h.are_held }
unseen guest past (Filled v page) last next list kind h = record { is_next = refl; is_last = h.is_last; sized = h.sized; are_held = h.are_held }
unseen guest past (Pushed v k) last next list kind h = record { is_next = refl; is_last = h.is_last; sized = h.sized; are_held = h.are_held }
unseen guest past (Exited v why) last next list kind h = record { is_next = refl; is_last = h.is_last; sized = h.sized; are_held = h.are_held }
unseen guest past (Deposited v from to) last next list kind h = record { is_next = refl; is_last = h.is_last; sized = h.sized; are_held = h.are_held }
unseen guest past (Reset v k) last next list kind h = record { is_next = refl; is_last = h.is_last; sized = h.sized; are_held = h.are_held }
unseen guest past Flushed last next list kind h = record { is_next = refl; is_last = h.is_last; sized = h.sized; are_held = h.are_held }
unseen guest past (Asked r) last next list kind h = record { is_next = refl; is_last = h.is_last; sized = h.sized; are_held = h.are_held }
unseen guest past (Copied r page) last next list kind h = record { is_next = refl; is_last = h.is_last; sized = h.sized; are_held = h.are_held }
unseen guest past Stopped last next list kind h = record { is_next = refl; is_last = h.is_last; sized = h.sized; are_held = h.are_held }
unseen guest past Switched last next list kind h = record { is_next = refl; is_last = h.is_last; sized = h.sized; are_held = h.are_held }
unseen guest past e last next list kind h = absurd kind

pub reads_held : (guest : Guest) (past : List Event) (v last : ℕ) (next : Option ℕ) (list : List Throttle) (held : Throttle) → 1 ≤ guest.settings.quota → AreHeld guest past next last list → v < length list → held ≡ get_or list v held → held ≡ throttle guest v past
reads_held guest past v last next list held some h lt at =
    let within : v < vcpu_count guest = omega (arith, lt, h.sized) in
    at ∙ ap (λ xs. get_or xs v held) (h.are_held some) ∙ get-table (λ u. throttle guest u past) (vcpu_count guest) v held within
