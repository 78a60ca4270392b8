use Rattle.std.proofs.Common.{◌≡◌, ℕ, zero, suc, ◌+◌, ◌-◌, ◌<◌, ◌≤◌, List, [], ◌∷◌, ◌++◌, length, get_or, drop, refl, ap, sym, ◌∙◌, subst, arith, add-one, append_assoc}
use Rattle.std.specs.Prelude.{Some, None}
use Rattle.std.specs.List.{slice_get}
use Rattle.std.proofs.Math.Seq.{drop-cons}
use Rattle.std.proofs.lemmas.List.{get_or_default}
use Rattle.dr_types.specs.declared.guest.Op.{Op}
use Rattle.dr_types.specs.declared.guest.Item.{Item}
use Rattle.dr_types.specs.declared.guest.Item.TheVariants.{One, Rep}
use Rattle.dr_types.specs.Scripts.{expanded, repeated}
use Rattle.dr_script.specs.Places.{rest, rest_of, AllRun, IsPlace, IsPlaceOf}

front : (items : List Item) → AllRun items → rest_of items 0 0 ≡ expanded items
front [] h = refl
front (One op ∷ later) h = refl
front (Rep zero body ∷ later) h = absurd (let lt : 0 < 0 = h.0 in omega arith)
front (Rep (suc n) body ∷ later) h = ap (λ k. body ++ repeated k body ++ expanded later) (omega arith)

front_place : (items : List Item) → AllRun items → IsPlaceOf items 0 0
front_place [] h = (refl, refl)
front_place (One op ∷ later) h = (refl, refl)
front_place (Rep n body ∷ later) h = (h.0, h.1)

pub from_front : (items : List Item) → AllRun items → rest items 0 0 0 ≡ expanded items
unfolding rest
from_front items h = front items h

pub front_is_place : (items : List Item) → AllRun items → IsPlace items 0 0 0
front_is_place items h = record { run = h; there = front_place items h }

pub ruleset begins = (from_front, front_is_place)

run_drop : (i : ℕ) (items : List Item) → AllRun items → AllRun (drop i items)
run_drop zero items h = h
run_drop (suc i) [] h = tt
run_drop (suc i) (One op ∷ later) h = run_drop i later h
run_drop (suc i) (Rep n body ∷ later) h = run_drop i later h.2

-- the items from one on, which is read
from : (items : List Item) (i : ℕ) (item : Item) → i < length items → item ≡ get_or items i item → drop i items ≡ item ∷ drop (i + 1) items
from items i item h e = drop-cons items i item h ∙ ap (λ x. x ∷ drop (suc i) items) (sym e) ∙ ap (λ k. item ∷ drop k items) (sym (add-one i))

-- nothing is read after the end
drop_end : (i : ℕ) (items : List Item) → length items ≤ i → drop i items ≡ []
drop_end zero [] h = refl
drop_end zero (x ∷ xs) h = absurd (omega arith)
drop_end (suc i) [] h = refl
drop_end (suc i) (x ∷ xs) h = drop_end i xs (omega arith)

pub reads_none : (items : List Item) (i done place : ℕ) → length items ≤ i → slice_get (rest items i done place) 0 ≡ None
unfolding rest
reads_none items i done place h = ap (λ xs. slice_get (rest_of xs done place) 0) (drop_end i items h)

pub reads_one : (items : List Item) (i done place : ℕ) (item : Item) (op : Op) → i < length items → item ≡ get_or items i item → item ≡ One op → slice_get (rest items i done place) 0 ≡ Some op
unfolding rest
reads_one items i done place item op h e is = ap (λ xs. slice_get (rest_of xs done place) 0) (from items i item h e ∙ ap (λ x. x ∷ drop (i + 1) items) is)

at_drop : (xs ys : List Op) (p : ℕ) (d : Op) → p < length xs → slice_get (drop p xs ++ ys) 0 ≡ Some (get_or xs p d)
at_drop [] ys p d h = absurd (omega arith)
at_drop (x ∷ xs) ys zero d h = refl
at_drop (x ∷ xs) ys (suc p) d h = at_drop xs ys p d (omega arith)

pub reads_rep : (items : List Item) (i done place n : ℕ) (item : Item) (body : List Op) (op : Op) → i < length items → item ≡ get_or items i item → item ≡ Rep n body → place < length body → op ≡ get_or body place op → slice_get (rest items i done place) 0 ≡ Some op
unfolding rest
reads_rep items i done place n item body op h e is lt read =
    ap (λ xs. slice_get (rest_of xs done place) 0) (from items i item h e ∙ ap (λ x. x ∷ drop (i + 1) items) is)
    ∙ ap (λ xs. slice_get xs 0) (append_assoc (drop place body) (repeated (n - suc done) body) (expanded (drop (i + 1) items)))
    ∙ at_drop body (repeated (n - suc done) body ++ expanded (drop (i + 1) items)) place op lt ∙ ap (λ x. Some x) (sym read)

-- what the place says where a repetition is read
pub place_rep : (items : List Item) (i done place n : ℕ) (item : Item) (body : List Op) → IsPlace items i done place → i < length items → item ≡ get_or items i item → item ≡ Rep n body → (done < n) × (place < length body)
place_rep items i done place n item body p h e is = subst (λ (xs : List Item). IsPlaceOf xs done place) (from items i item h e ∙ ap (λ x. x ∷ drop (i + 1) items) is) p.there

pub ruleset reads = (reads_none, reads_one, reads_rep, place_rep)

drop_one : (xs ys : List Op) (p : ℕ) → p < length xs → drop 1 (drop p xs ++ ys) ≡ drop (p + 1) xs ++ ys
drop_one [] ys p h = absurd (omega arith)
drop_one (x ∷ xs) ys zero h = refl
drop_one (x ∷ xs) ys (suc p) h = drop_one xs ys p (omega arith) ∙ ap (λ k. drop k (x ∷ xs) ++ ys) (sym (add-one (suc p) ∙ ap suc (sym (add-one p))))

drop_past : (xs : List Op) (p : ℕ) → length xs ≤ p → drop p xs ≡ []
drop_past [] zero h = refl
drop_past [] (suc p) h = refl
drop_past (x ∷ xs) zero h = absurd (omega arith)
drop_past (x ∷ xs) (suc p) h = drop_past xs p (omega arith)

-- within the body
within : (n : ℕ) (body : List Op) (later : List Item) (d p : ℕ) → p < length body → drop 1 (rest_of (Rep n body ∷ later) d p) ≡ rest_of (Rep n body ∷ later) d (p + 1)
within n body later d p h =
    ap (λ xs. drop 1 xs) (append_assoc (drop p body) (repeated (n - suc d) body) (expanded later))
    ∙ drop_one body (repeated (n - suc d) body ++ expanded later) p h
    ∙ sym (append_assoc (drop (p + 1) body) (repeated (n - suc d) body) (expanded later))

once_more : (n k : ℕ) (body : List Op) → n ≡ suc k → repeated n body ≡ body ++ repeated k body
once_more n k body h = ap (λ m. repeated m body) h

-- to the next repetition
again : (n : ℕ) (body : List Op) (later : List Item) (d p : ℕ) → p < length body → length body ≤ p + 1 → d + 1 < n → drop 1 (rest_of (Rep n body ∷ later) d p) ≡ rest_of (Rep n body ∷ later) (d + 1) 0
again n body later d p lt le more =
    within n body later d p lt
    ∙ ap (λ xs. xs ++ repeated (n - suc d) body ++ expanded later) (drop_past body (p + 1) le)
    ∙ ap (λ xs. xs ++ expanded later) (once_more (n - suc d) (n - suc (d + 1)) body (omega arith))

-- and to the next item
onward : (n : ℕ) (body : List Op) (later : List Item) (d p : ℕ) → p < length body → length body ≤ p + 1 → n ≤ d + 1 → AllRun later → drop 1 (rest_of (Rep n body ∷ later) d p) ≡ rest_of later 0 0
onward n body later d p lt le last run =
    let none : n - suc d ≡ 0 = omega arith in
    within n body later d p lt
    ∙ ap (λ xs. xs ++ repeated (n - suc d) body ++ expanded later) (drop_past body (p + 1) le)
    ∙ ap (λ k. repeated k body ++ expanded later) none
    ∙ sym (front later run)

pub turns_none : (items : List Item) (i done place : ℕ) → length items ≤ i → rest items i done place ≡ drop 1 (rest items i done place)
unfolding rest
turns_none items i done place h =
    let e : rest items i done place ≡ [] = ap (λ xs. rest_of xs done place) (drop_end i items h) in
    e ∙ ap (λ xs. drop 1 xs) (sym e)

pub turns_one : (items : List Item) (i done place : ℕ) (item : Item) (op : Op) → IsPlace items i done place → i < length items → item ≡ get_or items i item → item ≡ One op → rest items (i + 1) done place ≡ drop 1 (rest items i done place)
unfolding rest
turns_one items i done place item op p h e is =
    let split : drop i items ≡ One op ∷ drop (i + 1) items = from items i item h e ∙ ap (λ x. x ∷ drop (i + 1) items) is in
    let q : (done ≡ 0) × (place ≡ 0) = subst (λ (xs : List Item). IsPlaceOf xs done place) split p.there in
    ap (λ k. rest_of (drop (i + 1) items) k place) q.0 ∙ ap (λ k. rest_of (drop (i + 1) items) 0 k) q.1
    ∙ front (drop (i + 1) items) (run_drop (i + 1) items p.run)
    ∙ sym (ap (λ xs. drop 1 (rest_of xs done place)) split)

pub turns_one_place : (items : List Item) (i done place : ℕ) (item : Item) (op : Op) → IsPlace items i done place → i < length items → item ≡ get_or items i item → item ≡ One op → IsPlace items (i + 1) done place
turns_one_place items i done place item op p h e is =
    let split : drop i items ≡ One op ∷ drop (i + 1) items = from items i item h e ∙ ap (λ x. x ∷ drop (i + 1) items) is in
    let q : (done ≡ 0) × (place ≡ 0) = subst (λ (xs : List Item). IsPlaceOf xs done place) split p.there in
    let at : IsPlaceOf (drop (i + 1) items) 0 0 = front_place (drop (i + 1) items) (run_drop (i + 1) items p.run) in
    record { run = p.run; there = subst (λ (k : ℕ). IsPlaceOf (drop (i + 1) items) k place) (sym q.0) (subst (λ (k : ℕ). IsPlaceOf (drop (i + 1) items) 0 k) (sym q.1) at) }

pub turns_within : (items : List Item) (i done place n : ℕ) (item : Item) (body : List Op) → i < length items → item ≡ get_or items i item → item ≡ Rep n body → place + 1 < length body → rest items i done (place + 1) ≡ drop 1 (rest items i done place)
unfolding rest
turns_within items i done place n item body h e is lt =
    let split : drop i items ≡ Rep n body ∷ drop (i + 1) items = from items i item h e ∙ ap (λ x. x ∷ drop (i + 1) items) is in
    ap (λ xs. rest_of xs done (place + 1)) split ∙ sym (within n body (drop (i + 1) items) done place (omega arith)) ∙ sym (ap (λ xs. drop 1 (rest_of xs done place)) split)

pub turns_within_place : (items : List Item) (i done place n : ℕ) (item : Item) (body : List Op) → IsPlace items i done place → i < length items → item ≡ get_or items i item → item ≡ Rep n body → place + 1 < length body → IsPlace items i done (place + 1)
turns_within_place items i done place n item body p h e is lt =
    let split : drop i items ≡ Rep n body ∷ drop (i + 1) items = from items i item h e ∙ ap (λ x. x ∷ drop (i + 1) items) is in
    let q : (done < n) × (place < length body) = place_rep items i done place n item body p h e is in
    record { run = p.run; there = subst (λ (xs : List Item). IsPlaceOf xs done (place + 1)) (sym split) (q.0, lt) }

pub turns_again : (items : List Item) (i done place n : ℕ) (item : Item) (body : List Op) → IsPlace items i done place → i < length items → item ≡ get_or items i item → item ≡ Rep n body → length body ≤ place + 1 → done + 1 < n → rest items i (done + 1) 0 ≡ drop 1 (rest items i done place)
unfolding rest
turns_again items i done place n item body p h e is le more =
    let split : drop i items ≡ Rep n body ∷ drop (i + 1) items = from items i item h e ∙ ap (λ x. x ∷ drop (i + 1) items) is in
    let q : (done < n) × (place < length body) = place_rep items i done place n item body p h e is in
    ap (λ xs. rest_of xs (done + 1) 0) split ∙ sym (again n body (drop (i + 1) items) done place q.1 le more) ∙ sym (ap (λ xs. drop 1 (rest_of xs done place)) split)

pub turns_again_place : (items : List Item) (i done place n : ℕ) (item : Item) (body : List Op) → IsPlace items i done place → i < length items → item ≡ get_or items i item → item ≡ Rep n body → done + 1 < n → IsPlace items i (done + 1) 0
turns_again_place items i done place n item body p h e is more =
    let split : drop i items ≡ Rep n body ∷ drop (i + 1) items = from items i item h e ∙ ap (λ x. x ∷ drop (i + 1) items) is in
    let q : (done < n) × (place < length body) = place_rep items i done place n item body p h e is in
    record { run = p.run; there = subst (λ (xs : List Item). IsPlaceOf xs (done + 1) 0) (sym split) (more, omega (arith, q.1)) }

pub turns_onward : (items : List Item) (i done place n : ℕ) (item : Item) (body : List Op) → IsPlace items i done place → i < length items → item ≡ get_or items i item → item ≡ Rep n body → length body ≤ place + 1 → n ≤ done + 1 → rest items (i + 1) 0 0 ≡ drop 1 (rest items i done place)
unfolding rest
turns_onward items i done place n item body p h e is le last =
    let split : drop i items ≡ Rep n body ∷ drop (i + 1) items = from items i item h e ∙ ap (λ x. x ∷ drop (i + 1) items) is in
    let q : (done < n) × (place < length body) = place_rep items i done place n item body p h e is in
    sym (onward n body (drop (i + 1) items) done place q.1 le last (run_drop (i + 1) items p.run)) ∙ sym (ap (λ xs. drop 1 (rest_of xs done place)) split)

pub turns_onward_place : (items : List Item) (i done place : ℕ) → IsPlace items i done place → IsPlace items (i + 1) 0 0
turns_onward_place items i done place p = record { run = p.run; there = front_place (drop (i + 1) items) (run_drop (i + 1) items p.run) }

pub ruleset turns = (place_rep, turns_none, turns_one, turns_one_place, turns_within, turns_within_place, turns_again, turns_again_place, turns_onward, turns_onward_place)

-- the item that was read of a slice
pub at_item : (items slice : List Item) (i : ℕ) (item : Item) → slice ≡ items → i < length slice → item ≡ get_or slice i item → (i < length items) × (item ≡ get_or items i item)
at_item items slice i item e lt is = (omega (arith, lt, ap length e), is ∙ ap (λ xs. get_or xs i item) e)

pub reads_rep_at : (items : List Item) (i done place n : ℕ) (item : Item) (body slice : List Op) (d : Op) → i < length items → item ≡ get_or items i item → item ≡ Rep n body → place < length body → slice ≡ body → Some (get_or slice place d) ≡ slice_get (rest items i done place) 0
reads_rep_at items i done place n item body slice d h e is lt same =
    let read : get_or body place d ≡ get_or body place (get_or body place d) = get_or_default body place d (get_or body place d) lt in
    ap (λ xs. Some (get_or xs place d)) same ∙ sym (reads_rep items i done place n item body (get_or body place d) h e is lt read)
