-- Seats with what is pending of each.
use Rattle.std.proofs.Common.{◌≡◌, ◌⊎◌, ℕ, zero, suc, ◌+◌, ◌-◌, ◌*◌, ◌<◌, ◌≤◌, Bool, List, [], ◌∷◌, ◌++◌, map, length, drop, set, length-set, refl, ap, sym, ◌∙◌, subst, arith, inl, inr, length-append, length-drop, All, Option, Some, None, IfSome, slice_get, option_map, max}
use Rattle.std.proofs.lemmas.List.{drop-append-le, drop_all, length-map}
use Rattle.std.proofs.lemmas.Option.{slice_get-map}
use Rattle.std.proofs.lemmas.Bool.{cases_lt}
use Rattle.atomic_table.specs.Seated.{TableId}
use Rattle.dr_types.specs.declared.entry.Entry.{Entry}
use Rattle.dr_ring.specs.Seats.{NoteView, UserView, IsOfSize, user_note}
use Rattle.dr_ring_set.specs.Seated.{MovesAt, ring_of_user}
use Rattle.dr_ring_set.specs.Batches.{BatchView, StandFrom}
use Rattle.dr_ring_set.proofs.Batches.{seat_written}
use Rattle.dr_collector.specs.Collected.{Collected, ring_of, learnt, Harvests, Stops}
use Rattle.dr_collector.specs.Pending.{PendingView, collected, all_collected, IsPending, ArePending, Fills, Gathers, HandsOut}
use Rattle.dr_collector.proofs.Seating.{is_there, set_same, set_again, set_at, stand_from, all_at, all_from_each, rings_stay, learnt_harvested, learnt_ring}

-- what is collected of one vCPU
pub collected_at : (ss : List UserView) (ps : List PendingView) (v : ℕ) (s : UserView) (p : PendingView) → slice_get ss v ≡ Some s → slice_get ps v ≡ Some p → slice_get (all_collected ss ps) v ≡ Some (collected s p)
collected_at [] ps v s p a b = absurd cc
collected_at (x ∷ ss) [] v s p a b = absurd cc
collected_at (x ∷ ss) (y ∷ ps) zero s p a b = let one : x ≡ s = cc in let two : y ≡ p = cc in λ i. Some (collected (one i) (two i))
collected_at (x ∷ ss) (y ∷ ps) (suc v) s p a b = collected_at ss ps v s p a b

-- .. and both parts of it
pub parts_at : (ss : List UserView) (ps : List PendingView) (v : ℕ) (c : Collected) → slice_get (all_collected ss ps) v ≡ Some c → (s : UserView) × (p : PendingView) × (slice_get ss v ≡ Some s) × (slice_get ps v ≡ Some p) × (c ≡ collected s p)
parts_at [] ps v c at = absurd cc
parts_at (x ∷ ss) [] v c at = absurd cc
parts_at (x ∷ ss) (y ∷ ps) zero c at = (x, y, refl, refl, cc)
parts_at (x ∷ ss) (y ∷ ps) (suc v) c at = parts_at ss ps v c at

-- a write of both parts
pub collected_set : (ss : List UserView) (ps : List PendingView) (v : ℕ) (t : UserView) (q : PendingView) → all_collected (set ss v t) (set ps v q) ≡ set (all_collected ss ps) v (collected t q)
collected_set [] ps v t q = refl
collected_set (x ∷ ss) [] zero t q = refl
collected_set (x ∷ ss) [] (suc v) t q = refl
collected_set (x ∷ ss) (y ∷ ps) zero t q = refl
collected_set (x ∷ ss) (y ∷ ps) (suc v) t q = ap (λ (cs : List Collected). collected x y ∷ cs) (collected_set ss ps v t q)

pub collected_count : (ss : List UserView) (ps : List PendingView) → length ps ≡ length ss → length (all_collected ss ps) ≡ length ss
collected_count [] ps count = refl
collected_count (x ∷ ss) [] count = absurd (omega arith)
collected_count (x ∷ ss) (y ∷ ps) count = let rest = collected_count ss ps (omega arith) in omega (arith, rest)

pub collected_rings : (ss : List UserView) (ps : List PendingView) → length ps ≡ length ss → map ring_of (all_collected ss ps) ≡ map ring_of_user ss
collected_rings [] ps count = refl
collected_rings (x ∷ ss) [] count = absurd (omega arith)
collected_rings (x ∷ ss) (y ∷ ps) count = ap (λ (ids : List TableId). x.ring ∷ ids) (collected_rings ss ps (omega arith))

-- no more went out than was harvested
pub all_within : (rings : List TableId) (ss : List UserView) (ps : List PendingView) → ArePending rings ss ps → All (λ c. c.handed ≤ length c.seat.harvested) (all_collected ss ps)
all_within rings ss ps are = all_from_each (λ (c : Collected). c.handed ≤ length c.seat.harvested) (all_collected ss ps) (λ v c at.
    let parts = parts_at ss ps v c at in
    subst (λ (d : Collected). d.handed ≤ length d.seat.harvested) (sym parts.4) (are.each v parts.0 parts.1 parts.2 parts.3).within)

-- a vCPU of the name has a seat, and something pending
pub has_pending : (rings : List TableId) (ss : List UserView) (ps : List PendingView) (v : ℕ) → ArePending rings ss ps → v < length rings → v < length ps
has_pending rings ss ps v are lt =
    let count : length ps ≡ length ss = are.count in
    let named : length (map ring_of_user ss) ≡ length rings = ap length are.named in
    omega (arith, count, named, length-map ss ring_of_user)

pub has_seat : (rings : List TableId) (ss : List UserView) (ps : List PendingView) (v : ℕ) → ArePending rings ss ps → v < length rings → (s : UserView) × (slice_get ss v ≡ Some s)
has_seat rings ss ps v are lt =
    let named : length (map ring_of_user ss) ≡ length rings = ap length are.named in
    is_there ss v (omega (arith, named, length-map ss ring_of_user))

-- the seat's ring has places for as many as the size says
pub seat_sized : (rings : List TableId) (ss : List UserView) (ps : List PendingView) (size v : ℕ) (s : UserView) → ArePending rings ss ps → All (λ id. IsOfSize size id) rings → slice_get ss v ≡ Some s → s.ring.words ≡ 1 + 2 * size
seat_sized rings ss ps size v s are sized at =
    let named : slice_get rings v ≡ Some s.ring =
    subst (λ (ids : List TableId). slice_get ids v ≡ Some s.ring) are.named (slice_get-map ring_of_user ss v ∙ ap (option_map ring_of_user) at) in
    all_at (λ (id : TableId). IsOfSize size id) rings v s.ring sized named

-- there is room in the ring for all that is pending
pub pending_fits : (rings : List TableId) (ss : List UserView) (ps : List PendingView) (size v : ℕ) (p : PendingView) → ArePending rings ss ps → All (λ id. IsOfSize size id) rings → v < length rings → slice_get ps v ≡ Some p → length p.entries ≤ size
pending_fits rings ss ps size v p are sized lt at =
    let seat = has_seat rings ss ps v are lt in
    let words = seat_sized rings ss ps size v seat.0 are sized seat.1 in
    let fits = (are.each v seat.0 p seat.1 at).fits in
    omega (arith, words, fits)

-- one seat moves with what is pending of it, and the others stay
pub pending_moves : (rings : List TableId) (ss : List UserView) (ps : List PendingView) (v : ℕ) (s t : UserView) (q : PendingView) → ArePending rings ss ps → slice_get ss v ≡ Some s → t.ring ≡ s.ring → IsPending t q → ArePending rings (set ss v t) (set ps v q)
pending_moves rings ss ps v s t q are at ring is = record {
  named = rings_stay ss v s t at ring ∙ are.named;
  count = length-set ps v q ∙ are.count ∙ sym (length-set ss v t);
  each = λ w x y seat pending.
      elim (set_at ss v w t x seat) [
        | inl a ↦ elim (set_at ps v w q y pending) [
          | inl b ↦ subst (λ (z : UserView × PendingView). IsPending z.0 z.1) (λ i. (sym a.1 i, sym b.1 i)) is
          | inr b ↦ absurd (b.0 a.0)
        ]
        | inr a ↦ elim (set_at ps v w q y pending) [
          | inl b ↦ absurd (a.0 b.0)
          | inr b ↦ are.each w x y a.1 b.1
        ]
      ];
}

-- what was harvested went out or is pending
pub counts : (s : UserView) (p : PendingView) → IsPending s p → length s.harvested ≡ p.handed + length p.entries
counts s p is =
    let within = is.within in
    let rest : length p.entries ≡ length s.harvested - p.handed = ap length is.entries ∙ length-drop p.handed s.harvested in
    omega (arith, rest, within)

-- what was harvested and put after the pending entries is pending
pub still_pending : (size : ℕ) (seen : Option NoteView) (done : Bool) (old s t : UserView) (p q : PendingView) → s ≡ learnt seen old → IsPending old p → old.ring.words ≡ 1 + 2 * size → Fills size p q done s t → IsPending t q
still_pending size seen done old s t p q is pending words fills =
    let harvested : s.harvested ≡ old.harvested = ap (λ (u : UserView). u.harvested) is ∙ learnt_harvested seen old in
    let grown : t.harvested ≡ old.harvested ++ fills.more = fills.harvested ∙ ap (λ (xs : List Entry). xs ++ fills.more) harvested in
    let ring : t.ring ≡ old.ring = fills.ring ∙ ap (λ (u : UserView). u.ring) is ∙ learnt_ring seen old in
    let within = pending.within in
    let handed = fills.handed in
    let most = fills.most in
    let count : length t.harvested ≡ length old.harvested + length fills.more = ap length grown ∙ length-append old.harvested fills.more in record {
      within = omega (arith, within, handed, count);
      entries =
          fills.added ∙ ap (λ (xs : List Entry). xs ++ fills.more) pending.entries
          ∙ sym (drop-append-le p.handed old.harvested fills.more within)
          ∙ (λ i. drop (sym handed i) (sym grown i));
      fits = let same : t.ring.words ≡ old.ring.words = ap (λ (id : TableId). id.words) ring in omega (arith, same, words, most);
    }

told_at : (size harvested handed pending : ℕ) (seen : Option NoteView) (old s : UserView) → s ≡ learnt seen old → harvested ≡ handed + pending → pending ≤ size → (pending < size → s.known ≤ harvested) → IfSome seen (λ n. (length n.entries ≤ harvested) ⊎ (harvested ≡ handed + size))
told_at size harvested handed pending None old s is count most known = tt
told_at size harvested handed pending (Some n) old s is count most known =
    elim (cases_lt pending size) [
      | inl lt ↦ let knows : s.known ≡ max old.known (length n.entries) = ap (λ (u : UserView). u.known) is in inl (omega (arith, knows, known lt))
      | inr ge ↦ inr (omega arith)
    ]

-- how what is collected goes by it
pub gathers : (size : ℕ) (seen : Option NoteView) (done : Bool) (old s t : UserView) (p q : PendingView) → s ≡ learnt seen old → IsPending old p → old.ring.words ≡ 1 + 2 * size → Fills size p q done s t → Gathers size seen done (collected old p) (collected t q)
gathers size seen done old s t p q is pending words fills =
    let harvested : s.harvested ≡ old.harvested = ap (λ (u : UserView). u.harvested) is ∙ learnt_harvested seen old in
    let grown : t.harvested ≡ old.harvested ++ fills.more = fills.harvested ∙ ap (λ (xs : List Entry). xs ++ fills.more) harvested in
    let count : length t.harvested ≡ q.handed + length q.entries = counts t q (still_pending size seen done old s t p q is pending words fills) in
    let most = fills.most in record {
      handed = fills.handed;
      kept = (fills.more, sym grown);
      most = omega (arith, count, most);
      few = λ yes lt. subst (λ (u : UserView). Stops size u t) is (fills.few yes (omega (arith, count, lt)));
      full = λ yes full. subst (λ (u : UserView). Harvests size u t) is (fills.full yes (omega (arith, count, full)));
      told = λ yes. told_at size (length t.harvested) q.handed (length q.entries) seen old s is count most (fills.known yes);
      refused = λ no. subst (λ (u : UserView). Harvests size u t) is (fills.refused no);
    }

-- what a harvest into the pending entries of one vCPU leaves
pub record IsGathered (rings : List TableId) (ss new : List UserView) (ps : List PendingView) (size v : ℕ) (seen : Option NoteView) (done : Bool) (q : PendingView) : Type 0 where
  pub are : ArePending rings new (set ps v q)
  pub moves : MovesAt (all_collected ss ps) (all_collected new (set ps v q)) v (λ c d. Gathers size seen done c d)

pub gathered : (rings : List TableId) (ss mid new : List UserView) (ps : List PendingView) (size v : ℕ) (seen : Option NoteView) (done : Bool) (p q : PendingView)
    → ArePending rings ss ps → All (λ id. IsOfSize size id) rings → slice_get ps v ≡ Some p
    → MovesAt ss mid v (λ s t. t ≡ learnt seen s) → MovesAt mid new v (λ s t. Fills size p q done s t)
    → IsGathered rings ss new ps size v seen done q
gathered rings ss mid new ps size v seen done p q are sized at learns fills =
    let old : UserView = learns.0 in
    let s : UserView = fills.0 in
    let t : UserView = fills.1 in
    let same : learns.1 ≡ s = seat_written ss v old learns.1 s learns.2 (subst (λ (xs : List UserView). slice_get xs v ≡ Some s) learns.3 fills.2) in
    let is : s ≡ learnt seen old = sym same ∙ learns.4 in
    let written : new ≡ set ss v t = fills.3 ∙ ap (λ (xs : List UserView). set xs v t) learns.3 ∙ set_again ss v learns.1 t in
    let pending : IsPending old p = are.each v old p learns.2 at in
    let words : old.ring.words ≡ 1 + 2 * size = seat_sized rings ss ps size v old are sized learns.2 in
    let ring : t.ring ≡ old.ring = fills.4.ring ∙ ap (λ (u : UserView). u.ring) is ∙ learnt_ring seen old in record {
      are =
          subst (λ (xs : List UserView). ArePending rings xs (set ps v q)) (sym written)
          (pending_moves rings ss ps v old t q are learns.2 ring (still_pending size seen done old s t p q is pending words fills.4));
      moves = (
        collected old p,
        collected t q,
        collected_at ss ps v old p learns.2 at,
        ap (λ (xs : List UserView). all_collected xs (set ps v q)) written ∙ collected_set ss ps v t q,
        gathers size seen done old s t p q is pending words fills.4,
      );
    }

-- what is pending of a seat stands in its note
pub pending_stands : (s : UserView) (p : PendingView) (first : ℕ) (entries : List Entry) (note : NoteView) → IsPending s p → first ≡ p.handed → entries ≡ p.entries → note ≡ user_note s → StandFrom first entries note.entries
pending_stands s p first entries note is number same noted k e at =
    let rest : entries ≡ drop p.handed s.harvested = same ∙ is.entries in
    let stands : slice_get s.harvested (p.handed + k) ≡ Some e = stand_from p.handed s.harvested k e (subst (λ (xs : List Entry). slice_get xs k ≡ Some e) rest at) in
    subst (λ (z : List Entry × ℕ). slice_get z.0 (z.1 + k) ≡ Some e) (λ i. (ap (λ (n : NoteView). n.entries) (sym noted) i, sym number i)) stands

-- what a batch of all that is pending of one vCPU leaves
pub record IsHandedOut (rings : List TableId) (ss new : List UserView) (ps : List PendingView) (v : ℕ) (q : PendingView) (b : BatchView) : Type 0 where
  pub are : ArePending rings new (set ps v q)
  pub moves : MovesAt (all_collected ss ps) (all_collected new (set ps v q)) v (λ c d. HandsOut v c d b)

pub handed_out : (rings : List TableId) (ss new : List UserView) (ps : List PendingView) (v : ℕ) (s : UserView) (p q : PendingView) (b : BatchView)
    → ArePending rings ss ps → new ≡ ss → slice_get ss v ≡ Some s → slice_get ps v ≡ Some p
    → q.handed ≡ length s.harvested → q.entries ≡ [] → b.vcpu ≡ v → b.first ≡ p.handed → b.entries ≡ p.entries → b.note ≡ user_note s
    → IsHandedOut rings ss new ps v q b
handed_out rings ss new ps v s p q b are same seat pending handed empty vcpu first entries note =
    let is : IsPending s p = are.each v s p seat pending in
    let fits = is.fits in
    let none : length q.entries ≡ 0 = ap length empty in
    let written : new ≡ set ss v s = same ∙ sym (set_same ss v s seat) in record {
      are =
          subst (λ (xs : List UserView). ArePending rings xs (set ps v q)) (sym written)
          (pending_moves rings ss ps v s s q are seat refl record {
            within = omega (arith, handed);
            entries = empty ∙ sym (drop_all q.handed s.harvested (omega (arith, handed)));
            fits = omega (arith, none);
          });
      moves = (
        collected s p,
        collected s q,
        collected_at ss ps v s p seat pending,
        ap (λ (xs : List UserView). all_collected xs (set ps v q)) written ∙ collected_set ss ps v s q,
        record { vcpu = vcpu; first = first; within = is.within; entries = entries ∙ is.entries; note = note; seat = refl; out = handed },
      );
    }
