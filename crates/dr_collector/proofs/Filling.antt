-- Harvests into the pending entries, one after the other.
use Rattle.std.proofs.Common.{◌≡◌, ℕ, Bool, ◌<◌, ◌≤◌, ◌+◌, true, false, List, [], ◌∷◌, ◌++◌, length, set, refl, ap, sym, ◌∙◌, subst, arith, append_assoc, length-append, Some, None, slice_get}
use Rattle.std.proofs.lemmas.List.{append-nil}
use Rattle.dr_types.specs.declared.entry.Entry.{Entry}
use Rattle.dr_ring.specs.Seats.{UserView, user_harvested, user_loaded, LoadsNoDirty}
use Rattle.dr_ring_set.specs.Seated.{MovesAt, IsHarvest}
use Rattle.dr_ring_set.proofs.Batches.{seat_written}
use Rattle.dr_collector.specs.Collected.{all_harvested}
use Rattle.dr_collector.specs.Pending.{PendingView, Fills}
use Rattle.dr_collector.proofs.Seating.{is_there, set_same, set_again, harvested_next, harvested_grows, ring_stays, known_stays}

-- the seat at v has harvested the entries that are pending more than before
pub record IsFilling (size v : ℕ) (before now : List UserView) (old new : PendingView) : Type 0 where
  pub seat : UserView
  pub at : slice_get before v ≡ Some seat
  pub more : List Entry
  pub written : now ≡ set before v (all_harvested size seat more)
  pub added : new.entries ≡ old.entries ++ more
  pub handed : new.handed ≡ old.handed
  pub most : length new.entries ≤ size

-- nothing is harvested yet
pub filling_begins : (size v : ℕ) (seats : List UserView) (p : PendingView) → v < length seats → length p.entries ≤ size → IsFilling size v seats seats p p
filling_begins size v seats p lt most =
    let there : (s : UserView) × (slice_get seats v ≡ Some s) = is_there seats v lt in record {
      seat = there.0;
      at = there.1;
      more = [];
      written = sym (set_same seats v there.0 there.1);
      added = sym (append-nil p.entries);
      handed = refl;
      most = most;
    }

-- more room changes nothing of it
pub filling_stays : (size v : ℕ) (before now : List UserView) (old mid new : PendingView) → IsFilling size v before now old mid → new.handed ≡ mid.handed → new.entries ≡ mid.entries → IsFilling size v before now old new
filling_stays size v before now old mid new is handed entries = record {
  seat = is.seat;
  at = is.at;
  more = is.more;
  written = is.written;
  added = entries ∙ is.added;
  handed = handed ∙ is.handed;
  most = subst (λ (xs : List Entry). length xs ≤ size) (sym entries) is.most;
}

-- the seat that a filling left
seat_left : (size v : ℕ) (before now : List UserView) (old new : PendingView) (s : UserView) → (is : IsFilling size v before now old new) → slice_get now v ≡ Some s → all_harvested size is.seat is.more ≡ s
seat_left size v before now old new s is at =
    seat_written before v is.seat (all_harvested size is.seat is.more) s is.at (subst (λ (xs : List UserView). slice_get xs v ≡ Some s) is.written at)

-- one entry more
pub filling_more : (size v : ℕ) (before now next : List UserView) (old mid new : PendingView) (e : Entry) → IsFilling size v before now old mid → length mid.entries < size → MovesAt now next v (λ s t. IsHarvest size s t (Some e)) → new.handed ≡ mid.handed → new.entries ≡ mid.entries ++ e ∷ [] → IsFilling size v before next old new
filling_more size v before now next old mid new e is lt moves handed entries =
    let left : all_harvested size is.seat is.more ≡ moves.0 = seat_left size v before now old mid moves.0 is moves.2 in
    let seat : moves.1 ≡ all_harvested size is.seat (is.more ++ e ∷ []) =
    moves.4.some ∙ ap (λ (s : UserView). user_harvested size s e) (sym left) ∙ sym (harvested_next size is.seat is.more e) in record {
      seat = is.seat;
      at = is.at;
      more = is.more ++ e ∷ [];
      written =
          moves.3 ∙ ap (λ (xs : List UserView). set xs v moves.1) is.written
          ∙ set_again before v (all_harvested size is.seat is.more) moves.1
          ∙ ap (λ (s : UserView). set before v s) seat;
      added = entries ∙ ap (λ (xs : List Entry). xs ++ e ∷ []) is.added ∙ append_assoc old.entries is.more (e ∷ []);
      handed = handed ∙ is.handed;
      most = let count : length new.entries ≡ length mid.entries + 1 = ap length entries ∙ length-append mid.entries (e ∷ []) in omega arith;
    }

-- the filling ends where memory is refused
pub filling_refused : (size v : ℕ) (before now : List UserView) (old mid new : PendingView) (done : Bool) → IsFilling size v before now old mid → new.handed ≡ mid.handed → new.entries ≡ mid.entries → done ≡ false → MovesAt before now v (λ s t. Fills size old new done s t)
filling_refused size v before now old mid new done begun handed entries refused =
    let is = filling_stays size v before now old mid new begun handed entries in (
      is.seat,
      all_harvested size is.seat is.more,
      is.at,
      is.written,
      record {
        handed = is.handed;
        most = is.most;
        more = is.more;
        added = is.added;
        harvested = harvested_grows size is.seat is.more;
        ring = ring_stays size is.seat is.more;
        few = λ yes few. absurd (cc (yes, refused));
        known = λ yes few. absurd (cc (yes, refused));
        full = λ yes full. absurd (cc (yes, refused));
        refused = λ no. (is.more, refl);
      },
    )

-- .. where as many are pending as the ring has places
pub filling_full : (size v : ℕ) (before now : List UserView) (old new : PendingView) → IsFilling size v before now old new → size ≤ length new.entries → MovesAt before now v (λ s t. Fills size old new true s t)
filling_full size v before now old new is many = (
  is.seat,
  all_harvested size is.seat is.more,
  is.at,
  is.written,
  record {
    handed = is.handed;
    most = is.most;
    more = is.more;
    added = is.added;
    harvested = harvested_grows size is.seat is.more;
    ring = ring_stays size is.seat is.more;
    few = λ done few. absurd (omega arith);
    known = λ done few. absurd (omega arith);
    full = λ done full. (is.more, refl);
    refused = λ wrong. absurd cc;
  },
)

-- .. where the next entry isn't dirty
pub filling_dry : (size v : ℕ) (before now next : List UserView) (old mid new : PendingView) → IsFilling size v before now old mid → new.handed ≡ mid.handed → new.entries ≡ mid.entries → length mid.entries < size → MovesAt now next v (λ s t. IsHarvest size s t None) → MovesAt before next v (λ s t. Fills size old new true s t)
filling_dry size v before now next old mid new begun handed entries less moves =
    let is = filling_stays size v before now old mid new begun handed entries in
    let lt : length new.entries < size = omega (arith, ap length entries) in
    let left : all_harvested size is.seat is.more ≡ moves.0 = seat_left size v before now old new moves.0 is moves.2 in
    let stops = moves.4.none refl in
    let grown : moves.1.harvested ≡ is.seat.harvested ++ is.more =
    ap (λ (s : UserView). s.harvested) (stops.1 ∙ ap (λ (s : UserView). user_loaded size s stops.0) (sym left)) ∙ harvested_grows size is.seat is.more in
    let known : is.seat.known ≡ moves.0.known = sym (known_stays size is.seat is.more) ∙ ap (λ (s : UserView). s.known) left in
    let whole : moves.0.harvested ≡ moves.1.harvested = ap (λ (s : UserView). s.harvested) (sym stops.1) in (
      is.seat,
      moves.1,
      is.at,
      moves.3 ∙ ap (λ (xs : List UserView). set xs v moves.1) is.written ∙ set_again before v (all_harvested size is.seat is.more) moves.1,
      record {
        handed = is.handed;
        most = is.most;
        more = is.more;
        added = is.added;
        harvested = grown;
        ring = ap (λ (s : UserView). s.ring) (stops.1 ∙ ap (λ (s : UserView). user_loaded size s stops.0) (sym left)) ∙ ring_stays size is.seat is.more;
        few = λ done few. (is.more, subst (λ (s : UserView). LoadsNoDirty size s moves.1) (sym left) stops);
        known = λ done few. let learnt = moves.4.learnt refl in omega (arith, learnt, ap length whole, known);
        full = λ done full. absurd (omega arith);
        refused = λ wrong. absurd cc;
      },
    )

-- the steps and the end of a filling
pub ruleset fill_steps = (filling_begins, filling_stays, filling_more, filling_full)
