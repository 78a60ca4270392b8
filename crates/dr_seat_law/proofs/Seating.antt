-- Kernel seats beside the events: how each event and each call of a seat carries them on, and what they tell.
use Rattle.std.proofs.Common.{◌≡◌, ℕ, zero, suc, ◌+◌, ◌-◌, ◌<◌, ◌≤◌, max, Bool, true, false, cond, List, [], ◌∷◌, ◌++◌, map, length, set, Option, Some, None, refl, ap, sym, subst, ◌∙◌, arith, inl, inr, length-append, add-one, slice_get, option_map}
use Rattle.std.specs.Prelude.{◌==◌, ◌&&◌, ◌||◌, nat_le, nat_lt, ◌⊎◌, ◌≢◌}
use Rattle.std.proofs.lemmas.Bool.{eq-eqb, ne_eqb, cases_lt, false≢true, and_parts, ltb-true}
use Rattle.std.proofs.lemmas.List.{map-append, length-map}
use Rattle.std.proofs.lemmas.Option.{slice_get-map, slice_get_within}
use Rattle.atomic_table.specs.Seated.{TableId}
use Rattle.dr_types.specs.declared.guest.Guest.{Guest}
use Rattle.dr_types.specs.declared.entry.Entry.{Entry}
use Rattle.dr_history.specs.declared.event.Event.{Event}
use Rattle.dr_history.specs.declared.event.Event.TheVariants.{Opened, Pushed, Deposited, Reset}
use Rattle.dr_history.specs.Lookback.{below}
use Rattle.dr_history.specs.Entries.{pushes, resets, used, page_of_entry}
use Rattle.dr_history.specs.Legality.{IsLegalSoFar}
use Rattle.dr_history_law.proofs.Kept.{opens_facts}
use Rattle.dr_history_law.proofs.Outstanding.{pushed_opened}
use Rattle.dr_history_law.proofs.Order.{reset_pushed}
use Rattle.dr_event_law.specs.May.{MayFollow}
use Rattle.dr_ring.specs.Seats.{KernelView, new_kernel, kernel_reset, kernel_learnt}
use Rattle.dr_ring_set.specs.Seated.{MovesAt}
use Rattle.dr_ring_set.proofs.NewSeats.{new_kernel_at}
use Rattle.dr_seat_law.specs.Entries.{entry, first_entries}
use Rattle.dr_seat_law.specs.Seats.{IsSeatOf, AreSeats, IsAside, deposited}
use Rattle.dr_seat_law.proofs.FirstEntries.{first_stay}

abbrev some : Entry → Option Entry
some e = Some e

-- new seats are those of no events
pub begin_seats : (guest : Guest) (rings : List TableId) → AreSeats guest [] (map new_kernel rings)
begin_seats guest rings = record {
  are = λ v x at.
      let new : x ≡ new_kernel x.ring = new_kernel_at rings v x at in record {
        are_pushed = ap (λ (s : KernelView). map some s.pushed) new;
        is_reset = ap (λ (s : KernelView). s.reset) new;
        knows = λ k h. absurd (false≢true h);
      };
}

-- an event that pushes, deposits and resets nothing leaves the seats as they are
pub seats_stay : (guest : Guest) (past : List Event) (e : Event) (seats : List KernelView) → IsLegalSoFar guest past → MayFollow guest past e → IsAside e → AreSeats guest past seats → AreSeats guest (e ∷ past) seats
unfolding entry page_of_entry
seats_stay guest past (Opened w k page) seats legal may aside are = record {
  are = λ v x at.
      let seat = are.are v x at in record {
        are_pushed = seat.are_pushed ∙ sym (first_stay guest v w k page (pushes v past) past (opens_facts guest past w k page may.kept).number (pushed_opened guest past v legal));
        is_reset = seat.is_reset;
        knows = seat.knows;
      };
}
seats_stay guest past (Pushed w k) seats legal may aside are = absurd aside
seats_stay guest past (Deposited w from to) seats legal may aside are = absurd aside
seats_stay guest past (Reset w k) seats legal may aside are = absurd aside
seats_stay guest past e seats legal may aside are = record {
  are = λ v x at. let seat = are.are v x at in record { are_pushed = seat.are_pushed; is_reset = seat.is_reset; knows = seat.knows };
}

set_at : {S : Type 0} (xs : List S) (v w : ℕ) (t x : S) → slice_get (set xs v t) w ≡ Some x → ((w ≡ v) × (x ≡ t)) ⊎ ((w ≢ v) × (slice_get xs w ≡ Some x))
set_at [] v w t x h = absurd cc
set_at (y ∷ ys) zero zero t x h = inl (refl, cc)
set_at (y ∷ ys) zero (suc w) t x h = inr (λ e. absurd (omega (arith, e)), h)
set_at (y ∷ ys) (suc v) zero t x h = inr (λ e. absurd (omega (arith, e)), h)
set_at (y ∷ ys) (suc v) (suc w) t x h =
    elim (set_at ys v w t x h) [
      | inl p ↦ inl (ap suc p.0, p.1)
      | inr p ↦ inr (λ e. p.0 (omega (arith, e)), p.1)
    ]

-- one seat moves, and the others are those of the new events too
seats_move : (guest : Guest) (past after : List Event) (v : ℕ) (old new : List KernelView) (Moves : KernelView → KernelView → Type 0)
    → AreSeats guest past old → MovesAt old new v Moves
    → ((s t : KernelView) → IsSeatOf guest v past s → Moves s t → IsSeatOf guest v after t)
    → ((w : ℕ) (s : KernelView) → w ≢ v → IsSeatOf guest w past s → IsSeatOf guest w after s)
    → AreSeats guest after new
seats_move guest past after v old new Moves are moves own others = record {
  are = λ w x at.
      elim (set_at old v w moves.1 x (ap (λ (xs : List KernelView). slice_get xs w) (sym moves.3) ∙ at)) [
        | inl p ↦ subst (λ (u : ℕ). IsSeatOf guest u after x) (sym p.0) (subst (λ (y : KernelView). IsSeatOf guest v after y) (sym p.1) (own moves.0 moves.1 (are.are v moves.0 moves.2) moves.4))
        | inr p ↦ others w x p.0 (are.are w x p.1)
      ];
}

same : (n : ℕ) → (n == n) ≡ true
same n = eq-eqb n n refl

other : (w v : ℕ) → w ≢ v → (v == w) ≡ false
other w v ne = ne_eqb v w (λ e. ne (sym e))

-- the vCPU's next entry stands after those that were pushed
next_entry : (guest : Guest) (past : List Event) (v k : ℕ) (e : Entry) → k ≡ pushes v past → entry guest v k past ≡ Some e
    → first_entries guest v (pushes v past) past ++ some e ∷ [] ≡ first_entries guest v (pushes v past + 1) past
next_entry guest past v k e number is =
    let n : ℕ = pushes v past in
    let last : entry guest v n past ≡ Some e = ap (λ (j : ℕ). entry guest v j past) (sym number) ∙ is in
    ap (λ (o : Option Entry). first_entries guest v n past ++ o ∷ []) (sym last)
    ∙ sym (map-append (λ (j : ℕ). entry guest v j past) (below n) (n ∷ []))
    ∙ ap (λ (m : ℕ). first_entries guest v m past) (sym (add-one n))

own_push : (guest : Guest) (past : List Event) (v k : ℕ) (e : Entry) (s t : KernelView) → k ≡ pushes v past → entry guest v k past ≡ Some e → IsSeatOf guest v past s → t ≡ record s { pushed = s.pushed ++ e ∷ [] } → IsSeatOf guest v (Pushed v k ∷ past) t
unfolding entry page_of_entry
own_push guest past v k e s t number is seat becomes = record {
  are_pushed =
      ap (λ (z : KernelView). map some z.pushed) becomes ∙ map-append some s.pushed (e ∷ [])
      ∙ ap (λ (xs : List (Option Entry)). xs ++ some e ∷ []) seat.are_pushed ∙ next_entry guest past v k e number is
      ∙ ap (λ b. first_entries guest v (cond b (pushes v past + 1) (pushes v past)) past) (sym (same v));
  is_reset = ap (λ (z : KernelView). z.reset) becomes ∙ seat.is_reset;
  knows = λ j h. subst (λ (n : ℕ). j < n) (sym (ap (λ (z : KernelView). z.known) becomes)) (seat.knows j h);
}

other_push : (guest : Guest) (past : List Event) (v k w : ℕ) (s : KernelView) → w ≢ v → IsSeatOf guest w past s → IsSeatOf guest w (Pushed v k ∷ past) s
unfolding entry page_of_entry
other_push guest past v k w s ne seat = record {
  are_pushed = seat.are_pushed ∙ ap (λ b. first_entries guest w (cond b (pushes w past + 1) (pushes w past)) past) (sym (other w v ne));
  is_reset = seat.is_reset;
  knows = seat.knows;
}

-- a seat that pushes its vCPU's next entry goes with the Pushed
pub seats_push : (guest : Guest) (past : List Event) (v k : ℕ) (e : Entry) (old new : List KernelView) → k ≡ pushes v past → entry guest v k past ≡ Some e → AreSeats guest past old → MovesAt old new v (λ s t. t ≡ record s { pushed = s.pushed ++ e ∷ [] }) → AreSeats guest (Pushed v k ∷ past) new
seats_push guest past v k e old new number is are moves =
    seats_move guest past (Pushed v k ∷ past) v old new (λ s t. t ≡ record s { pushed = s.pushed ++ e ∷ [] }) are moves
    (λ s t. own_push guest past v k e s t number is) (other_push guest past v k)

grown : (known reset : ℕ) → known ≤ max known (reset + 1)
grown known reset = omega arith

own_reset : (guest : Guest) (past : List Event) (v k size : ℕ) (e : Entry) (s t : KernelView) → IsSeatOf guest v past s → t ≡ kernel_reset size s e → IsSeatOf guest v (Reset v k ∷ past) t
unfolding entry page_of_entry
own_reset guest past v k size e s t seat becomes = record {
  are_pushed = ap (λ (z : KernelView). map some z.pushed) becomes ∙ seat.are_pushed;
  is_reset = ap (λ (z : KernelView). z.reset) becomes ∙ ap (λ (n : ℕ). n + 1) seat.is_reset ∙ ap (λ b. cond b (resets v past + 1) (resets v past)) (sym (same v));
  knows = λ j h. subst (λ (n : ℕ). j < n) (sym (ap (λ (z : KernelView). z.known) becomes)) (let own = seat.knows j h in omega (arith, own, grown s.known s.reset));
}

other_reset : (guest : Guest) (past : List Event) (v k w : ℕ) (s : KernelView) → w ≢ v → IsSeatOf guest w past s → IsSeatOf guest w (Reset v k ∷ past) s
unfolding entry page_of_entry
other_reset guest past v k w s ne seat = record {
  are_pushed = seat.are_pushed;
  is_reset = seat.is_reset ∙ ap (λ b. cond b (resets w past + 1) (resets w past)) (sym (other w v ne));
  knows = seat.knows;
}

-- a seat that resets goes with the Reset
pub seats_reset : (guest : Guest) (past : List Event) (v k size : ℕ) (e : Entry) (old new : List KernelView) → AreSeats guest past old → MovesAt old new v (λ s t. t ≡ kernel_reset size s e) → AreSeats guest (Reset v k ∷ past) new
seats_reset guest past v k size e old new are moves =
    seats_move guest past (Reset v k ∷ past) v old new (λ s t. t ≡ kernel_reset size s e) are moves
    (own_reset guest past v k size e) (other_reset guest past v k)

range_case : (mine inside : Bool) (k to n : ℕ) → ((mine && inside) || false) ≡ true → (inside ≡ true → k < to) → k < max n to
range_case true true k to n h lt = let less = lt refl in omega (arith, less)
range_case true false k to n h lt = absurd (false≢true h)
range_case false inside k to n h lt = absurd (false≢true h)

in_range : (mine : Bool) (k from to n : ℕ) (rest : Bool) → ((mine && nat_le from k && nat_lt k to) || rest) ≡ true → (rest ≡ true → k < n) → k < max n to
in_range mine k from to n true h old = let lt = old refl in omega (arith, lt)
in_range mine k from to n false h old = range_case (mine && nat_le from k) (nat_lt k to) k to n h (λ lt. ltb-true k to lt)

own_deposit : (guest : Guest) (past : List Event) (v from to : ℕ) (entries : List Entry) (s t : KernelView) → to ≤ length entries → IsSeatOf guest v past s → t ≡ kernel_learnt s entries → IsSeatOf guest v (Deposited v from to ∷ past) t
unfolding entry page_of_entry
own_deposit guest past v from to entries s t le seat becomes = record {
  are_pushed = ap (λ (z : KernelView). map some z.pushed) becomes ∙ seat.are_pushed;
  is_reset = ap (λ (z : KernelView). z.reset) becomes ∙ seat.is_reset;
  knows = λ j h. subst (λ (n : ℕ). j < n) (sym (ap (λ (z : KernelView). z.known) becomes))
      (let lt = in_range (v == v) j from to s.known (deposited v j past) h (seat.knows j) in omega (arith, lt, le));
}

other_deposit : (guest : Guest) (past : List Event) (v from to w : ℕ) (s : KernelView) → w ≢ v → IsSeatOf guest w past s → IsSeatOf guest w (Deposited v from to ∷ past) s
unfolding entry page_of_entry
other_deposit guest past v from to w s ne seat = record {
  are_pushed = seat.are_pushed;
  is_reset = seat.is_reset;
  knows = λ j h. seat.knows j (ap (λ b. (b && nat_le from j && nat_lt j to) || deposited w j past) (sym (other w v ne)) ∙ h);
}

-- a seat that learns what was harvested, the entries deposited among it, goes with the Deposited
pub seats_deposit : (guest : Guest) (past : List Event) (v from to : ℕ) (entries : List Entry) (old new : List KernelView) → to ≤ length entries → AreSeats guest past old → MovesAt old new v (λ s t. t ≡ kernel_learnt s entries) → AreSeats guest (Deposited v from to ∷ past) new
seats_deposit guest past v from to entries old new le are moves =
    seats_move guest past (Deposited v from to ∷ past) v old new (λ s t. t ≡ kernel_learnt s entries) are moves
    (λ s t. own_deposit guest past v from to entries s t le) (other_deposit guest past v from to)

-- where the vCPU's next entry to be reset was deposited, its seat knows of more harvests than resets
pub seat_knows : (guest : Guest) (past : List Event) (v : ℕ) (seat : KernelView) → IsSeatOf guest v past seat → deposited v (resets v past) past ≡ true → seat.reset < seat.known
seat_knows guest past v seat is next = let lt = is.knows (resets v past) next in let reset = is.is_reset in omega (arith, lt, reset)

-- a seat that neither pushes nor resets, and forgets nothing, needs no event
pub seats_know : (guest : Guest) (past : List Event) (v : ℕ) (old new : List KernelView) → AreSeats guest past old → MovesAt old new v (λ s t. (t.pushed ≡ s.pushed) × (t.reset ≡ s.reset) × (s.known ≤ t.known)) → AreSeats guest past new
seats_know guest past v old new are moves =
    seats_move guest past past v old new (λ s t. (t.pushed ≡ s.pushed) × (t.reset ≡ s.reset) × (s.known ≤ t.known)) are moves
    (λ s t seat stays. record { are_pushed = ap (map some) stays.0 ∙ seat.are_pushed; is_reset = stays.1 ∙ seat.is_reset; knows = λ j h. (let lt = seat.knows j h in let more = stays.2 in omega (arith, lt, more)) })
    (λ w s ne seat. seat)

length_below : (n : ℕ) → length (below n) ≡ n
length_below zero = refl
length_below (suc n) = length-append (below n) (n ∷ []) ∙ omega (arith, length_below n)

-- a seat has pushed as many entries as there are Pushed events of its vCPU
pub seat_counts : (guest : Guest) (past : List Event) (v : ℕ) (seat : KernelView) → IsSeatOf guest v past seat → length seat.pushed ≡ pushes v past
seat_counts guest past v seat is =
    sym (length-map seat.pushed some) ∙ ap length is.are_pushed ∙ length-map (below (pushes v past)) (λ (k : ℕ). entry guest v k past) ∙ length_below (pushes v past)

room_case : (length_is reset p r size : ℕ) → length_is ≡ p → reset ≡ r → r ≤ p → p - r < size → length_is < reset + size
room_case length_is reset p r size a b le lt = omega arith

-- a seat has room for another entry where its vCPU's ring has
pub seat_has_room : (guest : Guest) (past : List Event) (v size : ℕ) (seat : KernelView) → IsSeatOf guest v past seat → IsLegalSoFar guest past → used v past < size → length seat.pushed < seat.reset + size
seat_has_room guest past v size seat is legal lt =
    room_case (length seat.pushed) seat.reset (pushes v past) (resets v past) size (seat_counts guest past v seat is) is.is_reset (reset_pushed guest past v legal) lt

front_at : {X : Type 0} (xs ys : List X) (k : ℕ) → k < length xs → slice_get (xs ++ ys) k ≡ slice_get xs k
front_at [] ys k lt = absurd (omega arith)
front_at (x ∷ xs) ys zero lt = refl
front_at (x ∷ xs) ys (suc k) lt = front_at xs ys k (omega arith)

last_at : {X : Type 0} (xs : List X) (y : X) → slice_get (xs ++ y ∷ []) (length xs) ≡ Some y
last_at [] y = refl
last_at (x ∷ xs) y = last_at xs y

below_at : (n k : ℕ) → k < n → slice_get (below n) k ≡ Some k
below_at zero k lt = absurd (omega arith)
below_at (suc n) k lt =
    let count : length (below n) ≡ n = length_below n in
    elim (cases_lt k n) [
      | inl l ↦ front_at (below n) (n ∷ []) k (omega arith) ∙ below_at n k l
      | inr g ↦
          let here : k ≡ n = omega arith in
          ap (λ (j : ℕ). slice_get (below n ++ n ∷ []) j) (here ∙ sym count) ∙ last_at (below n) n ∙ ap (λ (j : ℕ). Some j) (sym here)
    ]

-- what a seat has pushed at a number is its vCPU's entry of that number
pub seat_at : (guest : Guest) (past : List Event) (v k : ℕ) (seat : KernelView) → IsSeatOf guest v past seat → k < pushes v past → slice_get seat.pushed k ≡ entry guest v k past
seat_at guest past v k seat is lt =
    inner (slice_get seat.pushed k) (entry guest v k past)
    (sym (slice_get-map some seat.pushed k) ∙ ap (λ (xs : List (Option Entry)). slice_get xs k) is.are_pushed
    ∙ slice_get-map (λ (j : ℕ). entry guest v j past) (below (pushes v past)) k ∙ ap (option_map (λ (j : ℕ). entry guest v j past)) (below_at (pushes v past) k lt)) where
      inner : (o p : Option Entry) → option_map some o ≡ Some p → o ≡ p
      inner None p h = absurd cc
      inner (Some e) p h = cc

-- an entry that a seat has pushed is its vCPU's of that number
pub seat_entry : (guest : Guest) (past : List Event) (v k : ℕ) (e : Entry) (seat : KernelView) → IsSeatOf guest v past seat → slice_get seat.pushed k ≡ Some e → entry guest v k past ≡ Some e
seat_entry guest past v k e seat is at =
    let within : k < length seat.pushed = slice_get_within seat.pushed k e at in
    let count : length seat.pushed ≡ pushes v past = seat_counts guest past v seat is in
    sym (seat_at guest past v k seat is (omega arith)) ∙ at
