-- The counts of the events so far can take the next, and are then the counts of those events.
use Rattle.std.proofs.Common.{◌≡◌, ℕ, ◌+◌, ◌<◌, ◌≤◌, ◌^◌, Bool, true, false, cond, List, [], ◌∷◌, length, reverse, take, get_or, refl, ap, sym, ◌∙◌, arith}
use Rattle.std.specs.Prelude.{Option}
use Rattle.std.proofs.lemmas.List.{reverse-append, length-reverse, length-take-le, take_more}
use Rattle.dr_history.specs.declared.event.Event.{Event}
use Rattle.dr_history.specs.declared.event.Event.TheVariants.{Deposited}
use Rattle.dr_history.specs.Lookback.{count}
use Rattle.dr_history.specs.Kinds.{is_flushed, is_synced, is_copied}
use Rattle.dr_core_speed.specs.declared.tally.Tally.{Tally}
use Rattle.dr_core_speed.specs.Tallies.{IsSmall, tally_of, counted, last_deposit, out_of_order, is_out_of_order, is_opened, is_filled, is_pushed, is_deposited, is_reset, is_read, is_write, is_throttled, is_sleep}

one_or_none : (b : Bool) (n m : ℕ) → n ≤ m → cond b (n + 1) n ≤ m + 1
one_or_none true n m h = omega arith
one_or_none false n m h = omega arith

count_few : (f : Event → Bool) (past : List Event) → count f past ≤ length past
count_few f [] = omega arith
count_few f (e ∷ past) = omega (arith, one_or_none (f e) (count f past) (length past) (count_few f past))

out_of_order_few : (past : List Event) → out_of_order past ≤ length past
out_of_order_few [] = omega arith
out_of_order_few (e ∷ past) =
    omega (arith, one_or_none (is_out_of_order (last_deposit past) e) (out_of_order past) (length past) (out_of_order_few past))

small : (past : List Event) → length past < 2 ^ 63 → IsSmall (tally_of past)
small past few = record {
  opened = omega (arith, count_few is_opened past);
  filled = omega (arith, count_few is_filled past);
  pushed = omega (arith, count_few is_pushed past);
  deposited = omega (arith, count_few is_deposited past);
  out_of_order = omega (arith, out_of_order_few past);
  reset = omega (arith, count_few is_reset past);
  flushed = omega (arith, count_few is_flushed past);
  copied = omega (arith, count_few is_copied past);
  read = omega (arith, count_few is_read past);
  write = omega (arith, count_few is_write past);
  synced = omega (arith, count_few is_synced past);
  throttled = omega (arith, count_few is_throttled past);
  sleep = omega (arith, count_few is_sleep past);
}

reverse_more : (xs : List Event) (i : ℕ) (d : Event) → i < length xs → reverse (take (i + 1) xs) ≡ get_or xs i d ∷ reverse (take i xs)
reverse_more xs i d h = ap reverse (take_more xs i d h) ∙ reverse-append (take i xs) (get_or xs i d ∷ [])

-- the counts so far can take the next event
pub takes_next : (events : List Event) (i : ℕ) (tally : Tally) → length (reverse events) < 2 ^ 63 → i < length events
    → tally ≡ tally_of (reverse (take i events)) → IsSmall tally
takes_next events i tally few less is =
    let all : length (reverse events) ≡ length events = length-reverse events in
    let first : length (reverse (take i events)) ≡ i = length-reverse (take i events) ∙ length-take-le i events (omega arith) in
    rw is (small (reverse (take i events)) (omega arith))

one_event : (e : Event) (past : List Event) → counted (last_deposit past) e (tally_of past) ≡ tally_of (e ∷ past)
one_event e past = refl

-- and are then the counts of those events
pub takes_on : (events : List Event) (i : ℕ) (e d : Event) (last : Option (ℕ × ℕ)) (tally new : Tally)
    → i < length events → e ≡ get_or events i d
    → tally ≡ tally_of (reverse (take i events)) → last ≡ last_deposit (reverse (take i events)) → new ≡ counted last e tally
    → new ≡ tally_of (reverse (take (i + 1) events))
takes_on events i e d last tally new less is same its_last taken =
    taken ∙ ap (λ x. counted x e tally) its_last ∙ ap (λ x. counted (last_deposit (reverse (take i events))) x tally) is
    ∙ ap (counted (last_deposit (reverse (take i events))) (get_or events i d)) same
    ∙ one_event (get_or events i d) (reverse (take i events))
    ∙ ap tally_of (sym (reverse_more events i d less))

last_of_one : (e : Event) (past : List Event) → last_deposit (e ∷ []) ≡ last_deposit (e ∷ past)
last_of_one (Deposited v from to) past = refl
last_of_one e past = refl

-- and the next event is the last one
pub last_is : (events : List Event) (i : ℕ) (e d : Event) (last : Option (ℕ × ℕ)) → i < length events → e ≡ get_or events i d
    → last ≡ last_deposit (e ∷ []) → last ≡ last_deposit (reverse (take (i + 1) events))
last_is events i e d last less is its_last =
    its_last ∙ ap (λ x. last_deposit (x ∷ [])) is ∙ last_of_one (get_or events i d) (reverse (take i events))
    ∙ ap last_deposit (sym (reverse_more events i d less))
