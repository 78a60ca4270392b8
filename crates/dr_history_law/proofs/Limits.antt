-- How great a rate and how long a throttle is.
use Rattle.std.proofs.Common.{◌≡◌, ℕ, ◌+◌, ◌-◌, ◌*◌, ◌/◌, ◌≤◌, max, min, Bool, true, false, cond, List, [], ◌∷◌, refl, arith, zero, suc, length, slice_get}
use Rattle.std.specs.Prelude.{◌==◌}
use Rattle.std.proofs.lemmas.Bool.{true≢false}
use Rattle.std.proofs.Math.Nat.{div-le_self}
use Rattle.dr_types.specs.declared.guest.Guest.{Guest}
use Rattle.dr_types.specs.declared.rates.Throttle.{Throttle}
use Rattle.dr_types.specs.Rates.{rate, next_throttle, toward_quota, fill_time, adjusted, stride, distance}
use Rattle.dr_history.specs.declared.event.Event.{Event}
use Rattle.dr_history.specs.declared.event.Event.TheVariants.{Read, Write, Paint, Local, Halted, Synced}
use Rattle.dr_history.specs.Lookback.{count, since}
use Rattle.dr_history.specs.Kinds.{is_pushed_of}
use Rattle.dr_history.specs.Entries.{opens, pushes}
use Rattle.dr_history.specs.Execution.{ops}
use Rattle.dr_history.specs.Throttles.{throttle, begins_span, current_rate, last_time}
use Rattle.dr_history.specs.Legality.{IsLegalSoFar}
use Rattle.dr_history_law.specs.Order.{writes, last_opens_for}
use Rattle.dr_history_law.specs.Length.{script_length}
use Rattle.dr_history_law.specs.Limits.{FitsLimits, FitsRate, FitsThrottle}
use Rattle.dr_history_law.proofs.Outstanding.{more, pushed_opened}
use Rattle.dr_history_law.proofs.Order.{opened_in_order, unowed}
use Rattle.dr_history_law.proofs.Length.{stays_in_script}
use Rattle.dr_types.specs.declared.guest.Item.{Item}
use Rattle.dr_types.specs.Scripts.{op_count, script_of}

-- each write is an operation
both_more : (same : Bool) (a b : ℕ) → a ≤ b → cond same (a + 1) a ≤ cond same (b + 1) b
both_more true a b h = omega arith
both_more false a b h = h

writes_ops : (past : List Event) (v : ℕ) → writes v past ≤ ops v past
writes_ops [] v = omega arith
writes_ops (Read w i space address value ∷ past) v = more (w == v) (writes v past) (ops v past) (writes_ops past v)
writes_ops (Write w i space address len value ∷ past) v = both_more (w == v) (writes v past) (ops v past) (writes_ops past v)
writes_ops (Paint w i page byte ∷ past) v = both_more (w == v) (writes v past) (ops v past) (writes_ops past v)
writes_ops (Local w i ∷ past) v = more (w == v) (writes v past) (ops v past) (writes_ops past v)
writes_ops (Halted w i ∷ past) v = more (w == v) (writes v past) (ops v past) (writes_ops past v)
writes_ops (e ∷ past) v = writes_ops past v

-- since a place fewer are pushed
cut_fewer : (cut : Bool) (f : Event → Bool) (e : Event) (xs ys : List Event) → count f xs ≤ count f ys → count f (cond cut [] (e ∷ xs)) ≤ cond (f e) (count f ys + 1) (count f ys)
cut_fewer true f e xs ys h = omega arith
cut_fewer false f e xs ys h = both_more (f e) (count f xs) (count f ys) h

since_fewer : (f : Event → Bool) (past : List Event) → count f (since begins_span past) ≤ count f past
since_fewer f [] = omega arith
since_fewer f (e ∷ past) = cut_fewer (begins_span e) f e (since begins_span past) past (since_fewer f past)

rate_bound : (entries us : ℕ) → entries ≤ 200000 → rate entries us ≤ 800000000000
rate_bound entries us h =
    let d : entries * 4 * 1000000 / max 1 us ≤ entries * 4 * 1000000 = div-le_self (entries * 4 * 1000000) (max 1 us) in
    omega arith

-- one script is no longer than all of them
pub script_in_total : (scripts : List (List Item)) (v : ℕ) → length (script_of (slice_get scripts v)) ≤ op_count scripts
script_in_total [] v = omega arith
script_in_total (script ∷ scripts) zero = omega arith
script_in_total (script ∷ scripts) (suc v) = let rest : length (script_of (slice_get scripts v)) ≤ op_count scripts = script_in_total scripts v in omega arith

entries_case : (last : Bool) (e p o w n l t : ℕ) → last ≡ false → e ≤ p → p ≤ o → o ≤ w + cond last 1 0 → w ≤ n → n ≤ l → l ≤ t → t ≤ 200000 → e ≤ 200000
entries_case true e p o w n l t z a b c d f g h = absurd (true≢false z)
entries_case false e p o w n l t z a b c d f g h = omega arith

pub fits_rate : (guest : Guest) (past : List Event) (r at v : ℕ) (pages : List ℕ) → FitsLimits guest → IsLegalSoFar guest (Synced r at pages ∷ past) → FitsRate v at past
fits_rate guest past r at v pages fits legal =
    let few : count (is_pushed_of v) (since begins_span past) ≤ 200000 =
    entries_case (last_opens_for v past) (count (is_pushed_of v) (since begins_span past)) (pushes v past) (opens v past) (writes v past) (ops v past) (script_length guest v) (op_count guest.scripts)
    (unowed guest past v (Synced r at pages) legal.0 refl) (since_fewer (is_pushed_of v) past) (pushed_opened guest past v legal.1) (opened_in_order guest past v legal.1) (writes_ops past v) (stays_in_script guest past v legal.1) (script_in_total guest.scripts v) fits.scripts in
    record { entries = few; rate = rate_bound (count (is_pushed_of v) (since begins_span past)) (at - last_time past) few }

-- either throttle fits
fits_either : (b : Bool) (x y : Throttle) → FitsThrottle x → FitsThrottle y → FitsThrottle (cond b x y)
fits_either true x y f g = f
fits_either false x y f g = g

us_bound : (us ring peak : ℕ) → ring ≤ 65536 → min us (99 * (ring * 4000000 / peak)) ≤ 25952256000000
us_bound us ring peak h =
    let d : ring * 4000000 / peak ≤ ring * 4000000 = div-le_self (ring * 4000000) peak in
    omega arith

peak_bound : (peak current : ℕ) → peak ≤ 800000000000 → current ≤ 800000000000 → max peak current ≤ 800000000000
peak_bound peak current h k = omega arith

fits_next : (t : Throttle) (quota current ring : ℕ) → ring ≤ 65536 → current ≤ 800000000000 → FitsThrottle t → FitsThrottle (next_throttle t quota current ring)
fits_next t quota current ring h k f =
    fits_either _ t _ f
    (fits_either _ (record { us = 0; peak = t.peak }) (toward_quota t quota current ring) (record { us = omega arith; peak = f.peak })
    (record {
      us = us_bound (adjusted quota current (stride (fill_time ring (max t.peak current)) (distance quota current)) t.us) ring (max t.peak current) h;
      peak = peak_bound t.peak current f.peak k;
    }))

pub fits_throttle : (guest : Guest) (past : List Event) (v : ℕ) → FitsLimits guest → IsLegalSoFar guest past → FitsThrottle (throttle guest v past)
fits_throttle guest [] v fits legal = record { us = omega arith; peak = omega arith }
fits_throttle guest (Synced r at pages ∷ past) v fits legal =
    fits_next (throttle guest v past) guest.settings.quota (current_rate v at past) guest.settings.ring fits.ring (fits_rate guest past r at v pages fits legal).rate (fits_throttle guest past v fits legal.1)
fits_throttle guest (e ∷ past) v fits legal = fits_throttle guest past v fits legal.1
