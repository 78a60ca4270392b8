-- What a buffer that is pushed leaves.
use Rattle.std.proofs.Common.{ℕ, zero, suc, max, Bool, true, false, cond, List, ◌∷◌}
use Rattle.std.specs.Prelude.{nat_le}
use Rattle.dr_types.specs.declared.guest.Guest.{Guest}
use Rattle.dr_history.specs.declared.event.Event.{Event}
use Rattle.dr_history.specs.declared.event.Event.TheVariants.{Pushed}
use Rattle.dr_history.specs.Entries.{pushes}
use Rattle.dr_history_law.specs.Room.{unpushed}
use Rattle.dr_turns.specs.Buffers.{pushed_after, all_pushed, pushed_where_full}

-- what no Pushed ends holds after any number of them
pub by_pushed : (P : List Event → Type 0) (v n : ℕ) (past : List Event) → ((k : ℕ) (xs : List Event) → P xs → P (Pushed v k ∷ xs)) → P past → P (pushed_after v n past)
by_pushed P v zero past stays h = h
by_pushed P v (suc n) past stays h = stays (pushes v (pushed_after v n past)) (pushed_after v n past) (by_pushed P v n past stays h)

full_case : (P : List Event → Type 0) (full : Bool) (a b : List Event) → P a → P b → P (cond full a b)
full_case P true a b x y = x
full_case P false a b x y = y

-- and after a buffer that is pushed where it is full
pub by_full : (P : List Event → Type 0) (guest : Guest) (v : ℕ) (past : List Event) → ((k : ℕ) (xs : List Event) → P xs → P (Pushed v k ∷ xs)) → P past → P (pushed_where_full guest v past)
by_full P guest v past stays h =
    full_case P (nat_le (max 1 guest.settings.buffer) (unpushed v past)) (all_pushed v past) past (by_pushed P v (unpushed v past) past stays h) h
