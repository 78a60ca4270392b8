-- A vCPU's buffer: the entries that it has opened and not pushed yet.
use Rattle.std.specs.Prelude.{ℕ, zero, suc, max, nat_le, if◌then◌else◌, List, ◌∷◌}
use Rattle.dr_types.specs.declared.guest.Guest.{Guest}
use Rattle.dr_history.specs.declared.event.Event.{Event}
use Rattle.dr_history.specs.declared.event.Event.TheVariants.{Pushed}
use Rattle.dr_history.specs.Entries.{pushes}
use Rattle.dr_history_law.specs.Room.{unpushed}

-- after these events so many Pushed of the vCPU, each of its next entry
abbrev pub pushed_after : ℕ → ℕ → List Event → List Event
pushed_after v zero past = past
pushed_after v (suc n) past = Pushed v (pushes v (pushed_after v n past)) ∷ pushed_after v n past

-- its whole buffer is pushed, in order
abbrev pub all_pushed : ℕ → List Event → List Event
all_pushed v past = pushed_after v (unpushed v past) past

-- it is pushed where it is full
abbrev pub pushed_where_full : Guest → ℕ → List Event → List Event
pushed_where_full guest v past =
    if nat_le (max 1 guest.settings.buffer) (unpushed v past) then all_pushed v past else past
