-- How many events of each kind there are.
use Rattle.std.specs.Prelude.{ℕ, Bool, true, false, ◌+◌, ◌*◌, ◌==◌, ◌||◌, if◌then◌else◌, List, []}
use Rattle.std.specs.Prelude.{◌∷◌}
use Rattle.dr_history.specs.declared.event.Event.{Event}
use Rattle.dr_history.specs.declared.event.Event.TheVariants.{Deposited, Reset, Throttled}
use Rattle.dr_history.specs.Lookback.{count}
use Rattle.dr_history.specs.Kinds.{is_exited_of, is_start, is_flushed, is_synced, is_copied}
use Rattle.dr_history.specs.Kinds.{is_stopped, is_switched}
use Rattle.dr_history.specs.Entries.{pushes, resets}
use Rattle.dr_history.specs.Execution.{ops}
use Rattle.dr_history.specs.Rounds.{asks}

-- 1 where a test holds, and else 0
abbrev pub flag : Bool → ℕ
flag test = if test then 1 else 0

-- a range of the vCPU's entries is deposited
abbrev pub is_deposited_of : ℕ → Event → Bool
is_deposited_of v (Deposited w from to) = w == v
is_deposited_of v e = false

-- the vCPU is throttled
abbrev pub is_throttled_of : ℕ → Event → Bool
is_throttled_of v (Throttled w us) = w == v
is_throttled_of v e = false

-- an entry of any vCPU is reset
abbrev pub is_reset : Event → Bool
is_reset (Reset v k) = true
is_reset e = false

-- how often the vCPU left the guest
abbrev pub exits : ℕ → List Event → ℕ
exits v past = count (is_exited_of v) past

-- how many ranges of its entries were deposited
abbrev pub deposits : ℕ → List Event → ℕ
deposits v past = count (is_deposited_of v) past

-- how often it was throttled
abbrev pub throttles : ℕ → List Event → ℕ
throttles v past = count (is_throttled_of v) past

-- how many rounds were answered
abbrev pub answers : List Event → ℕ
answers past = count is_synced past

-- the vCPU's events, where an operation stands also for the Opened or the Filled that may come
-- directly before it, and a Reset also for the Flushed that may come after it
abbrev pub vcpu_events : ℕ → List Event → ℕ
vcpu_events v past =
    2 * ops v past + pushes v past + exits v past + deposits v past + 2 * resets v past
    + throttles v past

-- the migrator's events but for the throttles
abbrev pub migrator_events : List Event → ℕ
migrator_events past =
    asks past + answers past + count is_copied past
    + count is_start past + count is_stopped past + count is_switched past

-- a Reset came after the last Flushed
abbrev pub unflushed : List Event → Bool
unflushed [] = false
unflushed (e ∷ earlier) = if is_flushed e then false else is_reset e || unflushed earlier
