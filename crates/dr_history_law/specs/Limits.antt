-- How great a rate and how long a throttle is.
use Rattle.std.specs.Prelude.{◌≤◌, ℕ, List}
use Rattle.dr_types.specs.declared.guest.Guest.{Guest}
use Rattle.dr_types.specs.declared.rates.Throttle.{Throttle}
use Rattle.dr_history.specs.declared.event.Event.{Event}
use Rattle.dr_history.specs.Lookback.{count, since}
use Rattle.dr_history.specs.Kinds.{is_pushed_of}
use Rattle.dr_history.specs.Throttles.{begins_span, current_rate}
use Rattle.dr_types.specs.Scripts.{op_count}

-- the ring and the scripts are within the limits
pub record FitsLimits (guest : Guest) : Type 0 where
  pub ring : guest.settings.ring ≤ 65536
  pub scripts : op_count guest.scripts ≤ 200000

-- what a rate is taken of, and the rate
pub record FitsRate (v at : ℕ) (past : List Event) : Type 0 where
  pub entries : count (is_pushed_of v) (since begins_span past) ≤ 200000
  pub rate : current_rate v at past ≤ 800000000000

pub record FitsThrottle (throttle : Throttle) : Type 0 where
  pub us : throttle.us ≤ 25952256000000
  pub peak : throttle.peak ≤ 800000000000
