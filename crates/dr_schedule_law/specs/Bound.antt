-- How many events a legal history has at most.
use Rattle.std.specs.Prelude.{ℕ, ◌+◌, ◌*◌}
use Rattle.dr_types.specs.declared.guest.Guest.{Guest}
use Rattle.dr_types.specs.Pages.{page_count}
use Rattle.dr_types.specs.Scripts.{vcpu_count, op_count}

-- how many rounds are asked at most: those before the stop, and the one after it
abbrev pub most_rounds : Guest → ℕ
most_rounds guest = guest.settings.rounds + 1

-- An op comes with an Opened or a Filled, a Pushed, an Exited, a Deposited, a Reset and a Flushed
-- at most; a round with an Asked, a Synced, a Copied for each page and a Throttled for each vCPU.
-- The last four are the Start, the Stopped, the Switched, and an Opened or a Filled whose op is
-- still to come.
unfoldable pub most_events : Guest → ℕ
most_events guest =
    7 * op_count guest.scripts + (page_count guest + vcpu_count guest + 2) * most_rounds guest + 4
