-- A guest of one page and one vCPU, and what it may do.
use Rattle.std.specs.Prelude.{List, [], ◌∷◌}
use Rattle.dr_types.specs.declared.guest.Guest.{Guest}
use Rattle.dr_types.specs.declared.guest.Op.TheVariants as op
use Rattle.dr_types.specs.declared.guest.Item.TheVariants.{One}
use Rattle.dr_types.specs.declared.guest.Why.TheVariants as reason
use Rattle.dr_history.specs.declared.event.Event.{Event}
use Rattle.dr_history.specs.declared.event.Event.TheVariants.{Start, Write, Local, Halted, Opened}
use Rattle.dr_history.specs.declared.event.Event.TheVariants.{Pushed, Exited, Deposited, Reset}
use Rattle.dr_history.specs.declared.event.Event.TheVariants.{Flushed, Asked, Synced, Copied}
use Rattle.dr_history.specs.declared.event.Event.TheVariants.{Throttled, Stopped, Switched}

-- two writes into the one page
unfoldable pub small_guest : Guest
small_guest = record {
  version = 1;
  settings =
      record { ring = 8; reserve = 2; buffer = 0; pace = 1; threshold = 0; rounds = 3; quota = 0 };
  slots = record { space = 0; id = 0; base = 0; pages = 1 } ∷ [];
  scripts = (One (op.A 0) ∷ One (op.W 0 0 1 1) ∷ One (op.W 0 0 1 2) ∷ One op.Halt ∷ []) ∷ [];
}

-- the first write is logged
unfoldable pub logged : List Event
logged =
    Pushed 0 0 ∷ Write 0 1 0 0 1 1 ∷ Opened 0 0 0 ∷ Synced 1 0 (0 ∷ []) ∷ Exited 0 reason.Kicked
    ∷ Asked 1 ∷ Start 0 ∷ Local 0 0 ∷ []

-- the page is reset and copied, and then written again by a permission that is still cached
unfoldable pub stale : List Event
stale = Write 0 2 0 0 1 2 ∷ Copied 1 0 ∷ Reset 0 0 ∷ Deposited 0 0 1 ∷ logged

-- the flush makes it dirty again, and it is copied once more before the switch-over
unfoldable pub switched : List Event
switched =
    Switched ∷ Synced 4 0 [] ∷ Asked 4 ∷ Stopped ∷ Synced 3 0 [] ∷ Asked 3 ∷ Copied 2 0
    ∷ Synced 2 0 (0 ∷ []) ∷ Asked 2
    ∷ Exited 0 reason.Halted ∷ Halted 0 3 ∷ Flushed ∷ stale

-- an entry is reset before it is deposited
unfoldable pub reset_early : List Event
reset_early = Deposited 0 0 1 ∷ Reset 0 0 ∷ logged

-- the round is answered without the flush
unfoldable pub unflushed : List Event
unflushed = Synced 2 0 (0 ∷ []) ∷ Asked 2 ∷ Exited 0 reason.Halted ∷ Halted 0 3 ∷ stale

-- the history ends where a write is owed
unfoldable pub owing : List Event
owing = Opened 0 0 0 ∷ Start 0 ∷ Local 0 0 ∷ []

-- two pages, each written once, with a quota
unfoldable pub held_guest : Guest
held_guest = record {
  version = 1;
  settings =
      record {
        ring = 8;
        reserve = 2;
        buffer = 2;
        pace = 1;
        threshold = 0;
        rounds = 4;
        quota = 100000;
      };
  slots = record { space = 0; id = 0; base = 0; pages = 2 } ∷ [];
  scripts =
      (One (op.A 1) ∷ One (op.W 0 0 1 65) ∷ One (op.W 0 4096 2 17218) ∷ One op.Halt ∷ []) ∷ [];
}

-- four rounds before the stop, each with its throttle
unfoldable pub held : List Event
held =
    Switched ∷ Synced 5 0 [] ∷ Asked 5 ∷ Stopped ∷ Throttled 0 0 ∷ Synced 4 0 [] ∷ Asked 4
    ∷ Exited 0 reason.Halted ∷ Halted 0 3
    ∷ Copied 3 1 ∷ Throttled 0 516 ∷ Synced 3 0 (1 ∷ []) ∷ Flushed ∷ Reset 0 1 ∷ Deposited 0 1 2
    ∷ Exited 0 reason.Kicked ∷ Pushed 0 1 ∷ Asked 3 ∷ Write 0 2 0 4096 2 17218 ∷ Opened 0 1 1
    ∷ Copied 2 0 ∷ Throttled 0 258 ∷ Synced 2 0 (0 ∷ []) ∷ Flushed ∷ Reset 0 0 ∷ Deposited 0 0 1
    ∷ Exited 0 reason.Kicked ∷ Pushed 0 0 ∷ Asked 2 ∷ Write 0 1 0 0 1 65 ∷ Opened 0 0 0
    ∷ Copied 1 1 ∷ Copied 1 0 ∷ Throttled 0 0 ∷ Synced 1 0 (0 ∷ 1 ∷ []) ∷ Exited 0 reason.Kicked
    ∷ Asked 1 ∷ Start 0 ∷ Local 0 0 ∷ []
