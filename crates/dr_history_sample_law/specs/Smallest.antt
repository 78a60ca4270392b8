-- The smallest run: one vCPU that halts at once, one page that is copied once; its texts and its
-- stream.
use Rattle.std.specs.Prelude.{◌≡◌, ℕ, List, [], ◌∷◌, codes, length}
use Rattle.dr_types.specs.declared.guest.Guest.{Guest}
use Rattle.dr_types.specs.declared.guest.Op.TheVariants.{Halt}
use Rattle.dr_types.specs.declared.guest.Item.TheVariants.{One}
use Rattle.dr_types.specs.declared.guest.Why.TheVariants as reason
use Rattle.dr_types.specs.GuestText.{guest_text}
use Rattle.dr_history.specs.declared.event.Event.{Event}
use Rattle.dr_history.specs.declared.event.Event.TheVariants.{Start, Halted, Exited, Asked, Synced}
use Rattle.dr_history.specs.declared.event.Event.TheVariants.{Copied, Stopped, Switched}
use Rattle.dr_history.specs.Lines.{text}
use Rattle.dr_history.specs.Report.{report_of}
use Rattle.dr_history.specs.Stream.{stream_of}
use Rattle.dr_history_sample_law.specs.Sample.{held_guest, held}

unfoldable pub halting_guest : Guest
halting_guest = record {
  version = 1;
  settings =
      record { ring = 8; reserve = 2; buffer = 0; pace = 16; threshold = 0; rounds = 2; quota = 0 };
  slots = record { space = 0; id = 0; base = 0; pages = 1 } ∷ [];
  scripts = (One Halt ∷ []) ∷ [];
}

-- the newest event first; each time is the same
unfoldable pub halting_run : ℕ → List Event
halting_run at =
    Switched ∷ Synced 3 at [] ∷ Asked 3 ∷ Stopped ∷ Synced 2 at [] ∷ Asked 2 ∷ Copied 1 0
    ∷ Synced 1 at (0 ∷ []) ∷ Asked 1
    ∷ Start at ∷ Exited 0 reason.Halted ∷ Halted 0 0 ∷ []

-- the text of the guest
abbrev pub GuestSays : Type 0
GuestSays =
    guest_text halting_guest
    ≡ codes "dirtyguest 1\nring 8\nreserve 2\nbuffer 0\npace 16\nthreshold 0\nrounds 2\nquota 0\nslot 0 0 1\nvcpu\nhalt\n"

-- the text of the run
abbrev pub RunSays : Type 0
RunSays =
    text (halting_run 0)
    ≡ codes "h 0 0\nx 0 halted\nstart 0\nask 1\nsync 1 0 1 0\ncopy 1 0\nask 2\nsync 2 0 0\nstop\nask 3\nsync 3 0 0\nswitched\n"

-- its report
abbrev pub ReportSays : Type 0
ReportSays =
    report_of halting_guest (halting_run 0)
    ≡ codes "guest pages 1 vcpus 1 ring 8 soft 6\nround 1 dirty 1 copied 1 at 0\n  vcpu 0 entries 0 rate 0 throttle 0\nround 2 dirty 0 copied 0 at 0\n  vcpu 0 entries 0 rate 0 throttle 0\nround 3 dirty 0 copied 0 at 0\n  vcpu 0 entries 0 rate 0 throttle 0\nvcpu 0 ops 1 full 0 kicked 0\nswitched\n"

-- a header of 16 bytes, two rounds and an end of 8 each, and a page of zeros of 12
abbrev pub StreamIsLong : Type 0
StreamIsLong = length (stream_of halting_guest (halting_run 0)) ≡ 52

-- the report of the run with throttles
abbrev pub HeldReportSays : Type 0
HeldReportSays =
    report_of held_guest held
    ≡ codes "guest pages 2 vcpus 1 ring 8 soft 4\nround 1 dirty 2 copied 2 at 0\n  vcpu 0 entries 0 rate 0 throttle 0\nround 2 dirty 1 copied 1 at 0\n  vcpu 0 entries 1 rate 4000000 throttle 258\nround 3 dirty 1 copied 1 at 0\n  vcpu 0 entries 1 rate 4000000 throttle 516\nround 4 dirty 0 copied 0 at 0\n  vcpu 0 entries 0 rate 0 throttle 0\nround 5 dirty 0 copied 0 at 0\n  vcpu 0 entries 0 rate 0 throttle 0\nvcpu 0 ops 4 full 0 kicked 3\nswitched\n"
