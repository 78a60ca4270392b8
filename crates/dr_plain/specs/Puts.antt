-- What a command puts on its four ports.
use Rattle.std.specs.Prelude.{ℕ, List, [], ◌∷◌}
use Rattle.dr_types.specs.declared.guest.Guest.{Guest}
use Rattle.dr_types.specs.declared.port.Port.{Port}
use Rattle.dr_types.specs.declared.port.Port.TheVariants as port
use Rattle.dr_history.specs.declared.event.Event.{Event}
use Rattle.dr_history.specs.Memory.{image_of}
use Rattle.dr_history.specs.Journal.{journal_text}
use Rattle.dr_history.specs.Report.{report_of}
use Rattle.dr_history.specs.Stream.{stream_of}
use Rattle.dr_turns.specs.Due.{run_end}
use Rattle.dr_turns.specs.declared.answers.RunEnd.{RunEnd}
use Rattle.dr_turns.specs.declared.answers.RunEnd.TheVariants as end

-- the two texts of a run, in the order in which they are put
abbrev pub texts_of : Guest → List Event → List (Port × List ℕ)
texts_of guest past =
    (port.Report, report_of guest past) ∷ (port.Journal, journal_text guest past) ∷ []

-- what is put after the stream, by where the run stands: the image only where the guest has
-- switched over, and nothing where the run was cut off
abbrev pub puts_after : RunEnd → Guest → List Event → List (Port × List ℕ)
puts_after end.Switched guest past = (port.Image, image_of guest past) ∷ texts_of guest past
puts_after end.Budget guest past = texts_of guest past
puts_after end.Open guest past = []

-- what a run to these events puts, in this order
abbrev pub puts_of : Guest → List Event → List (Port × List ℕ)
puts_of guest past =
    (port.Stream, stream_of guest past) ∷ puts_after (run_end guest past) guest past
