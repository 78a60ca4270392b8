-- The text of a history: a line for each event.
use Rattle.std.specs.Prelude.{ℕ, ◌<◌, ◌≤◌, ◌^◌, List, [], ◌∷◌, ◌++◌, All, length, map, codes}
use Rattle.std.specs.Prelude.{decimal}
use Rattle.hex.specs.Hex.{encode_lower}
use Rattle.dr_history.specs.declared.event.Event.{Event}
use Rattle.dr_history.specs.declared.event.Event.TheVariants.{Start, Read, Write, Paint, Local}
use Rattle.dr_history.specs.declared.event.Event.TheVariants.{Halted, Opened, Filled, Pushed}
use Rattle.dr_history.specs.declared.event.Event.TheVariants.{Exited, Deposited, Reset, Flushed}
use Rattle.dr_history.specs.declared.event.Event.TheVariants.{Asked, Synced, Copied, Throttled}
use Rattle.dr_history.specs.declared.event.Event.TheVariants.{Stopped, Switched}
use Rattle.dr_types.specs.declared.guest.Why.{Why}
use Rattle.dr_types.specs.declared.guest.Why.TheVariants as reason
use Rattle.dr_types.specs.Lines.{line_text, low_bytes}
use Rattle.dr_types.specs.Spaces.{spaced_word}

-- the word for why a vCPU left the guest
abbrev pub why_word : Why → List ℕ
why_word reason.Halted = codes "halted"
why_word reason.Stopped = codes "stopped"
why_word reason.Kicked = codes "kicked"
why_word reason.Full = codes "full"
why_word reason.Yield = codes "yield"

-- the words of an event's line
abbrev pub event_words : Event → List (List ℕ)
event_words (Start at) = codes "start" ∷ decimal at ∷ []
event_words (Read v i space address value) =
    codes "r" ∷ decimal v ∷ decimal i ∷ spaced_word space address ∷ decimal value ∷ []
event_words (Write v i space address len value) =
    codes "w" ∷ decimal v ∷ decimal i ∷ spaced_word space address
    ∷ encode_lower (low_bytes len value) ∷ []
event_words (Paint v i page byte) =
    codes "f" ∷ decimal v ∷ decimal i ∷ decimal page ∷ encode_lower (byte ∷ []) ∷ []
event_words (Local v i) = codes "l" ∷ decimal v ∷ decimal i ∷ []
event_words (Halted v i) = codes "h" ∷ decimal v ∷ decimal i ∷ []
event_words (Opened v k page) = codes "o" ∷ decimal v ∷ decimal k ∷ decimal page ∷ []
event_words (Filled v page) = codes "c" ∷ decimal v ∷ decimal page ∷ []
event_words (Pushed v k) = codes "p" ∷ decimal v ∷ decimal k ∷ []
event_words (Exited v why) = codes "x" ∷ decimal v ∷ why_word why ∷ []
event_words (Deposited v from to) = codes "d" ∷ decimal v ∷ decimal from ∷ decimal to ∷ []
event_words (Reset v k) = codes "z" ∷ decimal v ∷ decimal k ∷ []
event_words Flushed = codes "flush" ∷ []
event_words (Asked r) = codes "ask" ∷ decimal r ∷ []
event_words (Synced r at pages) =
    codes "sync" ∷ decimal r ∷ decimal at ∷ decimal (length pages) ∷ map decimal pages
event_words (Copied r page) = codes "copy" ∷ decimal r ∷ decimal page ∷ []
event_words (Throttled v us) = codes "t" ∷ decimal v ∷ decimal us ∷ []
event_words Stopped = codes "stop" ∷ []
event_words Switched = codes "switched" ∷ []

unfoldable pub event_line : Event → List ℕ
event_line e = line_text (event_words e)

-- the lines of the events, in their order
abbrev pub text : List Event → List ℕ
text [] = []
text (e ∷ earlier) = text earlier ++ event_line e

-- the event has a line of its own: each number is one of its type, a space is 0 or 1, and a Write
-- has one to eight bytes that hold its value
abbrev pub FitsLine : Event → Type 0
FitsLine (Start at) = at < 2 ^ 64
FitsLine (Read v i space address value) =
    (v < 2 ^ 32) × (i < 2 ^ 32) × (space ≤ 1) × (address < 2 ^ 64) × (value < 2 ^ 64)
FitsLine (Write v i space address len value) =
    (v < 2 ^ 32) × (i < 2 ^ 32) × (space ≤ 1) × (address < 2 ^ 64)
    × (1 ≤ len) × (len ≤ 8) × (value < 256 ^ len)
FitsLine (Paint v i page byte) = (v < 2 ^ 32) × (i < 2 ^ 32) × (page < 2 ^ 32) × (byte < 256)
FitsLine (Local v i) = (v < 2 ^ 32) × (i < 2 ^ 32)
FitsLine (Halted v i) = (v < 2 ^ 32) × (i < 2 ^ 32)
FitsLine (Opened v k page) = (v < 2 ^ 32) × (k < 2 ^ 64) × (page < 2 ^ 32)
FitsLine (Filled v page) = (v < 2 ^ 32) × (page < 2 ^ 32)
FitsLine (Pushed v k) = (v < 2 ^ 32) × (k < 2 ^ 64)
FitsLine (Exited v why) = v < 2 ^ 32
FitsLine (Deposited v from to) = (v < 2 ^ 32) × (from < 2 ^ 64) × (to < 2 ^ 64)
FitsLine (Reset v k) = (v < 2 ^ 32) × (k < 2 ^ 64)
FitsLine Flushed = Unit {0}
FitsLine (Asked r) = r < 2 ^ 32
FitsLine (Synced r at pages) =
    (r < 2 ^ 32) × (at < 2 ^ 64) × (length pages < 2 ^ 64) × All (λ page. page < 2 ^ 32) pages
FitsLine (Copied r page) = (r < 2 ^ 32) × (page < 2 ^ 32)
FitsLine (Throttled v us) = (v < 2 ^ 32) × (us < 2 ^ 64)
FitsLine Stopped = Unit {0}
FitsLine Switched = Unit {0}
