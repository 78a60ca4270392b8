-- The event that the words of a line say.
use Rattle.std.specs.Prelude.{ℕ, ◌==◌, ◌&&◌, nat_le, if◌then◌else◌, List, [], ◌∷◌, length, Option}
use Rattle.std.specs.Prelude.{Some, None, codes}
use Rattle.std.specs.Str.{bytes_eq}
use Rattle.dr_history.specs.declared.event.Event.{Event}
use Rattle.dr_history.specs.declared.event.Event.TheVariants.{Start, Read, Write, Paint, Local}
use Rattle.dr_history.specs.declared.event.Event.TheVariants.{Halted, Opened, Filled, Pushed}
use Rattle.dr_history.specs.declared.event.Event.TheVariants.{Exited, Deposited, Reset, Flushed}
use Rattle.dr_history.specs.declared.event.Event.TheVariants.{Asked, Synced, Copied, Throttled}
use Rattle.dr_history.specs.declared.event.Event.TheVariants.{Stopped, Switched}
use Rattle.dr_types.specs.declared.guest.Why.{Why}
use Rattle.dr_types.specs.declared.guest.Why.TheVariants as reason
use Rattle.dr_text_law.specs.Words.{◌>>=◌, number, spaced_number, all_numbers, one_byte}
use Rattle.dr_text_law.specs.Words.{bytes_of, value_of}

-- why a vCPU left the guest, by its word
abbrev pub why_of : List ℕ → Option Why
why_of word =
    if bytes_eq word (codes "halted") then Some reason.Halted
    else if bytes_eq word (codes "stopped") then Some reason.Stopped
    else if bytes_eq word (codes "kicked") then Some reason.Kicked
    else if bytes_eq word (codes "full") then Some reason.Full
    else if bytes_eq word (codes "yield") then Some reason.Yield
    else None

-- the words after `start`: AT
abbrev pub start_of : List (List ℕ) → Option Event
start_of (at ∷ []) = do
  at ← number 64 at
  Some (Start at)
start_of words = None

-- the words after `r`: V I ADDR VALUE
abbrev pub read_of : List (List ℕ) → Option Event
read_of (v ∷ i ∷ address ∷ value ∷ []) = do
  v ← number 32 v
  i ← number 32 i
  address ← spaced_number address
  value ← number 64 value
  Some (Read v i address.0 address.1 value)
read_of words = None

-- the words after `w`: V I ADDR HEX
abbrev pub write_of : List (List ℕ) → Option Event
write_of (v ∷ i ∷ address ∷ hex ∷ []) = do
  v ← number 32 v
  i ← number 32 i
  address ← spaced_number address
  bytes ← bytes_of hex
  if nat_le 1 (length bytes) && nat_le (length bytes) 8
      then Some (Write v i address.0 address.1 (length bytes) (value_of bytes))
      else None
write_of words = None

-- the words after `f`: V I PAGE HH
abbrev pub paint_of : List (List ℕ) → Option Event
paint_of (v ∷ i ∷ page ∷ hex ∷ []) = do
  v ← number 32 v
  i ← number 32 i
  page ← number 32 page
  byte ← one_byte hex
  Some (Paint v i page byte)
paint_of words = None

-- the words after `l`: V I
abbrev pub local_of : List (List ℕ) → Option Event
local_of (v ∷ i ∷ []) = do
  v ← number 32 v
  i ← number 32 i
  Some (Local v i)
local_of words = None

-- the words after `h`: V I
abbrev pub halted_of : List (List ℕ) → Option Event
halted_of (v ∷ i ∷ []) = do
  v ← number 32 v
  i ← number 32 i
  Some (Halted v i)
halted_of words = None

-- the words after `o`: V K PAGE
abbrev pub opened_of : List (List ℕ) → Option Event
opened_of (v ∷ k ∷ page ∷ []) = do
  v ← number 32 v
  k ← number 64 k
  page ← number 32 page
  Some (Opened v k page)
opened_of words = None

-- the words after `c`: V PAGE
abbrev pub filled_of : List (List ℕ) → Option Event
filled_of (v ∷ page ∷ []) = do
  v ← number 32 v
  page ← number 32 page
  Some (Filled v page)
filled_of words = None

-- the words after `p`: V K
abbrev pub pushed_of : List (List ℕ) → Option Event
pushed_of (v ∷ k ∷ []) = do
  v ← number 32 v
  k ← number 64 k
  Some (Pushed v k)
pushed_of words = None

-- the words after `x`: V WHY
abbrev pub exited_of : List (List ℕ) → Option Event
exited_of (v ∷ why ∷ []) = do
  v ← number 32 v
  why ← why_of why
  Some (Exited v why)
exited_of words = None

-- the words after `d`: V FROM TO
abbrev pub deposited_of : List (List ℕ) → Option Event
deposited_of (v ∷ from ∷ to ∷ []) = do
  v ← number 32 v
  from ← number 64 from
  to ← number 64 to
  Some (Deposited v from to)
deposited_of words = None

-- the words after `z`: V K
abbrev pub reset_of : List (List ℕ) → Option Event
reset_of (v ∷ k ∷ []) = do
  v ← number 32 v
  k ← number 64 k
  Some (Reset v k)
reset_of words = None

-- the words after `ask`: R
abbrev pub asked_of : List (List ℕ) → Option Event
asked_of (r ∷ []) = do
  r ← number 32 r
  Some (Asked r)
asked_of words = None

-- the words after `sync`: R AT N P1 .. PN
abbrev pub synced_of : List (List ℕ) → Option Event
synced_of (r ∷ at ∷ count ∷ pages) = do
  r ← number 32 r
  at ← number 64 at
  count ← number 64 count
  pages ← all_numbers 32 pages
  if count == length pages then Some (Synced r at pages) else None
synced_of words = None

-- the words after `copy`: R PAGE
abbrev pub copied_of : List (List ℕ) → Option Event
copied_of (r ∷ page ∷ []) = do
  r ← number 32 r
  page ← number 32 page
  Some (Copied r page)
copied_of words = None

-- the words after `t`: V US
abbrev pub throttled_of : List (List ℕ) → Option Event
throttled_of (v ∷ us ∷ []) = do
  v ← number 32 v
  us ← number 64 us
  Some (Throttled v us)
throttled_of words = None

-- this event, which has no other words
abbrev pub alone : Event → List (List ℕ) → Option Event
alone e [] = Some e
alone e (word ∷ words) = None

-- the event that the words after its name say
abbrev pub event_named : List ℕ → List (List ℕ) → Option Event
event_named name words =
    if bytes_eq name (codes "start") then start_of words
    else if bytes_eq name (codes "r") then read_of words
    else if bytes_eq name (codes "w") then write_of words
    else if bytes_eq name (codes "f") then paint_of words
    else if bytes_eq name (codes "l") then local_of words
    else if bytes_eq name (codes "h") then halted_of words
    else if bytes_eq name (codes "o") then opened_of words
    else if bytes_eq name (codes "c") then filled_of words
    else if bytes_eq name (codes "p") then pushed_of words
    else if bytes_eq name (codes "x") then exited_of words
    else if bytes_eq name (codes "d") then deposited_of words
    else if bytes_eq name (codes "z") then reset_of words
    else if bytes_eq name (codes "flush") then alone Flushed words
    else if bytes_eq name (codes "ask") then asked_of words
    else if bytes_eq name (codes "sync") then synced_of words
    else if bytes_eq name (codes "copy") then copied_of words
    else if bytes_eq name (codes "t") then throttled_of words
    else if bytes_eq name (codes "stop") then alone Stopped words
    else if bytes_eq name (codes "switched") then alone Switched words
    else None

-- the event that these words say
abbrev pub event_of : List (List ℕ) → Option Event
event_of [] = None
event_of (name ∷ words) = event_named name words
