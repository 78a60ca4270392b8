-- What a bench shows and keeps.
use Rattle.std.specs.Prelude.{◌≡◌, ℕ, ◌≤◌, Bool, true, false, List, take, Some}
use Rattle.dr_types.specs.declared.guest.Guest.{Guest}
use Rattle.dr_types.specs.declared.port.Port.TheVariants.{Stream}
use Rattle.dr_types.specs.Ports.{Ports, put_at, Rose}
use Rattle.dr_history.specs.declared.event.Event.{Event}
use Rattle.dr_history.specs.declared.event.Event.TheVariants.{Start, Synced, Copied, Stopped}
use Rattle.dr_history.specs.declared.event.Event.TheVariants.{Switched}
use Rattle.dr_history.specs.Memory.{zero_page}
use Rattle.dr_history.specs.Rounds.{last_synced}
use Rattle.dr_history.specs.Stream.{follows_zero, parts_of, sent_records, stream_of}
use Rattle.dr_history.specs.Vcpus.{stopped}
use Rattle.dr_ring.specs.Seats.{KernelView}
use Rattle.dr_machine.specs.Views as machine
use Rattle.dr_stream.specs.Sending.{Sending}
use Rattle.dr_turns.specs.Due.{page_to_copy, round_of}

-- what has happened, the newest event first, the kernel seat of each vCPU, whether the run was
-- given up, whether a put failed, what the outlet tells of the ports, and its count of faults
pub record BenchView : Type 0 where
  pub past : List Event
  pub seats : List KernelView
  pub over : Bool
  pub failed : Bool
  pub told : Ports
  pub faults : ℕ

-- a bench of this machine and this sender
abbrev pub bench_of : machine.MachineView → Sending → Bool → BenchView
bench_of m s failed = record {
  past = m.past;
  seats = m.seats;
  over = m.over;
  failed = failed;
  told = s.told;
  faults = s.faults;
}

-- its machine
abbrev pub machine_of : BenchView → machine.MachineView
machine_of it = record { past = it.past; seats = it.seats; over = it.over }

-- from these ports on the Stream port grew by a first part of these bytes
pub record IsPartOf (ports : Ports) (bytes : List ℕ) (told : Ports) : Type 0 where
  pub length : ℕ
  pub told_is : told ≡ put_at Stream (take length bytes) ports

-- What a bench keeps that began with these ports and this count. While no put failed, the Stream
-- port has grown by the stream of what happened; after that by a first part of it, the count has
-- risen, and the run was given up. The other ports are what they were.
pub record BenchKeeps (guest : Guest) (ports : Ports) (before : ℕ) (it : BenchView) : Type 0 where
  pub whole : it.failed ≡ false → it.told ≡ put_at Stream (stream_of guest it.past) ports
  pub part : it.failed ≡ true → IsPartOf ports (stream_of guest it.past) it.told
  pub later : before ≤ it.faults
  pub risen : it.failed ≡ true → Rose before it.faults
  pub stopped : it.failed ≡ true → it.over ≡ true

-- nothing was put, and the run was not given up
pub record SameStanding (old new : BenchView) : Type 0 where
  pub over : new.over ≡ old.over
  pub failed : new.failed ≡ old.failed
  pub told : new.told ≡ old.told
  pub faults : new.faults ≡ old.faults

-- the next page to be copied doesn't go on the pages of zeros that were sent last
abbrev pub HaveZerosEnded : Guest → List Event → Type 0
HaveZerosEnded guest past =
    (page : ℕ) → page_to_copy guest past ≡ Some page → zero_page guest page past ≡ true
    → follows_zero guest (round_of (last_synced past)) page past ≡ false

-- so many records of pages were put, the last of which nothing goes on, and whether the guest is
-- stopped
pub record IsTracked (guest : Guest) (past : List Event) (records : ℕ) (is_stopped : Bool)
    : Type 0 where
  pub sent : records ≡ sent_records guest past
  pub ended : HaveZerosEnded guest past
  pub stop : is_stopped ≡ stopped past

-- nothing of the event is on the stream, and it stops nothing
abbrev pub IsSilent : Event → Type 0
IsSilent (Start at) = ⊥
IsSilent (Synced r at pages) = ⊥
IsSilent (Copied r page) = ⊥
IsSilent Stopped = ⊥
IsSilent Switched = ⊥
IsSilent e = Unit {0}

-- what happened since put nothing on the stream and stopped nothing
pub record IsQuiet (guest : Guest) (old new : List Event) : Type 0 where
  pub parts : parts_of guest new ≡ parts_of guest old
  pub ended : HaveZerosEnded guest old → HaveZerosEnded guest new
  pub stop : stopped new ≡ stopped old
