-- What `load` says of its input and of the ports.
use Rattle.std.specs.Prelude.{◌≡◌, ◌≢◌, ℕ, ◌<◌, ◌≤◌, Bool, true, false, List, length, Option}
use Rattle.dr_types.specs.declared.fault.StreamFault.{StreamFault}
use Rattle.dr_types.specs.declared.fault.StreamFault.TheVariants as fault
use Rattle.dr_types.specs.declared.status.Status.{Status}
use Rattle.dr_types.specs.declared.status.Status.TheVariants.{Done, Outlet, Source, Memory}
use Rattle.dr_types.specs.declared.status.Status.TheVariants.{BadStream, TooLong}
use Rattle.dr_types.specs.Ports.{Ports, put_all, PutsCut}
use Rattle.dr_stream_law.specs.Faults.{HasFault}
use Rattle.dr_stream_reader.specs.declared.image.Image.{Image}
use Rattle.dr_stream_reader.specs.Images.{IsImageOf}
use Rattle.dr_command_io.specs.Taking.{IfTold, IsAll}
use Rattle.dr_loader.specs.Puts.{puts_of}

-- a stream has at most so many bytes
abbrev pub most_stream_bytes : ℕ
most_stream_bytes = 1077936128

-- the bytes are a stream, and short enough
pub record IsLoadable (bytes : List ℕ) : Type 0 where
  pub image : Image
  pub stream : IsImageOf bytes image
  pub few : length bytes ≤ most_stream_bytes

-- the bytes have this first fault, and are short enough
abbrev pub HasFaultOf : StreamFault → List ℕ → Type 0
HasFaultOf why bytes = (length bytes ≤ most_stream_bytes) × HasFault bytes why

-- the bytes are no stream, and short enough
pub record IsDamaged (bytes : List ℕ) : Type 0 where
  pub why : StreamFault
  pub has : HasFaultOf why bytes

-- the image of a stream was put, and its line
pub record HasLoaded (bytes : List ℕ) (old new : Ports) : Type 0 where
  pub image : Image
  pub stream : IsImageOf bytes image
  pub ports : new ≡ put_all (puts_of image) old

-- of the puts of a stream's image all before one were made, and a first part of that one
pub record IsCutOff (bytes : List ℕ) (old new : Ports) : Type 0 where
  pub image : Image
  pub stream : IsImageOf bytes image
  pub ports : PutsCut (puts_of image) old new

-- what a status says of what was put of an image
abbrev pub PutSays : Status → Image → Ports → Ports → Type 0
PutSays Done image old new = new ≡ put_all (puts_of image) old
PutSays Outlet image old new = PutsCut (puts_of image) old new
PutSays Memory image old new = new ≡ old
PutSays other image old new = ⊥

-- what a status says of the bytes that were read, and of the ports
abbrev pub BytesSay : Status → List ℕ → Ports → Ports → Type 0
BytesSay Done bytes old new = HasLoaded bytes old new
BytesSay Outlet bytes old new = IsCutOff bytes old new
BytesSay (BadStream why) bytes old new =
    (new ≡ old) × (why ≢ fault.Memory) × HasFault bytes why
BytesSay Memory bytes old new = new ≡ old
BytesSay other bytes old new = ⊥

-- bytes were read of which the fact holds; where the source tells its bytes, they are these
pub record Read (remaining : Option (List ℕ)) (P : List ℕ → Type 0) : Type 0 where
  pub bytes : List ℕ
  pub all : IfTold remaining (IsAll most_stream_bytes bytes)
  pub holds : P bytes

-- what the status of `load` says of the source's bytes, and of the ports
abbrev pub LoadSays : Status → Option (List ℕ) → Ports → Ports → Type 0
LoadSays Done remaining old new = Read remaining (λ bytes. HasLoaded bytes old new)
LoadSays Outlet remaining old new = Read remaining (λ bytes. IsCutOff bytes old new)
LoadSays (BadStream why) remaining old new =
    (new ≡ old) × (why ≢ fault.Memory) × IfTold remaining (HasFaultOf why)
LoadSays Source remaining old new = new ≡ old
LoadSays Memory remaining old new = new ≡ old
LoadSays TooLong remaining old new =
    (new ≡ old) × IfTold remaining (λ bytes. most_stream_bytes < length bytes)
LoadSays other remaining old new = ⊥

-- how `load` may end whose source tells a stream
abbrev pub EndsLoaded : Status → Type 0
EndsLoaded Done = Unit {0}
EndsLoaded Outlet = Unit {0}
EndsLoaded Source = Unit {0}
EndsLoaded Memory = Unit {0}
EndsLoaded other = ⊥

-- how `load` may end whose source tells bytes that are no stream
abbrev pub EndsRefused : Status → Type 0
EndsRefused (BadStream why) = Unit {0}
EndsRefused Source = Unit {0}
EndsRefused Memory = Unit {0}
EndsRefused other = ⊥

-- how `load` may end whose source tells these bytes
pub record LoadEnds (s : Status) (bytes : List ℕ) : Type 0 where
  pub whole : IsLoadable bytes → EndsLoaded s
  pub damaged : IsDamaged bytes → EndsRefused s

-- the stream was refused
abbrev pub is_bad_stream : Status → Bool
is_bad_stream (BadStream why) = true
is_bad_stream other = false

-- the status of bytes that are no stream
abbrev pub status_of_fault : StreamFault → Status
status_of_fault fault.Memory = Memory
status_of_fault why = BadStream why
