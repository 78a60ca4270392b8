-- What `load` leaves.
use Rattle.std.proofs.Common.{◌≡◌, ◌≢◌, ℕ, ◌<◌, List, length, Option, Some, Result, Ok, Err, refl, subst, arith}
use Rattle.std.specs.Prelude.{IfOk, OnOk, OnErr, IfErr}
use Rattle.dr_types.specs.declared.fault.StreamFault.{StreamFault}
use Rattle.dr_types.specs.declared.fault.StreamFault.TheVariants as fault
use Rattle.dr_types.specs.declared.status.Status.{Status}
use Rattle.dr_types.specs.declared.status.Status.TheVariants.{Done, Outlet, Source, Memory, BadStream, TooLong}
use Rattle.dr_types.specs.Ports.{Ports, put_all, PutsCut, Rose}
use Rattle.dr_command_io.specs.declared.fault.PutFault.{PutFault}
use Rattle.dr_command_io.specs.declared.fault.PutFault.TheVariants as why
use Rattle.dr_command_io.specs.Puts.{IsFault, status_of_end}
use Rattle.dr_command_io.specs.Taking.{IfTold, IsAll, IsDrained, IsUnread, Takes}
use Rattle.dr_command_io.proofs.Reading.{drained_part, of_told}
use Rattle.dr_stream_law.specs.Faults.{HasFault}
use Rattle.dr_stream_law.proofs.Faults.{fault_or_stream}
use Rattle.dr_stream_reader.specs.declared.image.Image.{Image}
use Rattle.dr_stream_reader.specs.Images.{IsImageOf}
use Rattle.dr_loader.specs.Puts.{puts_of}
use Rattle.dr_loader.specs.Loads.{BytesSay, EndsLoaded, EndsRefused, IsDamaged, IsLoadable, LoadSays, PutSays, most_stream_bytes, status_of_fault}

-- what the status of an image's puts says of the bytes that it is loaded from
pub bytes_say : (s : Status) (bytes : List ℕ) (image : Image) (old new : Ports) → IsImageOf bytes image → PutSays s image old new → BytesSay s bytes old new
bytes_say Done bytes image old new is says = record { image = image; stream = is; ports = says }
bytes_say Outlet bytes image old new is says = record { image = image; stream = is; ports = says }
bytes_say Memory bytes image old new is says = says
bytes_say s bytes image old new is says = absurd says

-- a fault of the stream, where it isn't want of memory
pub fault_says : (bytes : List ℕ) (why : StreamFault) (ports : Ports) → (why ≢ fault.Memory → HasFault bytes why) → BytesSay (status_of_fault why) bytes ports ports
fault_says bytes fault.Memory ports has = refl
fault_says bytes why ports has = (refl, (λ e. cc e), has (λ e. cc e))

-- what was read is what the source told
pub load_says : (s : Status) (remaining : Option (List ℕ)) (bytes : List ℕ) (old new : Ports) → IfTold remaining (IsAll most_stream_bytes bytes) → BytesSay s bytes old new → LoadSays s remaining old new
load_says Done remaining bytes old new all says = record { bytes = bytes; all = all; holds = says }
load_says Outlet remaining bytes old new all says = record { bytes = bytes; all = all; holds = says }
load_says (BadStream why) remaining bytes old new all says = (says.0, says.1, of_told most_stream_bytes remaining bytes (λ xs. HasFault xs why) all says.2)
load_says Memory remaining bytes old new all says = says
load_says s remaining bytes old new all says = absurd says

-- where nothing was read nothing was put
pub unread_says : (s : Status) (remaining : Option (List ℕ)) (before now : ℕ) (ports : Ports) → IsUnread most_stream_bytes s remaining before now → LoadSays s remaining ports ports
unread_says Source remaining before now ports is = refl
unread_says Memory remaining before now ports is = refl
unread_says TooLong remaining before now ports is = (refl, is)
unread_says s remaining before now ports is = absurd is

-- however the bytes are answered, all was read before
pub load_takes : (s : Status) (remaining rest : Option (List ℕ)) (bytes : List ℕ) (old new : Ports) → IsDrained most_stream_bytes remaining rest → BytesSay s bytes old new → Takes most_stream_bytes s remaining rest
load_takes Done remaining rest bytes old new all says = all
load_takes Outlet remaining rest bytes old new all says = all
load_takes (BadStream why) remaining rest bytes old new all says = all
load_takes Memory remaining rest bytes old new all says = drained_part most_stream_bytes remaining rest all
load_takes s remaining rest bytes old new all says = absurd says

-- a read failed only where the count of faults has risen
pub source_rose : (s : Status) (remaining : Option (List ℕ)) (before now : ℕ) → IsUnread most_stream_bytes s remaining before now → s ≡ Source → Rose before now
source_rose Source remaining before now unread is = unread
source_rose s remaining before now unread is = cc

-- bytes that were answered are no failed read
pub bytes_no_source : (s : Status) (bytes : List ℕ) (old new : Ports) (P : Type 0) → BytesSay s bytes old new → s ≡ Source → P
bytes_no_source Source bytes old new P says is = absurd says
bytes_no_source s bytes old new P says is = cc

no_stream_has_a_fault : (bytes : List ℕ) (why : StreamFault) (image : Image) → HasFault bytes why → IsImageOf bytes image → ⊥
no_stream_has_a_fault bytes why image has is = fault_or_stream bytes why is.memory image.records has is.stream

-- a stream is put, unless a read, a put or memory fails
pub ends : (s : Status) (remaining : Option (List ℕ)) (bytes : List ℕ) (old new : Ports) → LoadSays s remaining old new → remaining ≡ Some bytes → IsLoadable bytes → EndsLoaded s
ends Done remaining bytes old new says told is = tt
ends Outlet remaining bytes old new says told is = tt
ends Source remaining bytes old new says told is = tt
ends Memory remaining bytes old new says told is = tt
ends (BadStream why) remaining bytes old new says told is = no_stream_has_a_fault bytes why is.image (says.2 bytes told).1 is.stream
ends TooLong remaining bytes old new says told is =
    let long : most_stream_bytes < length bytes = says.1 bytes told in omega (arith, long, is.few)
ends other remaining bytes old new says told is = absurd says

not_read : (remaining : Option (List ℕ)) (bytes read : List ℕ) (image : Image) → remaining ≡ Some bytes → IsDamaged bytes → IfTold remaining (IsAll most_stream_bytes read) → IsImageOf read image → ⊥
not_read remaining bytes read image told bad all is =
    no_stream_has_a_fault bytes bad.why image bad.has.1 (subst (λ (xs : List ℕ). IsImageOf xs image) (all bytes told).0 is)

-- bytes that are no stream are refused, unless a read or memory fails
pub refuses : (s : Status) (remaining : Option (List ℕ)) (bytes : List ℕ) (old new : Ports) → LoadSays s remaining old new → remaining ≡ Some bytes → IsDamaged bytes → EndsRefused s
refuses Done remaining bytes old new says told bad = absurd (not_read remaining bytes says.bytes says.holds.image told bad says.all says.holds.stream)
refuses Outlet remaining bytes old new says told bad = absurd (not_read remaining bytes says.bytes says.holds.image told bad says.all says.holds.stream)
refuses (BadStream why) remaining bytes old new says told bad = tt
refuses Source remaining bytes old new says told bad = tt
refuses Memory remaining bytes old new says told bad = tt
refuses TooLong remaining bytes old new says told bad =
    let long : most_stream_bytes < length bytes = says.1 bytes told in omega (arith, long, bad.has.0)
refuses other remaining bytes old new says told bad = absurd says

-- what the puts of an image answered
pub put_says : (r : Result Status PutFault) (image : Image) (old new : Ports) → IfOk r (λ s. s ≡ Done) → OnOk r (new ≡ put_all (puts_of image) old) → OnErr r (PutsCut (puts_of image) old new)
    → IfErr r (λ e. e ≡ why.Outlet) → PutSays (status_of_end r) image old new
put_says (Ok Done) image old new whole done cut only = done
put_says (Ok s) image old new whole done cut only = cc
put_says (Err why.Outlet) image old new whole done cut only = cut
put_says (Err why.Memory) image old new whole done cut only = cc

pub outlet_rose : (r : Result Status PutFault) (before now : ℕ) → IfOk r (λ s. s ≡ Done) → IfErr r (IsFault before now) → status_of_end r ≡ Outlet → Rose before now
outlet_rose (Ok s) before now whole fault is = cc
outlet_rose (Err why.Outlet) before now whole fault is = fault
outlet_rose (Err why.Memory) before now whole fault is = cc

-- an image of which not all and no part was put
pub put_leaves : {Out : Type 0} (r : Result Status PutFault) (old new : Out) → IfOk r (λ s. s ≡ Done) → IfErr r (λ e. e ≡ why.Outlet)
    → status_of_end r ≢ Done → status_of_end r ≢ Outlet → new ≡ old
put_leaves (Ok s) old new whole only done outlet = absurd (done whole)
put_leaves (Err why.Outlet) old new whole only done outlet = absurd (outlet refl)
put_leaves (Err why.Memory) old new whole only done outlet = cc
