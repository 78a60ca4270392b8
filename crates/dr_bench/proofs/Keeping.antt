-- What a bench keeps over a turn.
use Rattle.std.proofs.Common.{◌≡◌, ℕ, Bool, true, false, List, [], ◌∷◌, refl, ap, sym, ◌∙◌, arith}
use Rattle.std.proofs.lemmas.Bool.{false≢true}
use Rattle.dr_types.specs.declared.guest.Guest.{Guest}
use Rattle.dr_types.specs.declared.port.Port.TheVariants.{Stream}
use Rattle.dr_types.specs.Ports.{Ports, put_at}
use Rattle.dr_types.proofs.Ports.{put_none}
use Rattle.dr_history.specs.declared.event.Event.{Event}
use Rattle.dr_history.specs.Parts.{parts_bytes, has_pages}
use Rattle.dr_history.specs.Lookback.{count}
use Rattle.dr_history.specs.Stream.{sent_records, stream_of}
use Rattle.dr_history.specs.Vcpus.{stopped}
use Rattle.dr_machine.specs.Views.{MachineView}
use Rattle.dr_stream.specs.Sending.{Sending}
use Rattle.dr_bench.specs.Bench.{BenchKeeps, HaveZerosEnded, IsTracked, IsPartOf, IsQuiet, bench_of}
use Rattle.dr_bench.proofs.Quiet.{quiet_still, quiet_to}

-- where nothing has happened nothing was sent
unsent_ended : (guest : Guest) (past : List Event) → past ≡ [] → HaveZerosEnded guest past
unsent_ended guest [] is = λ page next zero. refl
unsent_ended guest (e ∷ past) is = cc

-- a new bench
pub begins : (guest : Guest) (ports : Ports) (before : ℕ) (m : MachineView) (s : Sending) → m.past ≡ [] → s.told ≡ ports → s.faults ≡ before → s.records ≡ 0 → BenchKeeps guest ports before (bench_of m s false) × IsTracked guest m.past s.records false
begins guest ports before m s past told faults pages = (
  record {
    whole = λ f. told ∙ sym (put_none Stream ports) ∙ ap (λ xs. put_at Stream (stream_of guest xs) ports) (sym past);
    part = λ f. absurd (false≢true f);
    later = omega (arith, faults);
    risen = λ f. absurd (false≢true f);
    stopped = λ f. absurd (false≢true f);
  },
  record { sent = pages ∙ ap (sent_records guest) (sym past); ended = unsent_ended guest m.past past; stop = ap stopped (sym past) },
)

part_on : (ports told : Ports) (old new : List ℕ) → new ≡ old → IsPartOf ports old told → IsPartOf ports new told
part_on ports told old new is part = rw is part

-- a turn that puts nothing, after which the run is over where it was
pub keeps_over : (guest : Guest) (ports : Ports) (before : ℕ) (m n : MachineView) (s : Sending) (failed : Bool) → BenchKeeps guest ports before (bench_of m s failed) → IsQuiet guest m.past n.past → (m.over ≡ true → n.over ≡ true) → BenchKeeps guest ports before (bench_of n s failed)
keeps_over guest ports before m n s failed keeps quiet over = record {
  whole = λ f. keeps.whole f ∙ ap (λ xs. put_at Stream xs ports) (ap parts_bytes (sym quiet.parts));
  part = λ f. part_on ports s.told (stream_of guest m.past) (stream_of guest n.past) (ap parts_bytes quiet.parts) (keeps.part f);
  later = keeps.later;
  risen = keeps.risen;
  stopped = λ f. over (keeps.stopped f);
}

-- a turn that puts nothing
pub keeps_on : (guest : Guest) (ports : Ports) (before : ℕ) (m n : MachineView) (s : Sending) (failed : Bool) → BenchKeeps guest ports before (bench_of m s failed) → IsQuiet guest m.past n.past → n.over ≡ m.over → BenchKeeps guest ports before (bench_of n s failed)
keeps_on guest ports before m n s failed keeps quiet same = keeps_over guest ports before m n s failed keeps quiet (λ over. same ∙ over)

-- nor does it count a page or stop the guest
pub tracks_on : (guest : Guest) (old new : List Event) (records : ℕ) (stop : Bool) → IsTracked guest old records stop → IsQuiet guest old new → IsTracked guest new records stop
tracks_on guest old new records stop tracked quiet = record { sent = tracked.sent ∙ ap (count has_pages) (sym quiet.parts); ended = quiet.ended tracked.ended; stop = tracked.stop ∙ sym quiet.stop }

-- both at once
pub keeps_both : (guest : Guest) (ports : Ports) (before : ℕ) (m n : MachineView) (s : Sending) (failed stop : Bool) → BenchKeeps guest ports before (bench_of m s failed) × IsTracked guest m.past s.records stop → IsQuiet guest m.past n.past → n.over ≡ m.over → BenchKeeps guest ports before (bench_of n s failed) × IsTracked guest n.past s.records stop
keeps_both guest ports before m n s failed stop kept quiet same =
    (keeps_on guest ports before m n s failed kept.0 quiet same, tracks_on guest m.past n.past s.records stop kept.1 quiet)

-- where the run is given up
pub gives_up : (guest : Guest) (ports : Ports) (before : ℕ) (m n : MachineView) (s : Sending) (failed stop : Bool) → BenchKeeps guest ports before (bench_of m s failed) × IsTracked guest m.past s.records stop → n ≡ record m { over = true } → BenchKeeps guest ports before (bench_of n s failed) × IsTracked guest n.past s.records stop
gives_up guest ports before m n s failed stop kept is =
    let same : n.past ≡ m.past = ap (λ (x : MachineView). x.past) is in
    let over : n.over ≡ true = ap (λ (x : MachineView). x.over) is in
    let quiet : IsQuiet guest m.past n.past = quiet_to guest m.past m.past n.past (quiet_still guest m.past) same in
    (keeps_over guest ports before m n s failed kept.0 quiet (λ was. over), tracks_on guest m.past n.past s.records stop kept.1 quiet)
