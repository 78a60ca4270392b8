-- The stream grows by what an advance puts.
use Rattle.std.proofs.Common.{◌≡◌, ℕ, zero, suc, ◌+◌, ◌≤◌, Bool, true, false, cond, List, [], ◌∷◌, ◌++◌, take, length, refl, ap, sym, subst, ◌∙◌, arith, append_assoc}
use Rattle.std.proofs.Math.Seq.{take-append-add}
use Rattle.std.specs.Prelude.{◌&&◌, not, nat_le}
use Rattle.std.proofs.lemmas.Bool.{false≢true}
use Rattle.std.proofs.lemmas.List.{append-nil}
use Rattle.dr_types.specs.declared.guest.Guest.{Guest}
use Rattle.dr_types.specs.declared.port.Port.TheVariants.{Stream}
use Rattle.dr_types.specs.Ports.{Ports, put_at, Rose}
use Rattle.dr_types.specs.Scripts.{vcpu_count}
use Rattle.dr_types.proofs.Ports.{put_twice, put_none}
use Rattle.dr_history.specs.declared.event.Event.{Event}
use Rattle.dr_history.specs.declared.event.Event.TheVariants.{Synced, Copied, Throttled}
use Rattle.dr_history.specs.Dirty.{dirty_pages}
use Rattle.dr_history.specs.Lookback.{count}
use Rattle.dr_history.specs.Memory.{zero_page}
use Rattle.dr_history.specs.Parts.{Part, Round, part_bytes, parts_bytes, has_pages}
use Rattle.dr_history.specs.Rounds.{opens_round, last_synced}
use Rattle.dr_history.specs.Stream.{parts_of, sent_records, stream_of}
use Rattle.dr_history.specs.Throttles.{throttle}
use Rattle.dr_history.specs.Vcpus.{stopped}
use Rattle.dr_io.specs.declared.outlet.PutTurn.{PutTurn}
use Rattle.dr_io.specs.declared.outlet.PutTurn.TheVariants.{Done, Failed}
use Rattle.dr_machine.specs.Views.{MachineView}
use Rattle.dr_turns_law.proofs.Cases.{IsWait, CopyDue, advanced_cases}
use Rattle.dr_stream.specs.Sending.{Sending, Sends}
use Rattle.dr_turns.specs.Due.{advanced, throttled_after, answered_after, zeros_to_copy, copies_from, round_of}
use Rattle.dr_turns.specs.declared.answers.Advance.{Advance}
use Rattle.dr_turns.specs.declared.answers.Advance.TheVariants as advance
use Rattle.dr_bench.specs.Bench.{BenchKeeps, HaveZerosEnded, IsTracked, IsQuiet, bench_of}
use Rattle.dr_bench.specs.Records.{is_stopping, opens_at, parts_put, records_after}
use Rattle.dr_bench.proofs.Counting.{round_unsent}
use Rattle.dr_bench.proofs.Zeros.{run_adds, run_ends, alone_unzero, alone_ends, alone_adds}
use Rattle.dr_bench.proofs.Quiet.{quiet_silent, quiet_still, quiet_then}

-- what an advance of this answer adds
pub record AdvanceAdds (guest : Guest) (past : List Event) (a : Advance) (new : List Event) : Type 0 where
  pub parts : parts_of guest new ≡ parts_put guest new a (opens_at guest (stopped past) a) (sent_records guest past) ++ parts_of guest past
  pub records : sent_records guest new ≡ records_after a (sent_records guest past)
  pub ended : HaveZerosEnded guest new
  pub stop : stopped new ≡ cond (is_stopping a) true (stopped past)

adds_nothing : (guest : Guest) (past : List Event) (a : Advance) → HaveZerosEnded guest past → IsWait a → AdvanceAdds guest past a past
adds_nothing guest past (advance.NotPaced v done) ended is = record { parts = refl; records = refl; ended = ended; stop = refl }
adds_nothing guest past (advance.NotOut v) ended is = record { parts = refl; records = refl; ended = ended; stop = refl }
adds_nothing guest past (advance.NotReset v k) ended is = record { parts = refl; records = refl; ended = ended; stop = refl }
adds_nothing guest past advance.NotFlushed ended is = record { parts = refl; records = refl; ended = ended; stop = refl }
adds_nothing guest past advance.Finished ended is = record { parts = refl; records = refl; ended = ended; stop = refl }
adds_nothing guest past advance.Budget ended is = record { parts = refl; records = refl; ended = ended; stop = refl }
adds_nothing guest past a ended is = absurd is

answer_quiet : (guest : Guest) (past mid new : List Event) (r n : ℕ) → AdvanceAdds guest past (advance.Answered r n) mid → IsQuiet guest mid new → AdvanceAdds guest past (advance.Answered r n) new
answer_quiet guest past mid new r n adds quiet = record {
  parts = quiet.parts ∙ adds.parts;
  records = ap (count has_pages) quiet.parts ∙ adds.records;
  ended = quiet.ended adds.ended;
  stop = quiet.stop ∙ adds.stop;
}

quiet_throttled : (guest : Guest) (n : ℕ) (past : List Event) → IsQuiet guest past (throttled_after guest n past)
quiet_throttled guest zero past = quiet_still guest past
quiet_throttled guest (suc n) past =
    quiet_then guest past (throttled_after guest n past) (throttled_after guest (suc n) past) (quiet_throttled guest n past)
    (quiet_silent guest (throttled_after guest n past) (Throttled n (throttle guest n (throttled_after guest n past)).us) tt)

throttled_case : (test : Bool) (guest : Guest) (n : ℕ) (past : List Event) → IsQuiet guest past (cond test (throttled_after guest n past) past)
throttled_case true guest n past = quiet_throttled guest n past
throttled_case false guest n past = quiet_still guest past

round_put : (opens : Bool) (r : ℕ) (parts : List Part) → cond opens (Round r ∷ parts) parts ≡ cond opens (Round r ∷ []) [] ++ parts
round_put true r parts = refl
round_put false r parts = refl

adds_answer : (guest : Guest) (r now : ℕ) (past : List Event) → AdvanceAdds guest past (advance.Answered r (length (dirty_pages guest past))) (answered_after guest r now past)
adds_answer guest r now past =
    let answer : List Event = Synced r now (dirty_pages guest past) ∷ past in
    let opens : Bool = opens_round guest (Synced r now (dirty_pages guest past)) past in
    answer_quiet guest past answer (answered_after guest r now past) r (length (dirty_pages guest past))
    (record { parts = round_put opens r (parts_of guest past); records = round_unsent opens r (parts_of guest past); ended = λ page next zero. refl; stop = refl })
    (throttled_case (nat_le 1 guest.settings.quota && not (stopped past)) guest (vcpu_count guest) answer)

-- a page that isn't zero
adds_page : (guest : Guest) (past : List Event) (r page : ℕ) → zero_page guest page past ≡ false → AdvanceAdds guest past (advance.Copied r page) (Copied r page ∷ past)
adds_page guest past r page unzero = record {
  parts = alone_adds guest past r page unzero;
  records = ap (count has_pages) (alone_adds guest past r page unzero);
  ended = alone_ends guest past r page unzero;
  stop = refl;
}

run_stops : (r first n : ℕ) (past : List Event) → stopped (copies_from r first n past) ≡ stopped past
run_stops r first zero past = refl
run_stops r first (suc n) past = run_stops r first n past

-- pages of zeros
adds_zeros : (guest : Guest) (past : List Event) (page n : ℕ) → HaveZerosEnded guest past → CopyDue guest past page → zeros_to_copy guest past page ≡ suc n
    → AdvanceAdds guest past (advance.Blank (round_of (last_synced past)) page (suc n)) (copies_from (round_of (last_synced past)) page (suc n) past)
adds_zeros guest past page n ended due zeros = record {
  parts = run_adds guest past page n ended due zeros;
  records = ap (count has_pages) (run_adds guest past page n ended due zeros);
  ended = run_ends guest past page n zeros;
  stop = run_stops (round_of (last_synced past)) page (suc n) past;
}

-- of each advance
pub advance_adds : (guest : Guest) (now : ℕ) (past : List Event) → HaveZerosEnded guest past → AdvanceAdds guest past (advanced guest now past).0 (advanced guest now past).1
advance_adds guest now past ended =
    advanced_cases (λ (p : Advance × List Event). AdvanceAdds guest past p.0 p.1) guest now past (record {
      waits = λ a is. adds_nothing guest past a ended is;
      starts = λ due. record { parts = refl; records = refl; ended = λ page next zero. refl; stop = refl };
      answers = λ r due. adds_answer guest r now past;
      copies = λ page due alone. adds_page guest past (round_of (last_synced past)) page (alone_unzero guest past page due alone);
      blanks = λ page n due zeros. adds_zeros guest past page n ended due zeros;
      asks_last = λ on stop again. record { parts = refl; records = refl; ended = λ page next zero. refl; stop = refl };
      switches = λ on stop again. record { parts = refl; records = refl; ended = λ page next zero. refl; stop = refl };
      stops = λ on runs few. record { parts = refl; records = refl; ended = λ page next zero. refl; stop = refl };
      asks_first = λ on runs none fewer. record { parts = refl; records = refl; ended = λ page next zero. refl; stop = refl };
      asks_later = λ on runs many fewer some paced. record { parts = refl; records = refl; ended = λ page next zero. refl; stop = refl };
    })

-- what the machine did in an advance, and what its bench put
pub record Advanced (guest : Guest) (now : ℕ) (m n : MachineView) (s t : Sending) (stop : Bool) (a : Advance) (opens : Bool) (result : PutTurn) : Type 0 where
  pub answer : a ≡ (advanced guest now m.past).0
  pub past : n.past ≡ (advanced guest now m.past).1
  pub opens_is : opens ≡ opens_at guest stop a
  pub sends : Sends s (parts_bytes (parts_put guest n.past a opens s.records)) result t (records_after a s.records)

adds_here : (guest : Guest) (now : ℕ) (m n : MachineView) (s t : Sending) (stop : Bool) (a : Advance) (opens : Bool) (result : PutTurn) → HaveZerosEnded guest m.past → Advanced guest now m n s t stop a opens result → AdvanceAdds guest m.past a n.past
adds_here guest now m n s t stop a opens result ended it =
    subst (λ (xs : List Event). AdvanceAdds guest m.past a xs) (sym it.past)
    (subst (λ (b : Advance). AdvanceAdds guest m.past b (advanced guest now m.past).1) (sym it.answer) (advance_adds guest now m.past ended))

-- the parts that were put, in one list
adds_parts : (guest : Guest) (now : ℕ) (m n : MachineView) (s t : Sending) (stop : Bool) (a : Advance) (opens : Bool) (result : PutTurn) → IsTracked guest m.past s.records stop → Advanced guest now m n s t stop a opens result → parts_of guest n.past ≡ parts_put guest n.past a opens s.records ++ parts_of guest m.past
adds_parts guest now m n s t stop a opens result track it =
    (adds_here guest now m n s t stop a opens result track.ended it).parts
    ∙ ap (λ xs. xs ++ parts_of guest m.past)
    (ap (λ b. parts_put guest n.past a (opens_at guest b a) (sent_records guest m.past)) (sym track.stop)
    ∙ ap (λ b. parts_put guest n.past a b (sent_records guest m.past)) (sym it.opens_is)
    ∙ ap (parts_put guest n.past a opens) (sym track.sent))

-- later parts have the later bytes
bytes_append : (later earlier : List Part) → parts_bytes (later ++ earlier) ≡ parts_bytes earlier ++ parts_bytes later
bytes_append [] earlier = sym (append-nil (parts_bytes earlier))
bytes_append (part ∷ later) earlier =
    ap (λ xs. xs ++ part_bytes part) (bytes_append later earlier) ∙ append_assoc (parts_bytes earlier) (parts_bytes later) (part_bytes part)

grows : (guest : Guest) (now : ℕ) (m n : MachineView) (s t : Sending) (stop : Bool) (a : Advance) (opens : Bool) (result : PutTurn) → IsTracked guest m.past s.records stop → Advanced guest now m n s t stop a opens result → stream_of guest n.past ≡ stream_of guest m.past ++ parts_bytes (parts_put guest n.past a opens s.records)
grows guest now m n s t stop a opens result track it =
    ap parts_bytes (adds_parts guest now m n s t stop a opens result track it) ∙ bytes_append (parts_put guest n.past a opens s.records) (parts_of guest m.past)

tracks_advance : (guest : Guest) (now : ℕ) (m n : MachineView) (s t : Sending) (stop : Bool) (a : Advance) (opens : Bool) (result : PutTurn) → IsTracked guest m.past s.records stop → Advanced guest now m n s t stop a opens result → IsTracked guest n.past t.records (cond (is_stopping a) true stop)
tracks_advance guest now m n s t stop a opens result track it =
    let adds = adds_here guest now m n s t stop a opens result track.ended it in
    record {
      sent = it.sends.counted ∙ ap (records_after a) track.sent ∙ sym adds.records;
      ended = adds.ended;
      stop = ap (λ b. cond (is_stopping a) true b) track.stop ∙ sym adds.stop;
    }

-- all was put
pub keeps_advance : (guest : Guest) (ports : Ports) (first now : ℕ) (m n : MachineView) (s t : Sending) (failed stop : Bool) (a : Advance) (opens : Bool) (result : PutTurn) → BenchKeeps guest ports first (bench_of m s failed) × IsTracked guest m.past s.records stop → failed ≡ false → result ≡ Done → Advanced guest now m n s t stop a opens result
    → BenchKeeps guest ports first (bench_of n t failed) × IsTracked guest n.past t.records (cond (is_stopping a) true stop)
keeps_advance guest ports first now m n s t failed stop a opens result kept fine done it =
    let put : List ℕ = parts_bytes (parts_put guest n.past a opens s.records) in
    let before_le : first ≤ s.faults = kept.0.later in
    let after_le : s.faults ≤ t.faults = it.sends.puts.later in (
      record {
        whole = λ f.
            it.sends.puts.done done ∙ ap (put_at Stream put) (kept.0.whole fine) ∙ put_twice Stream (stream_of guest m.past) put ports
            ∙ ap (λ xs. put_at Stream xs ports) (sym (grows guest now m n s t stop a opens result kept.1 it));
        part = λ f. absurd (false≢true (sym fine ∙ f));
        later = omega arith;
        risen = λ f. absurd (false≢true (sym fine ∙ f));
        stopped = λ f. absurd (false≢true (sym fine ∙ f));
      },
      tracks_advance guest now m n s t stop a opens result kept.1 it,
    )

rose_from : (first before now : ℕ) → first ≤ before → Rose before now → Rose first now
rose_from first before now le rose = omega arith

-- a first part of it was put, and the run is given up
pub keeps_failed : (guest : Guest) (ports : Ports) (first now : ℕ) (m n o : MachineView) (s t : Sending) (failed stop : Bool) (a : Advance) (opens : Bool) (result : PutTurn) → BenchKeeps guest ports first (bench_of m s failed) × IsTracked guest m.past s.records stop → failed ≡ false → result ≡ Failed → Advanced guest now m n s t stop a opens result
    → o ≡ record n { over = true } → BenchKeeps guest ports first (bench_of o t true) × IsTracked guest o.past t.records (cond (is_stopping a) true stop)
keeps_failed guest ports first now m n o s t failed stop a opens result kept fine fails it is =
    let same : o.past ≡ n.past = ap (λ (x : MachineView). x.past) is in
    let over : o.over ≡ true = ap (λ (x : MachineView). x.over) is in
    let put : List ℕ = parts_bytes (parts_put guest n.past a opens s.records) in
    let was : List ℕ = stream_of guest m.past in
    let some = it.sends.puts.failed fails in
    let whole : stream_of guest o.past ≡ was ++ put = ap (stream_of guest) same ∙ grows guest now m n s t stop a opens result kept.1 it in
    let before_le : first ≤ s.faults = kept.0.later in
    let after_le : s.faults ≤ t.faults = it.sends.puts.later in (
      record {
        whole = λ f. absurd (false≢true (sym f));
        part = λ f. record {
          length = length was + some.0;
          told_is = some.1 ∙ ap (put_at Stream (take some.0 put)) (kept.0.whole fine) ∙ put_twice Stream was (take some.0 put) ports
              ∙ ap (λ xs. put_at Stream xs ports) (sym (take-append-add was put some.0) ∙ ap (take (length was + some.0)) (sym whole));
        };
        later = omega arith;
        risen = λ f. rose_from first s.faults t.faults before_le (it.sends.puts.risen fails);
        stopped = λ f. over;
      },
      subst (λ (xs : List Event). IsTracked guest xs t.records (cond (is_stopping a) true stop)) (sym same) (tracks_advance guest now m n s t stop a opens result kept.1 it),
    )

done_failed : Done ≡ Failed → ⊥
done_failed h = cc

-- an advance that puts nothing
pub sends_none : (s : Sending) → Sends s [] Done s s.records
sends_none s = record {
  puts = record {
    done = λ d. sym (put_none Stream s.told);
    failed = λ f. absurd (done_failed f);
    later = omega arith;
    risen = λ f. absurd (done_failed f);
  };
  counted = refl;
}
