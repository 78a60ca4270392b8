-- What one block of a drive leaves.
use Rattle.std.proofs.Common.{inl, inr, ◌≡◌, ℕ, ◌<◌, ◌≤◌, false, List, [], ◌∷◌, ◌++◌, length, refl, ap, sym, subst, ◌∙◌, arith, append_assoc}
use Rattle.std.proofs.lemmas.List.Elements.{All-append, All-cons}
use Rattle.std.specs.Prelude.{Option, Some, None, Result, Ok, Err}
use Rattle.dr_types.specs.declared.guest.Guest.{Guest}
use Rattle.dr_types.specs.declared.memory.Memory.{Memory}
use Rattle.dr_types.specs.Ports.{Rose}
use Rattle.dr_history.specs.declared.event.Event.{Event}
use Rattle.dr_history.specs.Legality.{IsLegalSoFar}
use Rattle.dr_history.specs.Times.{times}
use Rattle.dr_schedule_law.proofs.EventBound.{events_bounded}
use Rattle.dr_turns.specs.Due.{advanced}
use Rattle.dr_turns.specs.declared.answers.Advance.{Advance}
use Rattle.dr_turns.specs.declared.answers.RunEnd.{RunEnd}
use Rattle.dr_bench.specs.Bench.{BenchView}
use Rattle.dr_bench.specs.Records.{AdvanceFails}
use Rattle.dr_bench.specs.declared.bench.BenchFault.{BenchFault}
use Rattle.dr_bench.specs.declared.bench.BenchFault.TheVariants as fault
use Rattle.dr_collector.specs.Collected.{Collected}
use Rattle.dr_schedule_law.specs.Schedule.{appends, Follows, CutAtTurn}
use Rattle.dr_schedule_law.specs.Timed.{MayAddTime}
use Rattle.dr_schedule_law.proofs.Scheduled.{follows_still, follows_then, follows_cut, cut_after, advance_follows, any_advance_follows}
use Rattle.dr_schedule_law.proofs.Advances.{advance_more, advance_none}
use Rattle.dr_schedule_law.proofs.Timing.{advance_times}
use Rattle.dr_migrate.specs.Driving.{AddsRead, Continues, GoesOn, HasAdvanced, HasDriven, IsDue, SinkRises, MadeBlock, Waited, is_sink}

-- the advance was made
pub has_advanced : (guest : Guest) (now : ℕ) (old new : List Event) (due : Advance)
    → IsLegalSoFar guest new → due ≡ (advanced guest now old).0 → new ≡ (advanced guest now old).1
    → HasAdvanced guest now due old new
has_advanced guest now old new due legal answer past = record {
  answer = sym answer;
  continues = λ more. record {
    follows = rw past (advance_follows guest now old (ap appends (sym answer) ∙ more));
    more = rw past (advance_more guest now old (ap appends (sym answer) ∙ more));
    few = events_bounded guest new legal;
  };
  waits = λ none. past ∙ advance_none guest now old (ap appends (sym answer) ∙ none);
}

-- nothing came
none_cut : (guest : Guest) (old new : List Event) → new ≡ old → CutAtTurn guest old new
none_cut guest old new same = rw same (follows_cut guest old old (follows_still guest old))

-- the advance failed
pub advance_cut : (guest : Guest) (now : ℕ) (old new : BenchView) (why : BenchFault)
    → AdvanceFails guest now old new why → CutAtTurn guest old.past new.past
advance_cut guest now old new fault.Memory same = none_cut guest old.past new.past (ap (λ (s : BenchView). s.past) same)
advance_cut guest now old new fault.Sink sinks = rw sinks.past
    (follows_cut guest old.past (advanced guest now old.past).1 (any_advance_follows guest now old.past))

pub advance_cut_times : (guest : Guest) (now : ℕ) (old new : BenchView) (why : BenchFault)
    → AdvanceFails guest now old new why → MayAddTime now old.past new.past
advance_cut_times guest now old new fault.Memory same = inl (ap (λ (s : BenchView). times s.past) same)
advance_cut_times guest now old new fault.Sink sinks = rw sinks.past (advance_times guest now old.past)

-- where its put failed the run was given up, and for want of memory it goes on
pub advance_over : (guest : Guest) (now : ℕ) (old new : BenchView) (why : BenchFault) → old.over ≡ false
    → AdvanceFails guest now old new why → new.over ≡ is_sink why
advance_over guest now old new fault.Memory going same = ap (λ (s : BenchView). s.over) same ∙ going
advance_over guest now old new fault.Sink going sinks = sinks.over

-- an advance that appends nothing is still due
pub still_due : (guest : Guest) (now : ℕ) (old new : List Event) (due : Advance)
    → HasAdvanced guest now due old new → appends due ≡ false → IsDue guest new due
still_due guest now old new due it waits = record {
  now = now;
  answer = subst (λ (xs : List Event). (advanced guest now xs).0 ≡ due) (sym (it.waits waits)) it.answer;
}

-- where its put failed, the count of faults has risen
pub advance_rises : (guest : Guest) (now : ℕ) (old new : BenchView) (why : BenchFault)
    → AdvanceFails guest now old new why → SinkRises why old.faults new.faults
advance_rises guest now old new fault.Memory same = tt
advance_rises guest now old new fault.Sink sinks = sinks.risen

-- no time was added
none_read : (reads : ℕ → Type 0) (old new : List Event) → times new ≡ times old → AddsRead reads old new
none_read reads old new same =
    record { added = []; parts = same; read = λ k d lt. absurd (omega (arith, lt)) }

-- one may have been, that the clock reads
pub time_read : (reads : ℕ → Type 0) (now : ℕ) (old new : List Event) → reads now → MayAddTime now old new
    → AddsRead reads old new
time_read reads now old new read (inl same) = none_read reads old new same
time_read reads now old new read (inr more) = record {
  added = now ∷ [];
  parts = more;
  read = All-cons reads now [] read (λ k d lt. absurd (omega (arith, lt)));
}

-- some were, and then some more
times_then : (reads : ℕ → Type 0) (old mid new : List Event) → AddsRead reads old mid → AddsRead reads mid new
    → AddsRead reads old new
times_then reads old mid new before after = record {
  added = after.added ++ before.added;
  parts = after.parts ∙ ap (λ (ts : List ℕ). after.added ++ ts) before.parts
      ∙ sym (append_assoc after.added before.added (times old));
  read = All-append reads after.added before.added after.read before.read;
}

-- .. and then none
pub same_read : (reads : ℕ → Type 0) (old mid new : List Event) → AddsRead reads old mid
    → times new ≡ times mid → AddsRead reads old new
same_read reads old mid new read same = times_then reads old mid new read (none_read reads mid new same)

-- what was waited for was broken off, after an advance that added nothing
pub waited_cut : (guest : Guest) (old mid new : List Event) → mid ≡ old → CutAtTurn guest mid new
    → CutAtTurn guest old new
waited_cut guest old mid new same cut = subst (λ (xs : List Event). CutAtTurn guest xs new) same cut

-- .. it was done
pub waited_block : (guest : Guest) (end : Option RunEnd) (old mid new : List Event) → mid ≡ old
    → IsLegalSoFar guest new → Waited guest (Ok end) mid new → MadeBlock guest (Ok end) old new
waited_block guest None old mid new same legal moves = record {
  follows = subst (λ (xs : List Event). Follows guest xs new) same moves.follows;
  more = subst (λ (xs : List Event). length xs < length new) same moves.more;
  few = events_bounded guest new legal;
}
waited_block guest (Some e) old mid new same legal ends =
    record { here = ends.here ∙ same; end = ends.end }

-- .. and no time was added
pub waited_times : (reads : ℕ → Type 0) (guest : Guest) (result : Result (Option RunEnd) Memory)
    (old mid new : List Event) → AddsRead reads old mid → Waited guest result mid new
    → AddsRead reads old new
waited_times reads guest (Ok None) old mid new read moves = same_read reads old mid new read moves.timeless
waited_times reads guest (Ok (Some e)) old mid new read ends =
    same_read reads old mid new read (ap times ends.here)
waited_times reads guest (Err why) old mid new read breaks =
    same_read reads old mid new read breaks.timeless

-- nothing was done yet
pub drive_begins : (reads : ℕ → Type 0) (guest : Guest) (it : BenchView) (collected : List Collected)
    → GoesOn guest it collected → HasDriven reads guest it it collected
drive_begins reads guest it collected going = record {
  going = going;
  follows = follows_still guest it.past;
  times = none_read reads it.past it.past refl;
  later = omega arith;
}

-- one more block was made
pub drive_continues : (reads : ℕ → Type 0) (guest : Guest) (old mid new : BenchView) (c d : List Collected)
    → HasDriven reads guest old mid c → Continues guest mid.past new.past → GoesOn guest new d
    → AddsRead reads mid.past new.past → mid.faults ≤ new.faults → HasDriven reads guest old new d
drive_continues reads guest old mid new c d driven on going read later = record {
  going = going;
  follows = follows_then guest old.past mid.past new.past driven.follows on.follows;
  times = times_then reads old.past mid.past new.past driven.times read;
  later = omega (arith, driven.later, later);
}

-- it is at its end
pub drive_ends : (reads : ℕ → Type 0) (guest : Guest) (old mid new : BenchView) (c : List Collected)
    → HasDriven reads guest old mid c → new.past ≡ mid.past → Follows guest old.past new.past
drive_ends reads guest old mid new c driven here = rw here driven.follows

-- it is cut off
pub drive_cut : (reads : ℕ → Type 0) (guest : Guest) (old mid new : BenchView) (c : List Collected)
    → HasDriven reads guest old mid c → CutAtTurn guest mid.past new.past
    → CutAtTurn guest old.past new.past
drive_cut reads guest old mid new c driven cut =
    cut_after guest old.past mid.past new.past driven.follows cut

pub drive_times : (reads : ℕ → Type 0) (guest : Guest) (old mid new : BenchView) (c : List Collected)
    → HasDriven reads guest old mid c → AddsRead reads mid.past new.past
    → AddsRead reads old.past new.past
drive_times reads guest old mid new c driven read =
    times_then reads old.past mid.past new.past driven.times read

rose_later : (first before now : ℕ) → first ≤ before → Rose before now → Rose first now
rose_later first before now le rose = omega (arith, le, rose)

pub drive_rises : (reads : ℕ → Type 0) (guest : Guest) (old mid new : BenchView) (c : List Collected)
    (why : BenchFault) → HasDriven reads guest old mid c → SinkRises why mid.faults new.faults
    → SinkRises why old.faults new.faults
drive_rises reads guest old mid new c fault.Memory driven rises = tt
drive_rises reads guest old mid new c fault.Sink driven rises =
    rose_later old.faults mid.faults new.faults driven.later rises
