-- What is counted of each vCPU.
use Rattle.std.specs.Prelude.{◌<◌, ◌^◌, ℕ, ◌+◌, List, [], ◌∷◌, Option, Some, None, if◌then◌else◌}
use Rattle.dr_types.specs.declared.guest.Why.TheVariants as reason
use Rattle.dr_types.specs.Rates.{rate}
use Rattle.dr_history.specs.declared.event.Event.{Event}
use Rattle.dr_history.specs.declared.event.Event.TheVariants.{Read, Write, Paint, Local, Halted}
use Rattle.dr_history.specs.declared.event.Event.TheVariants.{Pushed, Exited, Throttled}
use Rattle.dr_history.specs.Lookback.{count, since}
use Rattle.dr_history.specs.Kinds.{is_op_of, is_pushed_of, is_synced}
use Rattle.dr_history.specs.Throttles.{begins_span, current_rate, time_of}
use Rattle.dr_history.specs.Report.{exits_full, exits_kicked, last_throttled}
use Rattle.dr_report.specs.declared.tally.Tally.{Tally}

-- the vCPU whose tally the event changes
abbrev pub vcpu_of : Event → Option ℕ
vcpu_of (Read v i space address value) = Some v
vcpu_of (Write v i space address len value) = Some v
vcpu_of (Paint v i page byte) = Some v
vcpu_of (Local v i) = Some v
vcpu_of (Halted v i) = Some v
vcpu_of (Pushed v k) = Some v
vcpu_of (Exited v why) = Some v
vcpu_of (Throttled v us) = Some v
vcpu_of e = None

-- the tally of the event's vCPU with the event
abbrev pub counted : Event → Tally → Tally
counted (Read v i space address value) t = record t { ops = t.ops + 1 }
counted (Write v i space address len value) t = record t { ops = t.ops + 1 }
counted (Paint v i page byte) t = record t { ops = t.ops + 1 }
counted (Local v i) t = record t { ops = t.ops + 1 }
counted (Halted v i) t = record t { ops = t.ops + 1 }
counted (Pushed v k) t = record t { entries = t.entries + 1 }
counted (Exited v reason.Full) t = record t { full_exits = t.full_exits + 1 }
counted (Exited v reason.Kicked) t = record t { kicked_exits = t.kicked_exits + 1 }
counted (Throttled v us) t = record t { throttle_us = us }
counted e t = t

-- the tally where a new span of time begins
abbrev pub begun : Tally → Tally
begun t = record t { entries = 0 }

-- the tally at an answer, so long after the last answer or the start
abbrev pub answered : ℕ → Tally → Tally
answered span t =
    record t { answered_entries = t.entries; answered_rate = rate t.entries span; entries = 0 }

-- one more can be counted
pub record IsSmall (t : Tally) : Type 0 where
  pub entries : t.entries < 2 ^ 63
  pub ops : t.ops < 2 ^ 63
  pub full : t.full_exits < 2 ^ 63
  pub kicked : t.kicked_exits < 2 ^ 63

-- the entries of the last answer, or 0 before the first
abbrev pub answered_entries : ℕ → List Event → ℕ
answered_entries v [] = 0
answered_entries v (e ∷ earlier) =
    if is_synced e then count (is_pushed_of v) (since begins_span earlier)
    else answered_entries v earlier

-- the rate of the last answer, or 0 before the first
abbrev pub answered_rate : ℕ → List Event → ℕ
answered_rate v [] = 0
answered_rate v (e ∷ earlier) =
    if is_synced e then current_rate v (time_of e) earlier else answered_rate v earlier

-- what the events say of a vCPU
abbrev pub tally_of : List Event → ℕ → Tally
tally_of past v = record {
  entries = count (is_pushed_of v) (since begins_span past);
  answered_entries = answered_entries v past;
  answered_rate = answered_rate v past;
  throttle_us = last_throttled v past;
  ops = count (is_op_of v) past;
  full_exits = count (exits_full v) past;
  kicked_exits = count (exits_kicked v) past;
}
