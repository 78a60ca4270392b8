-- The smallest run, by computing.
use Rattle.std.proofs.Common.{◌≡◌, None, refl}
use Rattle.std.specs.Fmt.{digits}
use Rattle.dr_types.specs.Lines.{line_text}
use Rattle.dr_types.specs.Scripts.{operation}
use Rattle.dr_history.specs.Entries.{page_of_entry}
use Rattle.dr_history.specs.Lines.{event_line}
use Rattle.dr_history.specs.Report.{guest_line, round_line, share_line, vcpu_line}
use Rattle.dr_history.specs.Memory.{filled, is_zero}
use Rattle.dr_history.specs.Parts.{header, round_record, page_record, zeros_record, end_record}
use Rattle.dr_history.specs.Rules.{write_follows, names_exist, not_switched, follows_script, reads_memory, op_before_stop, op_not_kicked, op_has_room, op_has_buffer, write_is_cached, opens_protected, fills_writable, pushes_next, exits_with_reason, deposits_pushed, resets_deposited, flush_has_cause, starts_paced, asks_in_turn, answers_covered, answers_dirty, throttles_due, copies_next, stops_when_few, switches_when_copied}
use Rattle.dr_history.specs.Legality.{IsLegal, first_broken}
use Rattle.dr_history_law.proofs.First.{none_is_legal}
use Rattle.dr_history_sample_law.specs.Sample.{held_guest, held}
use Rattle.dr_history_sample_law.specs.Smallest.{halting_guest, halting_run, GuestSays, RunSays, ReportSays, StreamIsLong, HeldReportSays}

pub guest_says : GuestSays
unfolding digits line_text halting_guest
guest_says = refl

pub run_says : RunSays
unfolding digits line_text event_line halting_run
run_says = refl

pub report_says : ReportSays
unfolding digits line_text guest_line round_line share_line vcpu_line halting_guest halting_run
report_says = refl

pub held_report_says : HeldReportSays
unfolding digits line_text guest_line round_line share_line vcpu_line held_guest held
held_report_says = refl

pub stream_is_long : StreamIsLong
unfolding filled is_zero header round_record page_record zeros_record end_record halting_guest halting_run
stream_is_long = refl

none_broken : first_broken halting_guest (halting_run 0) ≡ None
unfolding halting_guest halting_run operation page_of_entry write_follows names_exist not_switched follows_script reads_memory op_before_stop op_not_kicked op_has_room op_has_buffer write_is_cached opens_protected fills_writable pushes_next exits_with_reason deposits_pushed resets_deposited flush_has_cause starts_paced asks_in_turn answers_covered answers_dirty throttles_due copies_next stops_when_few switches_when_copied
none_broken = refl

pub halting_is_legal : IsLegal halting_guest (halting_run 0)
halting_is_legal = (none_is_legal halting_guest (halting_run 0)).0 none_broken
