-- What the rules say of a few histories, by computing.
use Rattle.std.proofs.Common.{◌≡◌, Some, None, refl}
use Rattle.dr_types.specs.Scripts.{operation}
use Rattle.dr_history.specs.Entries.{page_of_entry}
use Rattle.dr_history.specs.Rules.{write_follows, names_exist, not_switched, follows_script, reads_memory, op_before_stop, op_not_kicked, op_has_room, op_has_buffer, write_is_cached, opens_protected, fills_writable, pushes_next, exits_with_reason, deposits_pushed, resets_deposited, flush_has_cause, starts_paced, asks_in_turn, answers_covered, answers_dirty, throttles_due, copies_next, stops_when_few, switches_when_copied}
use Rattle.dr_history.specs.Legality.{IsLegal, first_broken}
use Rattle.dr_history_sample_law.specs.Sample.{small_guest, logged, stale, switched, reset_early, unflushed, owing, held_guest, held}
use Rattle.dr_history_law.proofs.First.{none_is_legal}

none_broken : first_broken small_guest switched ≡ None
unfolding small_guest logged stale switched reset_early unflushed owing operation page_of_entry write_follows names_exist not_switched follows_script reads_memory op_before_stop op_not_kicked op_has_room op_has_buffer write_is_cached opens_protected fills_writable pushes_next exits_with_reason deposits_pushed resets_deposited flush_has_cause starts_paced asks_in_turn answers_covered answers_dirty throttles_due copies_next stops_when_few switches_when_copied
none_broken = refl

pub switched_is_legal : IsLegal small_guest switched
switched_is_legal = (none_is_legal small_guest switched).0 none_broken

pub early_is_refused : first_broken small_guest reset_early ≡ Some (8, 16)
unfolding small_guest logged stale switched reset_early unflushed owing operation page_of_entry write_follows names_exist not_switched follows_script reads_memory op_before_stop op_not_kicked op_has_room op_has_buffer write_is_cached opens_protected fills_writable pushes_next exits_with_reason deposits_pushed resets_deposited flush_has_cause starts_paced asks_in_turn answers_covered answers_dirty throttles_due copies_next stops_when_few switches_when_copied
early_is_refused = refl

pub unflushed_is_refused : first_broken small_guest unflushed ≡ Some (15, 20)
unfolding small_guest logged stale switched reset_early unflushed owing operation page_of_entry write_follows names_exist not_switched follows_script reads_memory op_before_stop op_not_kicked op_has_room op_has_buffer write_is_cached opens_protected fills_writable pushes_next exits_with_reason deposits_pushed resets_deposited flush_has_cause starts_paced asks_in_turn answers_covered answers_dirty throttles_due copies_next stops_when_few switches_when_copied
unflushed_is_refused = refl

pub owing_is_refused : first_broken small_guest owing ≡ Some (3, 26)
unfolding small_guest logged stale switched reset_early unflushed owing operation page_of_entry write_follows names_exist not_switched follows_script reads_memory op_before_stop op_not_kicked op_has_room op_has_buffer write_is_cached opens_protected fills_writable pushes_next exits_with_reason deposits_pushed resets_deposited flush_has_cause starts_paced asks_in_turn answers_covered answers_dirty throttles_due copies_next stops_when_few switches_when_copied
owing_is_refused = refl

held_unbroken : first_broken held_guest held ≡ None
unfolding held_guest held small_guest logged stale switched reset_early unflushed owing operation page_of_entry write_follows names_exist not_switched follows_script reads_memory op_before_stop op_not_kicked op_has_room op_has_buffer write_is_cached opens_protected fills_writable pushes_next exits_with_reason deposits_pushed resets_deposited flush_has_cause starts_paced asks_in_turn answers_covered answers_dirty throttles_due copies_next stops_when_few switches_when_copied
held_unbroken = refl

pub held_is_legal : IsLegal held_guest held
held_is_legal = (none_is_legal held_guest held).0 held_unbroken
