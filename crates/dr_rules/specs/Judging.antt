-- The rules in three groups, in the order in which they are judged after rules 1 and 2.
use Rattle.std.specs.Prelude.{Bool, List, [], ◌∷◌}
use Rattle.dr_types.specs.declared.guest.Guest.{Guest}
use Rattle.dr_history.specs.declared.event.Event.{Event}
use Rattle.dr_history.specs.Rules.{not_switched, follows_script, reads_memory, op_before_stop}
use Rattle.dr_history.specs.Rules.{op_not_kicked, op_has_room, op_has_buffer, write_is_cached}
use Rattle.dr_history.specs.Rules.{opens_protected, fills_writable, pushes_next, exits_with_reason}
use Rattle.dr_history.specs.Rules.{deposits_pushed, resets_deposited, flush_has_cause, starts_paced}
use Rattle.dr_history.specs.Rules.{asks_in_turn, answers_covered, answers_dirty, throttles_due}
use Rattle.dr_history.specs.Rules.{copies_next, stops_when_few, switches_when_copied}

-- rules 3 to 9: what a vCPU executes, and when
abbrev pub execution_rules : Guest → List Event → Event → List Bool
execution_rules guest past e =
    not_switched guest past e ∷
    follows_script guest past e ∷
    reads_memory guest past e ∷
    op_before_stop guest past e ∷
    op_not_kicked guest past e ∷
    op_has_room guest past e ∷
    op_has_buffer guest past e ∷
    []

-- rules 10 to 17: pages and the entries of the rings
abbrev pub ring_rules : Guest → List Event → Event → List Bool
ring_rules guest past e =
    write_is_cached guest past e ∷
    opens_protected guest past e ∷
    fills_writable guest past e ∷
    pushes_next guest past e ∷
    exits_with_reason guest past e ∷
    deposits_pushed guest past e ∷
    resets_deposited guest past e ∷
    flush_has_cause guest past e ∷
    []

-- rules 18 to 25: the migrator's rounds
abbrev pub round_rules : Guest → List Event → Event → List Bool
round_rules guest past e =
    starts_paced guest past e ∷
    asks_in_turn guest past e ∷
    answers_covered guest past e ∷
    answers_dirty guest past e ∷
    throttles_due guest past e ∷
    copies_next guest past e ∷
    stops_when_few guest past e ∷
    switches_when_copied guest past e ∷
    []
