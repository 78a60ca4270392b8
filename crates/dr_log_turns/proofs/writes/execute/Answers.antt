use Rattle.std.proofs.Common.{◌≡◌, ◌∙◌, Some, sym, subst}
use Rattle.dr_types.specs.declared.guest.Guest.{Guest}
use Rattle.dr_history.specs.declared.event.Event.{Event}
use Rattle.dr_event_law.specs.May.{WritesNext}
use Rattle.dr_event_law.specs.Operations.{op_page}
use Rattle.dr_turns_law.proofs.Executing.{event_writes}
use Rattle.dr_log_turns.proofs.Rooms.{op_in_range}
use Rattle.dr_log_turns.proofs.writes.execute.Goals as goal

pub op_event-e-requires-clause-fits : goal.op_event-e-requires-clause-fits
op_event-e-requires-clause-fits c =
    op_in_range c.args.log.now.guest c.args.log.now.past c.args.v c.args.op c.requires.turn.valid c.requires.op

pub write-requires-clause-event : goal.write-requires-clause-event
write-requires-clause-event c =
    let log = c.args.log.now in
    let place : op_page log.guest c.args.op ≡ Some c.in-Some.page = subst (λ (g : Guest). op_page g c.args.op ≡ Some c.in-Some.page) c.guest.ensures.is (sym c.written_page.ensures.is ∙ c.in-Some.is) in
    subst (λ (e : Event). WritesNext log.guest log.past c.args.v c.in-Some.page e) (sym c.op_event-e.ensures.is)
    (event_writes log.guest log.past c.args.v c.in-Some.page c.args.op c.requires.turn c.requires.op place)
