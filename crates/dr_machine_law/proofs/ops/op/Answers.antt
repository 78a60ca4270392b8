use Rattle.std.proofs.Common.{subst}
use Rattle.dr_types.specs.Validity.{IsValid}
use Rattle.dr_machine_law.proofs.Operating.{TurnOf, op_started, op_counted, op_others, op_inside, op_bytes, op_cached, op_writable, op_closing, op_room, op_place}
use Rattle.dr_machine_law.proofs.ops.op.Goals as goal

pub returns : goal.returns
returns g c =
    let turn : TurnOf g.N.Name.guest c.args.v c.args.machine.now c.op-turn.new.self c.op-turn.result = record {
      vcpu = c.requires;
      valid = subst IsValid c.guest-recall_guest.ensures.is c.guest-recall_guest.ensures.valid;
      before = c.recall_kept.ensures.legal;
      after = c.recall_kept-2.ensures.legal;
      stays = c.op-turn.ensures.stays;
      appended = c.op-turn.ensures.appended;
      err = c.op-turn.ensures.err;
    } in record {
      started = op_started turn;
      counted = op_counted turn;
      others = op_others turn;
      inside = op_inside turn;
      bytes = op_bytes turn;
      cached = op_cached turn;
      writable = op_writable turn;
      closing = op_closing turn;
      room = op_room turn;
      place = op_place turn;
    }
