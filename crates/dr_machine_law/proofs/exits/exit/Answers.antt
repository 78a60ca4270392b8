use Rattle.std.proofs.Common.{arith}
use Rattle.dr_machine_law.proofs.Leaving.{ExitOf, exit_left, exit_unkicked, exit_pushed, exit_seat, exit_ops, exit_started, exit_bytes}
use Rattle.dr_machine_law.proofs.exits.exit.Goals as goal

pub returns : goal.returns
returns g c =
    let exit : ExitOf g.N.Name.guest c.args.v c.args.machine.now c.exit-why.new.self c.exit-why.result = record {
      after = c.recall_kept.ensures.legal;
      seats = c.recall_kept.ensures.seats;
      within = omega (arith, c.requires, c.recall_kept.ensures.one_each);
      stays = c.exit-why.ensures.stays;
      appended = c.exit-why.ensures.appended;
      err = c.exit-why.ensures.err;
    } in record {
      outside = exit.stays;
      leaves = exit_left exit;
      unkicked = exit_unkicked exit;
      pushed = exit_pushed exit;
      seat = exit_seat exit;
      ops = exit_ops exit;
      started = exit_started exit;
      bytes = exit_bytes exit;
    }
