use Rattle.dr_machine_law.proofs.Beginning.{StartOf, start_answers, start_begun, start_dirty, start_protected, start_waits, start_bytes}
use Rattle.dr_machine_law.proofs.starts.start.Goals as goal

pub returns : goal.returns
returns g c =
    let start : StartOf g.N.Name.guest c.args.now c.args.machine.now c.advance.new.self c.advance.result = record {
      fresh = c.requires;
      before = c.recall_kept.ensures.legal;
      answer = c.advance.ensures.answer;
      appended = c.advance.ensures.appended;
      err = c.advance.ensures.err;
    } in record {
      answer = start_answers start;
      begun = start_begun start;
      dirty = start_dirty start;
      protected = start_protected start;
      waits = start_waits start;
      bytes = start_bytes start;
    }
