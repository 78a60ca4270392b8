use Rattle.dr_machine_law.proofs.Advancing.{AdvanceOf, advance_covers, advance_copies_least, advance_cleans, advance_blanks_least, advance_blanks_zero, advance_cleans_blanks, advance_keeps_memory, advance_keeps_entries, advance_copies_memory}
use Rattle.dr_machine_law.proofs.advances.advance.Goals as goal

pub returns : goal.returns
returns g c =
    let guest = g.N.Name.guest in
    let old = c.args.machine.now in
    let new = c.advance.new.self in
    let before = c.args.into.now in
    let after = c.advance.new.into in
    let result = c.advance.result in
    let due : AdvanceOf guest c.args.now old new before after result = record {
      legal = c.recall_kept.ensures.legal;
      end = c.recall_kept.ensures.end;
      answer = c.advance.ensures.answer;
      appended = c.advance.ensures.appended;
      into = c.advance.ensures.into;
      err = c.advance.ensures.err;
    } in record {
      covers = λ r pages is. advance_covers guest c.args.now old new before after result r pages due is;
      least = λ r page is. advance_copies_least guest c.args.now old new before after result r page due is;
      copied = λ r page is. advance_copies_memory guest c.args.now old new before after result r page due is;
      clean = λ r page is. advance_cleans guest c.args.now old new before after result r page due is;
      first = λ r page n is. advance_blanks_least guest c.args.now old new before after result r page n due is;
      zero = λ r page n k is lt. advance_blanks_zero guest c.args.now old new before after result r page n k due is lt;
      blank_clean = λ r page n k is lt. advance_cleans_blanks guest c.args.now old new before after result r page n k due is lt;
      bytes = λ page. advance_keeps_memory guest c.args.now old new before after result page due;
      entries = advance_keeps_entries guest c.args.now old new before after result due;
    }
