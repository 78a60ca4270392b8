use Rattle.dr_plain.proofs.Reading.{fault_told, fault_took, guest_told}
use Rattle.dr_plain.proofs.input.read_input.Goals as goal

pub returns-in-Ok-clause-read : goal.returns-in-Ok-clause-read
returns-in-Ok-clause-read g c =
    guest_told (g.S.Source.remaining c.args.source.now) _ c.in-Ok.guest c.in_ok-bytes.ensures.read (rw c.as_slice.ensures at c.in-Ok.ensures.value) c.in-Ok.ensures.valid

pub returns-clause-takes : goal.returns-clause-takes
returns-clause-takes g c =
    fault_took c.in-Err.why (g.S.Source.remaining c.args.source.now) (g.S.Source.remaining c.read_whole.new.source) c.status_of.result c.status_of.ensures
    c.in_ok-bytes.ensures.drained

pub returns-clause-refusal : goal.returns-clause-refusal
returns-clause-refusal g c =
    fault_told (g.S.Source.remaining c.args.source.now) (g.S.Source.faults c.args.source.now) (g.S.Source.faults c.read_whole.new.source) _ c.in-Err.why
    c.status_of.result c.status_of.ensures c.in_ok-bytes.ensures.read (λ known. rw c.as_slice.ensures at (c.in-Err.ensures.value known))
