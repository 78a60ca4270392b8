use Rattle.std.proofs.Common.{◌≤◌, length, ap, sym, subst, ◌∙◌}
use Rattle.std.specs.Prelude.{◌==◌, ◌&&◌}
use Rattle.dr_types.specs.declared.fault.StreamFault.TheVariants as fault
use Rattle.dr_stream_law.specs.Faults.{number_at}
use Rattle.dr_stream_reader.proofs.Next as next
use Rattle.dr_stream_reader.proofs.reader.StreamReader.peek.Goals as goal

pub returns-else-has_zeros : goal.returns-else-has_zeros
returns-else-has_zeros c =
    next.unknown_kind c.args.self.now c.number_at-kind.result c.number_at-number.result (fault.Kind c.at.result)
    (record {
      long = subst (λ v. 8 ≤ length v.rest) c.self.view_is c.if-self-lt-HEAD_BYTES.false;
      is = ap (λ v. number_at 0 v.rest) (sym c.self.view_is) ∙ sym c.number_at-kind.ensures;
      says = ap (λ v. number_at 4 v.rest) (sym c.self.view_is) ∙ sym c.number_at-number.ensures;
    })
    c.if-kind-eq-ROUND.false c.if-kind-eq-PAGE.false c.if-kind-eq-END.false
    (ap (λ v. c.number_at-kind.result == 4 && v.standing.version == 2) (sym c.self.view_is) ∙ sym c.has_zeros.ensures ∙ c.if-has_zeros.false)
    (ap fault.Kind c.at.ensures)
