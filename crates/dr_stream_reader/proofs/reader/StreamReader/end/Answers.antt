use Rattle.std.proofs.Common.{length, ap, sym, subst, ◌∙◌}
use Rattle.std.specs.Prelude.{nat_le}
use Rattle.dr_stream_reader.specs.Reading.{AreBytes}
use Rattle.dr_stream_reader.proofs.Next as next
use Rattle.dr_stream_reader.proofs.reader.StreamReader.end.Goals as goal

pub returns : goal.returns
returns c =
    next.ends c.args.self.now c.args.said c.requires (subst (λ v. AreBytes v.rest) c.self.view_is c.self.invariant.are_bytes)
    (c.if-said-seen.false ∙ ap (λ v. v.standing.records) c.self.view_is) (ap (λ v. nat_le (length v.rest) 8) (sym c.self.view_is) ∙ sym c.is_last.ensures ∙ c.if-not-is_last.false)
