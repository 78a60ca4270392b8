use Rattle.std.proofs.Common.{◌≤◌, length, ap, sym, subst, ◌∙◌}
use Rattle.dr_stream_law.specs.Grammar.{zeros_fit}
use Rattle.dr_stream_law.specs.Faults.{number_at}
use Rattle.dr_stream_reader.specs.Standings.{names_page}
use Rattle.dr_stream_reader.specs.Reading.{AreBytes}
use Rattle.dr_stream_reader.proofs.Next as next
use Rattle.dr_stream_reader.proofs.reader.StreamReader.zeros.Goals as goal

pub returns : goal.returns
returns c =
    next.zeros_come c.args.self.now c.args.first c.number_at-count.result c.requires.head (subst (λ v. AreBytes v.rest) c.self.view_is c.self.invariant.are_bytes) c.requires.version
    (ap (λ v. names_page v.standing c.args.first) (sym c.self.view_is) ∙ sym c.names_page.ensures ∙ c.if-not-names_page.false)
    (subst (λ v. 12 ≤ length v.rest) c.self.view_is c.if-self-lt-ZEROS_BYTES.false)
    (ap (λ v. number_at 8 v.rest) (sym c.self.view_is) ∙ sym c.number_at-count.ensures)
    (ap (λ v. zeros_fit v.standing.pages c.args.first c.number_at-count.result) (sym c.self.view_is) ∙ sym c.zeros_fit.ensures ∙ c.if-not-zeros_fit.false)
