use Rattle.std.proofs.Common.{ap, sym, subst, ◌∙◌}
use Rattle.dr_stream_reader.specs.Standings.{begins_round}
use Rattle.dr_stream_reader.specs.Reading.{AreBytes}
use Rattle.dr_stream_reader.proofs.Next as next
use Rattle.dr_stream_reader.proofs.reader.StreamReader.round.Goals as goal

pub returns-then-not-begins_round : goal.returns-then-not-begins_round
returns-then-not-begins_round c =
    next.round_misplaced c.args.self.now c.args.number c.misplaced.result c.requires
    (ap (λ v. begins_round v.standing c.args.number) (sym c.self.view_is) ∙ sym c.begins_round.ensures ∙ c.if-not-begins_round.true) c.misplaced.ensures

pub returns : goal.returns
returns c =
    next.round_comes c.args.self.now c.args.number c.requires (subst (λ v. AreBytes v.rest) c.self.view_is c.self.invariant.are_bytes)
    (ap (λ v. begins_round v.standing c.args.number) (sym c.self.view_is) ∙ sym c.begins_round.ensures ∙ c.if-not-begins_round.false)
