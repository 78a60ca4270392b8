use Rattle.std.proofs.Common.{◌≡◌, Some, ap, sym, ◌∙◌, subst}
use Rattle.dr_input.specs.Kept.{text_of}
use Rattle.dr_input.proofs.Kept.{moved}
use Rattle.dr_input.proofs.source.KeptSourceSource.read.Goals as goal

pub returns-in-Bytes-clause-kept : goal.returns-in-Bytes-clause-kept
returns-in-Bytes-clause-kept g c bytes told is all =
    let remaining = g.S.Source.remaining in
    let now = c.keep.new.self in
    let was = subst (λ it. remaining it.source ≡ Some told) (sym c.self.view_is) all in
    let given = c.read-turn.ensures.given c.in-Bytes.n told c.in-Bytes.is was in
    subst (λ it. text_of now.bytes (remaining now.source) ≡ text_of it.bytes (remaining it.source)) c.self.view_is
    (moved c.in-Bytes.n c.self.inside.kept now.bytes (remaining c.self.inside.source) (remaining now.source) told _ bytes
    is was (c.front.ensures ∙ given.1) (ap remaining c.keep.ensures.source ∙ given.2) c.keep.ensures.longer)
