use Rattle.std.proofs.Common.{◌<◌, ◌≤◌, length, ap, sym, subst, ◌∙◌, take, drop}
use Rattle.dr_types.specs.declared.fault.StreamFault.TheVariants as fault
use Rattle.dr_stream_reader.specs.Standings.{names_page}
use Rattle.dr_stream_reader.specs.Reading.{AreBytes}
use Rattle.dr_stream_reader.proofs.Next as next
use Rattle.dr_stream_reader.proofs.reader.StreamReader.page.Goals as goal

pub returns-then-not-names_page : goal.returns-then-not-names_page
returns-then-not-names_page c =
    next.page_misplaced c.args.self.now c.args.page c.misplaced.result c.requires
    (ap (λ v. names_page v.standing c.args.page) (sym c.self.view_is) ∙ sym c.names_page.ensures ∙ c.if-not-names_page.true) c.misplaced.ensures

pub returns-then-self-lt-PAGE_RECORD_BYTES : goal.returns-then-self-lt-PAGE_RECORD_BYTES
returns-then-self-lt-PAGE_RECORD_BYTES c =
    next.page_cut c.args.self.now c.args.page c.cut.result c.requires
    (ap (λ v. names_page v.standing c.args.page) (sym c.self.view_is) ∙ sym c.names_page.ensures ∙ c.if-not-names_page.false)
    (subst (λ v. length v.rest < 4104) c.self.view_is c.if-self-lt-PAGE_RECORD_BYTES.true) (c.cut.ensures ∙ ap (λ v. fault.Cut (length v.bytes)) c.self.view_is)

pub returns : goal.returns
returns c =
    next.page_comes c.args.self.now c.args.page c.page_in-bytes.result c.requires (subst (λ v. AreBytes v.rest) c.self.view_is c.self.invariant.are_bytes)
    (ap (λ v. names_page v.standing c.args.page) (sym c.self.view_is) ∙ sym c.names_page.ensures ∙ c.if-not-names_page.false)
    (subst (λ v. 4104 ≤ length v.rest) c.self.view_is c.if-self-lt-PAGE_RECORD_BYTES.false) (c.page_in-bytes.ensures ∙ ap (λ v. take 4096 (drop 8 v.rest)) c.self.view_is)
