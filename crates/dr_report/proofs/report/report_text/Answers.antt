use Rattle.std.proofs.Common.{ap, ◌∙◌}
use Rattle.dr_report.specs.Draft.{finished, sheet_of}
use Rattle.dr_report.proofs.Whole.{finished_is_report}
use Rattle.dr_report.proofs.report.report_text.Goals as goal

pub returns : goal.returns
returns c =
    c.from_string.ensures ∙ c.in_ok-finish.ensures ∙ ap finished c.in_ok-take_all.ensures
    ∙ ap (λ past. finished (sheet_of c.args.guest.now past)) c.events.ensures.past
    ∙ finished_is_report c.args.guest.now c.args.history.now.past c.requires.legal
