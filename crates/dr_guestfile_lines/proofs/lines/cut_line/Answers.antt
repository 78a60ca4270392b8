use Rattle.dr_guestfile_lines.proofs.LineParts.{lines_of-cut, lines_of-last, take_rest}
use Rattle.dr_guestfile_lines.proofs.lines.cut_line.Goals as goal

pub returns-in-Some-clause-lines : goal.returns-in-Some-clause-lines
returns-in-Some-clause-lines c = simp take_rest (lines_of-cut c.args.text.now c.in-Some.at c.in-Some.ensures)

pub returns-in-None-clause-lines : goal.returns-in-None-clause-lines
returns-in-None-clause-lines c = simp take_rest (lines_of-last c.args.text.now c.in-None.ensures c.requires)
