use Rattle.std.proofs.Common.{◌≡◌, drop}
use Rattle.dr_bitmap.specs.Members.{members}
use Rattle.dr_bitmap.proofs.Leasts.{all_from}
use Rattle.dr_history.specs.Rules.{same_numbers}
use Rattle.dr_log.proofs.answers.are_members.Given as goal

abbrev pub invariant-loop-at : goal.invariant-loop-at
invariant-loop-at l =
    same_numbers (drop l.at l.pages) (all_from l.from (members l.set)) ≡ same_numbers l.pages (members l.set)
