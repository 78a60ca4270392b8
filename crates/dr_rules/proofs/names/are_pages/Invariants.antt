use Rattle.std.proofs.Common.{◌≡◌, take}
use Rattle.std.specs.List.{list_all}
use Rattle.dr_history.specs.Rules.{is_page}
use Rattle.dr_rules.proofs.names.are_pages.Given as goal

abbrev pub invariant-loop-page : goal.invariant-loop-page
invariant-loop-page l = l.all ≡ list_all (is_page l.guest) (take l.page-index l.pages)
