use Rattle.std.proofs.Common.{◌≡◌, ◌++◌}
use Rattle.std.specs.Prelude.{string_bytes, slice_get}
use Rattle.std.specs.List.{flat_map}
use Rattle.dr_history.specs.Lookback.{below}
use Rattle.dr_report.specs.Answers.{tally_share}
use Rattle.dr_report.proofs.answer.push_shares.Given as goal

abbrev pub invariant-loop-v : goal.invariant-loop-v
invariant-loop-v l =
    string_bytes l.text ≡ string_bytes l.initial.text ++ flat_map (λ v. tally_share v (slice_get l.tallies v)) (below l.v)
