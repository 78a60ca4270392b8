use Rattle.std.proofs.Common.{◌≡◌, ◌++◌}
use Rattle.std.specs.Prelude.{string_bytes, slice_get}
use Rattle.std.specs.List.{flat_map}
use Rattle.dr_history.specs.Lookback.{below}
use Rattle.dr_report.specs.Draft.{vcpu_share}
use Rattle.dr_report.proofs.draft.push_vcpus.Given as goal

abbrev pub invariant-loop-v : goal.invariant-loop-v
invariant-loop-v l =
    string_bytes l.text ≡ string_bytes l.initial.text ++ flat_map (λ v. vcpu_share v (slice_get l.tallies v)) (below l.v)
