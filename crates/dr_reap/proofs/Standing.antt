-- Turns that put nothing.
use Rattle.std.proofs.Common.{◌∙◌}
use Rattle.dr_bench.specs.Bench.{BenchView, SameStanding}

-- two turns that put nothing
pub standing_then : (a b c : BenchView) → SameStanding a b → SameStanding b c → SameStanding a c
standing_then a b c x y = record {
  over = y.over ∙ x.over;
  failed = y.failed ∙ x.failed;
  told = y.told ∙ x.told;
  faults = y.faults ∙ x.faults;
}
