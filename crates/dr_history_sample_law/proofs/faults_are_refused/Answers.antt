use Rattle.dr_history_sample_law.proofs.Sample.{early_is_refused, unflushed_is_refused, owing_is_refused}
use Rattle.dr_history_sample_law.proofs.faults_are_refused.Goals as goal

pub returns : goal.returns
returns c = record { early = early_is_refused; unflushed = unflushed_is_refused; owing = owing_is_refused }
