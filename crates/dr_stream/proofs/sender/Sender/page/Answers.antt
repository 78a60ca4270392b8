use Rattle.std.proofs.Common.{◌+◌, arith}
use Rattle.std.proofs.lemmas.Grind.{common_steps}
use Rattle.dr_history.specs.Parts.{header, round_record, page_record, zeros_record, end_record}
use Rattle.dr_stream.proofs.Sends.{sent}
use Rattle.dr_stream.proofs.sender.Sender.page.Goals as goal

pub returns : goal.returns
unfolding header round_record page_record zeros_record end_record
returns g c = sent (λ n. n + 1) _ _ _ _ _ _ _ _ _ c.self.view_is (grind (arith, common_steps)) c.put.ensures
