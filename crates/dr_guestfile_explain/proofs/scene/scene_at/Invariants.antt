use Rattle.std.proofs.Common.{length}
use Rattle.dr_guestfile_explain.proofs.scene.scene_at.Given as goal

abbrev pub decreases-lines : goal.decreases-lines
decreases-lines l = length l.input.lines
