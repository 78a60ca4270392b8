use Rattle.std.proofs.Common.{length}
use Rattle.dr_state.proofs.Protects.{started}
use Rattle.dr_state.proofs.protection_fields.Protection.started.Goals as goal

pub returns-clause-state : goal.returns-clause-state
returns-clause-state c = λ past at u h.
    let s = c.args.self.now in
    rw (c.start.ensures, c.set_all.ensures) (started _ _ (length s.dirty) at past _ _ _ _ s.dirty_sized u h)
