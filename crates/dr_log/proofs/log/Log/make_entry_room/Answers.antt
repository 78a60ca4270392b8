use Rattle.std.proofs.Common.{◌<◌, sym, subst}
use Rattle.std.proofs.lemmas.Result.{on_ok_weaker}
use Rattle.dr_types.specs.Scripts.{vcpu_count}
use Rattle.dr_log.specs.Views.{LogView}
use Rattle.dr_log.proofs.Within.{entries_within}
use Rattle.dr_log.proofs.Rooms.{row_has_entry}
use Rattle.dr_log.proofs.log.Log.make_entry_room.Goals as goal

pub make_entry_room-requires : goal.make_entry_room-requires
make_entry_room-requires c =
    let lt : c.args.v < vcpu_count c.self.inside.guest = subst (λ (s : LogView). c.args.v < vcpu_count s.guest) (sym c.self.view_is) c.requires in
    entries_within c.self.inside.guest c.self.inside.history.past c.self.inside.state c.args.v c.self.invariant.1 lt

pub returns-clause-ok : goal.returns-clause-ok
returns-clause-ok c =
    let new = c.make_entry_room.new.self in
    let lt : c.args.v < vcpu_count c.self.inside.guest = subst (λ (s : LogView). c.args.v < vcpu_count s.guest) (sym c.self.view_is) c.requires in
    let within : c.args.v < new.entries.rows.len =
    entries_within c.self.inside.guest c.self.inside.history.past new c.args.v (c.make_entry_room.ensures.state c.self.inside.guest c.self.inside.history.past c.self.invariant.1) lt in
    on_ok_weaker c.make_entry_room.result
    (λ has. row_has_entry c.self.inside.history.spare c.args.v new.protection.closing.1 new.entries.rows.items new.memory has (subst (λ n. c.args.v < n) new.entries.rows.ok.0 within))
    c.make_entry_room.ensures.ok
