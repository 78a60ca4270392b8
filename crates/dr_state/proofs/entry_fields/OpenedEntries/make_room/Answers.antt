use Rattle.std.proofs.Common.{◌∙◌, ap, List, ℕ}
use Rattle.std.proofs.Math.Seq.{map-set_same}
use Rattle.dr_state.specs.declared.entry_fields.OpenedEntry.{OpenedEntry}
use Rattle.dr_state.proofs.entry_fields.OpenedEntries.make_room.Goals as goal

pub returns-clause-rows : goal.returns-clause-rows
returns-clause-rows c = map-set_same (λ (r : List OpenedEntry × ℕ). r.0) c.args.self.now.rows.items c.args.v c.make_room.new.self c.index_mut.result.now (c.make_room.ensures.items ∙ ap (λ (r : List OpenedEntry × ℕ). r.0) c.index_mut.ensures.value)
