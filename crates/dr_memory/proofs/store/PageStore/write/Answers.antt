use Rattle.std.proofs.Common.{◌∙◌, List, ℕ, ap, sym, take}
use Rattle.std.specs.Prelude.{Some}
use Rattle.std.proofs.Math.ListN.{set}
use Rattle.std.specs.Int.{w64, to_le_bytes}
use Rattle.dr_history.specs.Memory.{overwritten}
use Rattle.dr_memory.specs.Stores.{shown, with_bytes}
use Rattle.dr_memory.specs.declared.store.PageStore.TheInside.{Inside}
use Rattle.dr_memory.proofs.Shown.{rewritten, owned, roomless}
use Rattle.dr_memory.proofs.store.PageStore.write.Goals as goal
use Rattle.dr_memory.proofs.store.PageStore.write.Goals.{in-Some, in_default}

pub returns : goal.returns
returns c = elim c.match-index_mut.branch [
  | in-Some w ↦
      ap (λ (it : Inside). shown it.pages.items) w.self-inside-is
      ∙ ap (λ (x : List ℕ). shown (set c.self.inside.pages.items c.args.page (Some x))) w.store.ensures
      ∙ rewritten c.self.inside.pages.items c.args.page _ _ c.index_mut.result.now c.args.self.now
      c.self.view_is (sym c.index_mut.ensures.value ∙ w.in-Some.is)
      ∙ ap (λ (bytes : List ℕ). with_bytes c.args.page (overwritten bytes c.args.at (take c.args.len (to_le_bytes w64 c.args.value))) c.args.self.now)
      (owned c.self.inside.pages.items c.args.page w.in-Some.bytes c.index_mut.result.now c.args.self.now
      c.self.view_is c.requires.page (sym c.index_mut.ensures.value ∙ w.in-Some.is))
  | in_default w ↦ absurd (roomless c.self.inside.pages.items c.args.page c.index_mut.result.now c.args.self.now
      c.self.view_is c.requires.page c.requires.room (sym c.index_mut.ensures.value ∙ w.in_default.is))
]
