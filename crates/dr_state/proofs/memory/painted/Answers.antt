use Rattle.std.proofs.Common.{◌∙◌, ap, refl}
use Rattle.dr_memory.specs.Stores.{Store}
use Rattle.dr_state.proofs.Stored.{painted}
use Rattle.dr_state.proofs.memory.painted.Goals as goal

pub returns-clause-pages : goal.returns-clause-pages
returns-clause-pages c = λ guest past v i is.
    ap (λ (it : Store). it.pages) c.paint.ensures
    ∙ painted guest past v i c.args.page c.args.byte c.args.store.now.pages _ is c.requires.page refl
