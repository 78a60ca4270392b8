use Rattle.std.proofs.Common.{◌∙◌, [], List, ℕ, ap, refl}
use Rattle.std.proofs.lemmas.List.{get_or_default}
use Rattle.dr_memory.specs.Stores.{Store, bytes_of}
use Rattle.dr_state.proofs.Stored.{stored}
use Rattle.dr_state.proofs.memory.stored.Goals as goal

pub returns-clause-pages : goal.returns-clause-pages
returns-clause-pages c = λ guest past v i space addr place offset is.
    let bytes : List ℕ = bytes_of c.args.page c.args.store.now in
    ap (λ (it : Store). it.pages) c.write.ensures
    ∙ stored guest past v i space addr c.args.len c.args.value c.args.page c.args.at c.args.store.now.pages bytes _ is
    c.requires.page (get_or_default c.args.store.now.pages c.args.page [] bytes c.requires.page) place offset refl
