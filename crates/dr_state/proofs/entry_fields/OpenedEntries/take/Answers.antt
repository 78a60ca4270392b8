use Rattle.dr_state.proofs.entry_fields.OpenedEntries.take.Goals as goal

pub returns-in-Opened : goal.returns-in-Opened
returns-in-Opened c = λ n past next h.
    let facts = rw c.in-Opened.is at next in
    rw c.in-Opened.is (c.opened.ensures n c.in-Opened.k past facts.0 facts.1 h)
