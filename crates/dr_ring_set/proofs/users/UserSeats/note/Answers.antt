use Rattle.std.proofs.Common.{◌∙◌, ap, sym, Some}
use Rattle.dr_ring_set.specs.Seated.{ring_of_user}
use Rattle.dr_ring_set.proofs.Lookups.{pair_at}
use Rattle.dr_ring_set.proofs.users.UserSeats.note.Goals as goal

pub note-requires : goal.note-requires
note-requires g c = (pair_at ring_of_user _ _ _ _ _ _ _ _ c.self.view_is c.self.invariant.0 c.rings.invariant c.requires c.index_mut.ensures.value c.index.ensures).ring

pub returns-clause-note : goal.returns-clause-note
returns-clause-note g c =
    let pair = pair_at ring_of_user _ _ _ _ _ _ _ _ c.self.view_is c.self.invariant.0 c.rings.invariant c.requires c.index_mut.ensures.value c.index.ensures in
    (c.index_mut.result.now, pair.at, c.note.ensures.note)

pub returns-clause-named : goal.returns-clause-named
returns-clause-named g c =
    let pair = pair_at ring_of_user _ _ _ _ _ _ _ _ c.self.view_is c.self.invariant.0 c.rings.invariant c.requires c.index_mut.ensures.value c.index.ensures in
    pair.named ∙ ap (λ n. Some n.ring) (sym c.note.ensures.note)
