use Rattle.std.proofs.Common.{◌≡◌, ◌∙◌, false, Option, List, ℕ, ap, rules}
use Rattle.std.proofs.Math.ListN.{set}
use Rattle.dr_memory.specs.Stores.{has_room, shown}
use Rattle.dr_memory.proofs.Shown.{roomy, given}
use Rattle.dr_memory.proofs.store.PageStore.make_room.Goals as goal

pub returns-in_ok-bytes-clause-ok : goal.returns-in_ok-bytes-clause-ok
returns-in_ok-bytes-clause-ok c =
    let lacks : has_room c.args.page c.args.self.now ≡ false = search (rules, c.has_room.ensures, c.if-not-has_room.true) in
    ap (λ (own : Option (List ℕ)). shown (set c.self.inside.pages.items c.args.page own)) c.give.ensures
    ∙ roomy c.self.inside.pages.items c.args.page c.in_ok-bytes.bytes c.index_mut.result.now c.args.self.now
    c.self.view_is c.requires lacks c.in_ok-bytes.ensures

pub returns-in_ok-bytes-clause-has : goal.returns-in_ok-bytes-clause-has
returns-in_ok-bytes-clause-has c =
    ap (λ (own : Option (List ℕ)). has_room c.args.page (shown (set c.self.inside.pages.items c.args.page own))) c.give.ensures
    ∙ given c.self.inside.pages.items c.args.page c.in_ok-bytes.bytes c.args.self.now c.self.view_is c.requires
