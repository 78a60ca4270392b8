use Rattle.std.proofs.Common.{ℕ, List, subst}
use Rattle.dr_loader.specs.Loads.{BytesSay}
use Rattle.dr_loader.proofs.Answering.{ends, load_says, refuses}
use Rattle.dr_loader.proofs.loading.load.Goals as goal

pub returns-in-Ok-clause-says : goal.returns-in-Ok-clause-says
returns-in-Ok-clause-says g c =
    let old = g.O.Outlet.told c.args.out.now in
    let new = g.O.Outlet.told c.load_bytes.new.out in
    load_says c.load_bytes.result.status (g.S.Source.remaining c.args.source.now) c.in-Ok.bytes old new c.in-Ok.ensures.read
    (subst (λ (xs : List ℕ). BytesSay c.load_bytes.result.status xs old new) c.as_slice.ensures c.load_bytes.ensures.says)

pub returns-in-Ok-clause-ends : goal.returns-in-Ok-clause-ends
returns-in-Ok-clause-ends g c bytes told is =
    ends c.load_bytes.result.status (g.S.Source.remaining c.args.source.now) bytes (g.O.Outlet.told c.args.out.now) (g.O.Outlet.told c.load_bytes.new.out)
    (returns-in-Ok-clause-says g c) told is

pub returns-in-Ok-clause-bad : goal.returns-in-Ok-clause-bad
returns-in-Ok-clause-bad g c bytes told is =
    refuses c.load_bytes.result.status (g.S.Source.remaining c.args.source.now) bytes (g.O.Outlet.told c.args.out.now) (g.O.Outlet.told c.load_bytes.new.out)
    (returns-in-Ok-clause-says g c) told is
