use Rattle.std.proofs.Common.{◌<◌, sym, subst}
use Rattle.dr_types.specs.Scripts.{vcpu_count}
use Rattle.dr_log.specs.Views.{LogView}
use Rattle.dr_log.proofs.Within.{entries_within}
use Rattle.dr_log.proofs.log.Log.entry_page.Goals as goal

pub page-requires : goal.page-requires
page-requires c =
    let lt : c.args.v < vcpu_count c.self.inside.guest = subst (λ (s : LogView). c.args.v < vcpu_count s.guest) (sym c.self.view_is) c.requires in
    entries_within c.self.inside.guest c.self.inside.history.past c.self.inside.state c.args.v c.self.invariant.1 lt
