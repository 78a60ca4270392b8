use Rattle.std.proofs.Common.{◌<◌, sym, subst}
use Rattle.dr_types.specs.Scripts.{vcpu_count}
use Rattle.dr_log.specs.Views.{LogView}
use Rattle.dr_log.proofs.Within.{reader_within}
use Rattle.dr_log.proofs.log.Log.register.Goals as goal

pub register-requires : goal.register-requires
register-requires c =
    let lt : c.args.v < vcpu_count c.self.inside.guest = subst (λ (s : LogView). c.args.v < vcpu_count s.guest) (sym c.self.view_is) c.requires in
    reader_within c.self.inside.guest c.self.inside.history.past c.self.inside.state c.args.v c.self.invariant.1 lt
