use Rattle.std.proofs.Common.{◌≡◌, ◌<◌, ◌^◌, None, length, sym, subst}
use Rattle.dr_history.specs.declared.event.Event.TheVariants.{Synced}
use Rattle.dr_history.specs.Legality.{broken}
use Rattle.dr_log.specs.Views.{LogView}
use Rattle.dr_state.proofs.Fits.{can_take}
use Rattle.dr_state.proofs.Valid.{fits_state}
use Rattle.dr_log.proofs.log.Log.answer.Goals as goal

pub take-requires-clause-fits : goal.take-requires-clause-fits
take-requires-clause-fits c =
    let guest = c.self.inside.guest in
    let past = c.self.inside.history.past in
    let e = Synced c.args.r c.args.at c.args.pages in
    let kept : broken guest past e ≡ None = subst (λ (s : LogView). broken s.guest s.past e ≡ None) (sym c.self.view_is) c.requires.follows.kept in
    let few : length past < 2 ^ 63 = subst (λ n. n < 2 ^ 63) c.len-recall_few.ensures.is c.len-recall_few.ensures.few in
    can_take guest past e c.self.inside.state (fits_state guest c.self.invariant.0) c.self.invariant.1 kept few tt tt tt
