use Rattle.std.proofs.Common.{◌≡◌, ◌<◌, ◌^◌, None, length, sym, subst}
use Rattle.dr_history.specs.Legality.{broken}
use Rattle.dr_history_law.proofs.Kept.{keeps}
use Rattle.dr_log.specs.Views.{LogView}
use Rattle.dr_state.proofs.Fits.{named, can_take}
use Rattle.dr_state.proofs.Valid.{fits_state}
use Rattle.dr_log.proofs.log.Log.append.Goals as goal

pub make_room-requires-clause-named : goal.make_room-requires-clause-named
make_room-requires-clause-named c =
    let guest = c.self.inside.guest in
    let past = c.self.inside.history.past in
    let kept : broken guest past c.args.e ≡ None = subst (λ (s : LogView). broken s.guest s.past c.args.e ≡ None) (sym c.self.view_is) c.requires.follows.kept in
    named guest past c.args.e c.self.inside.state c.self.invariant.1 (keeps guest past c.args.e kept).names_exist_holds

pub take-requires-clause-fits : goal.take-requires-clause-fits
take-requires-clause-fits c =
    let guest = c.self.inside.guest in
    let past = c.self.inside.history.past in
    let kept : broken guest past c.args.e ≡ None = subst (λ (s : LogView). broken s.guest s.past c.args.e ≡ None) (sym c.self.view_is) c.requires.follows.kept in
    let few : length past < 2 ^ 63 = subst (λ n. n < 2 ^ 63) c.len-recall_few.ensures.is c.len-recall_few.ensures.few in
    can_take guest past c.args.e c.make_room.new.self (fits_state guest c.self.invariant.0) (c.make_room.ensures.state guest past c.self.invariant.1) kept few c.in_ok-make_room.ensures.entry c.in_ok-make_room.ensures.closing c.in_ok-make_room.ensures.store
