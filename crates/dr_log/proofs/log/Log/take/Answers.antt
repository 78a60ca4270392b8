use Rattle.std.proofs.Common.{◌≡◌, ◌<◌, ◌^◌, None, length, sym, subst}
use Rattle.dr_history.specs.Legality.{broken}
use Rattle.dr_log.specs.Views.{LogView}
use Rattle.dr_log.specs.Room.{HasRoomFor, room_of}
use Rattle.dr_log.proofs.Rooms.{opening_fits, closing_fits, store_fits}
use Rattle.dr_state.proofs.Fits.{can_take}
use Rattle.dr_state.proofs.Valid.{fits_state}
use Rattle.dr_log.proofs.log.Log.take.Goals as goal

pub take-requires-clause-fits : goal.take-requires-clause-fits
take-requires-clause-fits c =
    let guest = c.self.inside.guest in
    let past = c.self.inside.history.past in
    let events = c.self.inside.history.spare in
    let rows = c.self.inside.state.entries.rows.items in
    let store = c.self.inside.state.memory in
    let kept : broken guest past c.args.e ≡ None = subst (λ (s : LogView). broken s.guest s.past c.args.e ≡ None) (sym c.self.view_is) c.requires.follows.kept in
    let closing = c.self.inside.state.protection.closing.1 in
    let room : HasRoomFor guest c.args.e (room_of events rows closing store) = subst (λ (s : LogView). HasRoomFor s.guest c.args.e s.room) (sym c.self.view_is) c.requires.room in
    let few : length past < 2 ^ 63 = subst (λ n. n < 2 ^ 63) c.len-recall_few.ensures.is c.len-recall_few.ensures.few in
    can_take guest past c.args.e c.self.inside.state (fits_state guest c.self.invariant.0) c.self.invariant.1 kept few (opening_fits guest c.args.e events closing rows store room) (closing_fits guest c.args.e events closing rows store room) (store_fits guest c.args.e events closing rows store room)
