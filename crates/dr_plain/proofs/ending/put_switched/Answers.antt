use Rattle.std.proofs.Common.{subst, List}
use Rattle.std.specs.Prelude.{OnErr}
use Rattle.std.proofs.lemmas.Result.{on_err_weaker}
use Rattle.dr_types.specs.declared.guest.Guest.{Guest}
use Rattle.dr_types.specs.declared.port.Port.TheVariants.{Image}
use Rattle.dr_types.specs.Ports.{PutsCut}
use Rattle.dr_history.specs.declared.event.Event.{Event}
use Rattle.dr_history.specs.Memory.{image_of}
use Rattle.dr_plain.specs.Puts.{texts_of}
use Rattle.dr_command_io.proofs.Cuts.{cut_after}
use Rattle.dr_plain.proofs.ending.put_switched.Goals as goal

pub returns-clause-cut : goal.returns-clause-cut
returns-clause-cut g c =
    let guest = g.N.Name.guest in
    let past = c.args.machine.now.past in
    let told = g.O.Outlet.told in
    on_err_weaker c.put_texts.result
    (cut_after Image (image_of guest past) (texts_of guest past) (told c.args.out.now) (told c.put_image.new.out) (told c.put_texts.new.out) c.in_ok-put_image.ensures.done)
    (subst (λ (it : Guest). OnErr c.put_texts.result (PutsCut (texts_of it past) (told c.put_image.new.out) (told c.put_texts.new.out))) c.guest.ensures.is
    (subst (λ (xs : List Event). OnErr c.put_texts.result (PutsCut (texts_of c.guest.result.now xs) (told c.put_image.new.out) (told c.put_texts.new.out))) c.history.ensures.past c.put_texts.ensures.cut))
