use Rattle.std.proofs.Common.{◌≡◌, ◌∙◌, sym, refl, subst, slice_get, Some}
use Rattle.std.proofs.lemmas.Result.{err_from_is_err_and}
use Rattle.dr_collector.proofs.AllParts.{note_here, notes_left, note_named, batch_pushed, batch_read, cut_at_once, cut_after, cut_at}
use Rattle.dr_collector.proofs.collector.Collector.harvest_all.Goals as goal

pub returns-in_err-batches-clause-cut_off : goal.returns-in_err-batches-clause-cut_off
returns-in_err-batches-clause-cut_off g c =
    let p = err_from_is_err_and c.from_residual.result c.from_residual.ensures.1 in rw p.1 (cut_at_once _ _ _)

pub harvest_part-requires-clause-of_ring : goal.harvest_part-requires-clause-of_ring
harvest_part-requires-clause-of_ring g c κs within =
    note_named _ _ _ _ c.requires.of_rings (note_here c.args.seen _ c.loop-note.v _ (sym c.in-Some.ensures.steps.0 ∙ c.loop-note.invariant.left))

pub returns-in_err-harvest_part-clause-cut_off : goal.returns-in_err-harvest_part-clause-cut_off
returns-in_err-harvest_part-clause-cut_off g c =
    let p = err_from_is_err_and c.from_residual-in_err-harvest_part.result c.from_residual-in_err-harvest_part.ensures.1 in
    rw p.1 (cut_at _ _ _ _ _ _ _ _ c.loop-note.invariant.are (note_here c.args.seen _ c.loop-note.v _ (sym c.in-Some.ensures.steps.0 ∙ c.loop-note.invariant.left)) c.in_err-harvest_part.ensures.err)

pub returns-in_err-push-clause-cut_off : goal.returns-in_err-push-clause-cut_off
returns-in_err-push-clause-cut_off g c =
    let p = err_from_is_err_and c.from_residual-in_err-push.result c.from_residual-in_err-push.ensures.1 in
    rw p.1 (cut_after _ _ _ _ _ _
    (batch_pushed _ _ _ _ _ _ _ _ _ _ c.in_ok-harvest_part.field-0 c.loop-note.invariant.are (note_here c.args.seen _ c.loop-note.v _ (sym c.in-Some.ensures.steps.0 ∙ c.loop-note.invariant.left)) c.in_ok-harvest_part.ensures.ok refl))

pub loop-note-preserved : goal.loop-note-preserved
loop-note-preserved g c = record {
  are = batch_pushed _ _ _ _ _ _ _ _ _ _ _ c.loop-note.invariant.are (note_here c.args.seen _ c.loop-note.v _ (sym c.in-Some.ensures.steps.0 ∙ c.loop-note.invariant.left)) c.in_ok-harvest_part.ensures.ok c.in_ok-push.ensures.items;
  left = notes_left c.args.seen _ c.loop-note.v _ (sym c.in-Some.ensures.steps.0 ∙ c.loop-note.invariant.left);
}

pub returns-clause-each : goal.returns-clause-each
returns-clause-each g c = λ v x at. batch_read _ _ _ _ _ _ _ c.loop-note.invariant.are v x (subst (λ xs. slice_get xs v ≡ Some x) c.from_vec.ensures at)
