-- The promises of a legal history, each by its law.
use Rattle.std.proofs.Common.{◌≡◌, true, List, sym, subst}
use Rattle.std.specs.List.{list_any}
use Rattle.dr_types.specs.declared.guest.Guest.{Guest}
use Rattle.dr_types.specs.Validity.{IsValid}
use Rattle.dr_history.specs.declared.event.Event.{Event}
use Rattle.dr_history.specs.Kinds.{is_switched}
use Rattle.dr_history.specs.Legality.{IsLegalSoFar}
use Rattle.dr_history.specs.Stream.{stream_of, sent_records}
use Rattle.dr_history_law.proofs.Answer.{answers_written}
use Rattle.dr_history_law.proofs.Copies.{answers_exactly}
use Rattle.dr_history_law.proofs.Execution.{executes_in_order, executes_its_script}
use Rattle.dr_history_law.proofs.Order.{resets_follow_harvest}
use Rattle.dr_history_law.proofs.Switch.{same_at_switch}
use Rattle.dr_stream_law.specs.Loading.{IsStream}
use Rattle.dr_stream_law.proofs.Loads.{stream_loads}
use Rattle.dr_headline_law.specs.Headline.{KeepsHeadline, KeepsPromises}
use Rattle.dr_headline_law.proofs.Stop.{keeps_stopped}

-- a history is legal also where it is written in parts
in_parts : (guest : Guest) (past whole : List Event) → past ≡ whole → IsLegalSoFar guest past
    → IsLegalSoFar guest whole
in_parts guest past whole is legal = subst (IsLegalSoFar guest) is legal

-- a legal history keeps the promises
pub promises : (guest : Guest) (past : List Event) → IsLegalSoFar guest past → KeepsPromises guest past
promises guest past legal = record {
  executes = λ v lt. record {
    once = executes_in_order guest past v legal;
    each = λ later e earlier is of.
        executes_its_script guest later e earlier v (in_parts guest past _ is legal) of;
  };
  protects = λ later v k earlier is.
      resets_follow_harvest guest later earlier v k (in_parts guest past _ is legal);
  answers = λ later r at pages earlier is.
      answers_exactly guest later earlier r at pages (in_parts guest past _ is legal);
  covers = λ after r at pages later between write earlier page is.
      answers_written guest after r at pages later between write earlier page
      (in_parts guest past _ is legal);
}

-- a legal history of a valid guest that has switched over keeps the headline
pub headline : (guest : Guest) (past : List Event) → IsValid guest → IsLegalSoFar guest past
    → list_any is_switched past ≡ true → KeepsHeadline guest past
headline guest past valid legal switched =
    let same = same_at_switch guest past legal switched in
    record {
      promises = promises guest past legal;
      stopped = keeps_stopped guest past legal switched;
      same = sym same;
      loads = subst (λ image. IsStream (stream_of guest past) image (sent_records guest past)) (sym same)
          (stream_loads guest past valid legal switched);
    }
