-- What is kept of the rounds.
use Rattle.std.specs.Prelude.{List, Option, Some, None}
use Rattle.std.specs.List.{list_any}
use Rattle.dr_types.specs.declared.guest.Guest.{Guest}
use Rattle.dr_history.specs.declared.event.Event.{Event}
use Rattle.dr_history.specs.Lookback.{since}
use Rattle.dr_history.specs.Kinds.{is_stopped, is_asked, is_synced, is_switched}
use Rattle.dr_history.specs.Protection.{started}
use Rattle.dr_history.specs.Vcpus.{stopped}
use Rattle.dr_history.specs.Rounds.{asks, unanswered, last_synced, answered_round, answered_pages}
use Rattle.dr_history.specs.Rounds.{opens_round}
use Rattle.dr_history_law.specs.Copies.{copies}
use Rattle.dr_state.specs.declared.round_fields.Answer.{Answer}
use Rattle.dr_state.specs.declared.round_fields.Rounds.{Rounds}

-- what is kept of the last answer
abbrev pub answer_of : Guest → Option (Event × List Event) → Option Answer
answer_of guest None = None
answer_of guest (Some synced) = Some (record {
  round = answered_round synced.0;
  opens = opens_round guest synced.0 synced.1;
  pages = answered_pages synced.0;
})

-- what is kept of the rounds
abbrev pub rounds_of : Guest → List Event → Rounds
rounds_of guest past = record {
  threshold = guest.settings.threshold;
  started = started past;
  stopped = stopped past;
  switched = list_any is_switched past;
  asks = asks past;
  unanswered = unanswered past;
  asked_since_stop = list_any is_asked (since is_stopped past);
  synced_since_stop = list_any is_synced (since is_stopped past);
  answer = answer_of guest (last_synced past);
  copies = copies past;
}
