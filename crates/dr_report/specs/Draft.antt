-- A report as far as its events were read.
use Rattle.std.specs.Prelude.{◌≡◌, ℕ, Bool, true, ◌-◌, ◌<◌, ◌≤◌, ◌^◌, List, [], ◌∷◌, ◌++◌, map, All}
use Rattle.std.specs.Prelude.{length, codes, Option, Some, None, if◌then◌else◌, slice_get}
use Rattle.std.specs.Prelude.{slice_set}
use Rattle.std.specs.List.{flat_map, list_any}
use Rattle.dr_types.specs.declared.guest.Guest.{Guest}
use Rattle.dr_types.specs.Lines.{line_text}
use Rattle.dr_types.specs.Scripts.{vcpu_count}
use Rattle.dr_history.specs.declared.event.Event.{Event}
use Rattle.dr_history.specs.declared.event.Event.TheVariants.{Start, Synced, Copied, Switched}
use Rattle.dr_history.specs.Lookback.{below}
use Rattle.dr_history.specs.Kinds.{is_synced, is_switched}
use Rattle.dr_history.specs.Throttles.{last_time}
use Rattle.dr_history.specs.Report.{guest_line, vcpu_line}
use Rattle.dr_report.specs.declared.answer.Answer.{Answer}
use Rattle.dr_report.specs.declared.tally.Tally.{Tally}
use Rattle.dr_report.specs.Tallies.{vcpu_of, counted, begun, answered, IsSmall, tally_of}
use Rattle.dr_report.specs.Answers.{new_answer, one_more_copied, last_answer, answer_text}

-- the lines that are complete, the vCPUs' tallies, the last answer, the time of the last answer or
-- the start, and whether the guest switched over
pub record Sheet : Type 0 where
  pub text : List ℕ
  pub tallies : List Tally
  pub answer : Option Answer
  pub time : ℕ
  pub switched : Bool

-- the tallies with an event of the vCPU that has this tally
abbrev pub set_tally : ℕ → Event → Option Tally → List Tally → List Tally
set_tally v e None tallies = tallies
set_tally v e (Some t) tallies = slice_set tallies v (counted e t)

-- the tallies with an event of this vCPU
abbrev pub tallied : Option ℕ → Event → List Tally → List Tally
tallied None e tallies = tallies
tallied (Some v) e tallies = set_tally v e (slice_get tallies v) tallies

-- the sheet with one more event
abbrev pub after : Event → Sheet → Sheet
after (Start at) s = record s { tallies = map begun s.tallies; time = at }
after (Synced r at pages) s = record s {
  text = s.text ++ answer_text s.tallies s.answer;
  tallies = map (answered (at - s.time)) s.tallies;
  answer = Some (new_answer r (length pages) at);
  time = at;
}
after (Copied r page) s = record s { answer = one_more_copied s.answer }
after Switched s = record s { switched = true }
after e s = record s { tallies = tallied (vcpu_of e) e s.tallies }

-- the lines of each answer that another followed
abbrev pub closed_answers : ℕ → List Event → List ℕ
closed_answers vcpus [] = []
closed_answers vcpus (Synced r at pages ∷ earlier) =
    closed_answers vcpus earlier
    ++ answer_text (map (tally_of earlier) (below vcpus)) (last_answer earlier)
closed_answers vcpus (e ∷ earlier) = closed_answers vcpus earlier

-- the sheet of these events
abbrev pub sheet_of : Guest → List Event → Sheet
sheet_of guest past = record {
  text = guest_line guest ++ closed_answers (vcpu_count guest) past;
  tallies = map (tally_of past) (below (vcpu_count guest));
  answer = last_answer past;
  time = last_time past;
  switched = list_any is_switched past;
}

-- a vCPU's line after the answers
abbrev pub vcpu_share : ℕ → Option Tally → List ℕ
vcpu_share v None = []
vcpu_share v (Some t) = vcpu_line v t.ops t.full_exits t.kicked_exits

-- each vCPU's line after the answers
abbrev pub vcpu_lines : List Tally → List ℕ
vcpu_lines tallies = flat_map (λ v. vcpu_share v (slice_get tallies v)) (below (length tallies))

-- the last line
abbrev pub ending : Bool → List ℕ
ending switched =
    if switched then line_text (codes "switched" ∷ []) else line_text (codes "unfinished" ∷ [])

-- the whole report
abbrev pub finished : Sheet → List ℕ
finished s = s.text ++ answer_text s.tallies s.answer ++ vcpu_lines s.tallies ++ ending s.switched

-- what a sheet needs to take an event: its vCPU has a tally, no count is near its last value, and
-- at an answer no tally has more entries than all operations of a guest
pub record CanTake (e : Event) (s : Sheet) : Type 0 where
  pub named : (v : ℕ) → vcpu_of e ≡ Some v → v < length s.tallies
  pub small : All IsSmall s.tallies
  pub few : is_synced e ≡ true → All (λ t. t.entries ≤ 200000) s.tallies
  pub copied : (a : Answer) → s.answer ≡ Some a → a.copied < 2 ^ 63
