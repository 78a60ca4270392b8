-- What is known of the last answer, and the lines of those before it.
use Rattle.std.specs.Prelude.{ℕ, ◌+◌, List, [], ◌∷◌, ◌++◌, length, Option, Some, None, slice_get}
use Rattle.std.specs.List.{flat_map}
use Rattle.dr_history.specs.declared.event.Event.{Event}
use Rattle.dr_history.specs.declared.event.Event.TheVariants.{Synced, Copied}
use Rattle.dr_history.specs.Lookback.{below}
use Rattle.dr_history.specs.Report.{round_line, share_line}
use Rattle.dr_report.specs.declared.answer.Answer.{Answer}
use Rattle.dr_report.specs.declared.tally.Tally.{Tally}

-- an answer of which no page was copied yet
abbrev pub new_answer : ℕ → ℕ → ℕ → Answer
new_answer r dirty at = record { round = r; dirty = dirty; copied = 0; at = at }

-- the answer with one more page copied
abbrev pub one_more_copied : Option Answer → Option Answer
one_more_copied None = None
one_more_copied (Some a) = Some (record a { copied = a.copied + 1 })

-- the last answer, and how many of its pages were copied since
abbrev pub last_answer : List Event → Option Answer
last_answer [] = None
last_answer (Synced r at pages ∷ earlier) = Some (new_answer r (length pages) at)
last_answer (Copied r page ∷ earlier) = one_more_copied (last_answer earlier)
last_answer (e ∷ earlier) = last_answer earlier

-- the first line of an answer
abbrev pub answer_line : Answer → List ℕ
answer_line a = round_line a.round a.dirty a.copied a.at

-- a vCPU's line of an answer, where this is its tally
abbrev pub tally_share : ℕ → Option Tally → List ℕ
tally_share v None = []
tally_share v (Some t) = share_line v t.answered_entries t.answered_rate t.throttle_us

-- each vCPU's line of an answer, where these are their tallies
abbrev pub shares : List Tally → List ℕ
shares tallies = flat_map (λ v. tally_share v (slice_get tallies v)) (below (length tallies))

-- the lines of an answer, where these are the vCPUs' tallies
abbrev pub answer_text : List Tally → Option Answer → List ℕ
answer_text tallies None = []
answer_text tallies (Some a) = answer_line a ++ shares tallies
