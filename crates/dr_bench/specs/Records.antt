-- What an advance puts, and what it leaves where that fails.
use Rattle.std.specs.Prelude.{◌≡◌, ℕ, ◌+◌, ◌||◌, Bool, true, false, nat_lt, if◌then◌else◌}
use Rattle.std.specs.Prelude.{List, [], ◌∷◌}
use Rattle.dr_types.specs.declared.guest.Guest.{Guest}
use Rattle.dr_types.specs.Pages.{page_count}
use Rattle.dr_types.specs.Ports.{Rose}
use Rattle.dr_history.specs.declared.event.Event.{Event}
use Rattle.dr_history.specs.Memory.{page_bytes}
use Rattle.dr_history.specs.Parts.{Part, Header, Round, Page, Zeros, End}
use Rattle.dr_history.specs.Stream.{written_version}
use Rattle.dr_turns.specs.Due.{advanced}
use Rattle.dr_turns.specs.declared.answers.Advance.{Advance}
use Rattle.dr_turns.specs.declared.answers.Advance.TheVariants as advance
use Rattle.dr_bench.specs.Bench.{BenchView}
use Rattle.dr_bench.specs.declared.bench.BenchFault.{BenchFault}
use Rattle.dr_bench.specs.declared.bench.BenchFault.TheVariants as fault

-- a page was copied, or pages of zeros together
abbrev pub is_copy : Advance → Bool
is_copy (advance.Copied r page) = true
is_copy (advance.Blank r first n) = true
is_copy a = false

-- the guest was stopped
abbrev pub is_stopping : Advance → Bool
is_stopping advance.Stopping = true
is_stopping a = false

-- the advance answers a round whose pages are to be copied
abbrev pub opens_at : Guest → Bool → Advance → Bool
opens_at guest stop (advance.Answered r pages) = nat_lt guest.settings.threshold pages || stop
opens_at guest stop a = false

-- what an advance of this answer puts, with the events after it: `opens` where it opens a round,
-- and `sent` records of pages before
abbrev pub parts_put : Guest → List Event → Advance → Bool → ℕ → List Part
parts_put guest past advance.Started opens sent = Header written_version (page_count guest) ∷ []
parts_put guest past (advance.Answered r n) opens sent = if opens then Round r ∷ [] else []
parts_put guest past (advance.Copied r page) opens sent =
    Page page (page_bytes guest page past) ∷ []
parts_put guest past (advance.Blank r first n) opens sent = Zeros first n ∷ []
parts_put guest past advance.Switched opens sent = End sent ∷ []
parts_put guest past a opens sent = []

-- how many records of pages were put then
abbrev pub records_after : Advance → ℕ → ℕ
records_after a sent = if is_copy a then sent + 1 else sent

-- a put failed: the event stands, the run was given up, and the count of faults has risen
pub record Sinks (guest : Guest) (now : ℕ) (old new : BenchView) : Type 0 where
  pub past : new.past ≡ (advanced guest now old.past).1
  pub failed : new.failed ≡ true
  pub over : new.over ≡ true
  pub risen : Rose old.faults new.faults

-- what an advance leaves that fails
abbrev pub AdvanceFails : Guest → ℕ → BenchView → BenchView → BenchFault → Type 0
AdvanceFails guest now old new fault.Memory = new ≡ old
AdvanceFails guest now old new fault.Sink = Sinks guest now old new
