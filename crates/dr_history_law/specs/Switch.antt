-- What is left to copy once the stop is answered, and what holds at the switch-over.
use Rattle.std.specs.Prelude.{◌≡◌, ◌<◌, ℕ, Bool, true, false, ◌==◌, ◌&&◌, if◌then◌else◌, List, []}
use Rattle.std.specs.Prelude.{◌∷◌}
use Rattle.std.specs.List.{list_any}
use Rattle.dr_types.specs.declared.guest.Guest.{Guest}
use Rattle.dr_types.specs.Pages.{page_count}
use Rattle.dr_history.specs.declared.event.Event.{Event}
use Rattle.dr_history.specs.Lookback.{since}
use Rattle.dr_history.specs.Kinds.{is_synced, is_stopped, is_switched, copies_page}
use Rattle.dr_history.specs.Memory.{memory, destination}
use Rattle.dr_history.specs.Protection.{writable, closing}
use Rattle.dr_history.specs.Dirty.{dirty}
use Rattle.dr_history.specs.Vcpus.{stopped}
use Rattle.dr_history.specs.Rounds.{answered_pages}
use Rattle.dr_history_law.specs.Stop.{last_opens}

-- the guest was stopped, and an answer came since
abbrev pub answered_stop : List Event → Bool
answered_stop past = stopped past && list_any is_synced (since is_stopped past)

-- the page is one of the last answer's, and has no Copied since
abbrev pub is_left : ℕ → List Event → Bool
is_left page [] = false
is_left page (e ∷ earlier) =
    if is_synced e then list_any (λ q. q == page) (answered_pages e)
    else if copies_page page e then false
    else is_left page earlier

-- what holds of a page after the answer that follows the stop
pub record Settled (page : ℕ) (past : List Event) : Type 0 where
  pub protected : writable page past ≡ false
  pub closed : closing page past ≡ false
  pub exact : dirty page past ≡ is_left page past

-- after the answer that follows the stop, no page is writable or closing, and the dirty ones are
-- those left to copy
abbrev pub SettlesAtStop : Guest → List Event → Type 0
SettlesAtStop guest past =
    (page : ℕ) → page < page_count guest → answered_stop past ≡ true → last_opens past ≡ false
    → Settled page past

-- a page of the last answer without its Copied is dirty
abbrev pub LeftIsDirty : List Event → Type 0
LeftIsDirty past = (page : ℕ) → is_left page past ≡ true → dirty page past ≡ true

-- where a Switched came, memory and the destination are the same
abbrev pub SameAtSwitch : Guest → List Event → Type 0
SameAtSwitch guest past = list_any is_switched past ≡ true
    → memory guest past ≡ destination guest past
