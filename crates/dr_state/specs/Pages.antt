-- What is kept of the pages, so that nobody looks back.
use Rattle.std.specs.Prelude.{◌≡◌, ℕ, ◌*◌, ◌/◌, ◌%◌, ◌<◌, ◌≤◌, Bool, true, false, List, Option}
use Rattle.std.specs.Prelude.{None}
use Rattle.dr_history.specs.declared.event.Event.{Event}
use Rattle.dr_history.specs.declared.event.Event.TheVariants.{Start, Paint, Opened, Filled, Reset}
use Rattle.dr_history.specs.declared.event.Event.TheVariants.{Flushed, Copied}
use Rattle.dr_history.specs.Entries.{page_of_entry}
use Rattle.dr_history.specs.Protection as protection
use Rattle.dr_history.specs.Dirty as log
use Rattle.dr_protect.specs.Permissions.{Permissions, is_writable}
use Rattle.dr_state.specs.Rows.{table}
use Rattle.dr_state.specs.declared.protection_fields.Protection.{Protection}

-- the flags of so many vCPUs and pages, the pages of the first vCPU before those of the second
abbrev pub cached_cell : ℕ → List Event → ℕ → Bool
cached_cell pages past cell = protection.cached (cell / pages) (cell % pages) past

-- each flag is what the events say
pub record AreFlags (n p : ℕ) (past : List Event)
    (writable cached closing dirty : List Bool) : Type 0 where
  pub is_writable : writable ≡ table (λ page. protection.writable page past) p
  pub is_cached : cached ≡ table (cached_cell p past) (n * p)
  pub is_closing : closing ≡ table (λ page. protection.closing page past) p
  pub is_dirty : dirty ≡ table (λ page. log.dirty page past) p

-- what is kept are the flags that the events say
abbrev pub IsProtection : List Event → Protection → Type 0
IsProtection past it =
    AreFlags it.permissions.vcpus it.permissions.pages past
    it.permissions.writable it.permissions.cached it.closing.0 it.dirty

-- no page was opened yet, by no vCPU, and none is cached
pub record IsUntouched (past : List Event) : Type 0 where
  pub unopened : (page : ℕ) → protection.opened_last page past ≡ false
  pub uncached : (v page : ℕ) → protection.cached v page past ≡ false
  pub no_entry : (v k : ℕ) → page_of_entry v k past ≡ None

-- the page of the entry that an event resets
abbrev pub page_reset : Event → List Event → Option ℕ
page_reset (Reset v k) past = page_of_entry v k past
page_reset e past = None

-- the page that an event names is below n
abbrev pub IsPageWithin : ℕ → Event → Type 0
IsPageWithin n (Paint v i page byte) = page < n
IsPageWithin n (Opened v k page) = page < n
IsPageWithin n (Filled v page) = page < n
IsPageWithin n (Copied r page) = page < n
IsPageWithin n e = Unit {0}

-- a page that is filled may be written
abbrev pub FillFits : Event → Permissions → Type 0
FillFits (Filled v page) it = is_writable page it ≡ true
FillFits e it = Unit {0}

-- there is room for the page that a Reset closes
abbrev pub ClosingFits : Event → ℕ → Type 0
ClosingFits (Reset v k) room = 1 ≤ room
ClosingFits e room = Unit {0}

-- as many vCPUs and pages as before
abbrev pub SameSizes : Protection → Protection → Type 0
SameSizes old new =
    (new.permissions.vcpus ≡ old.permissions.vcpus)
    × (new.permissions.pages ≡ old.permissions.pages)

-- no flag shows the event
abbrev pub IsNoProtection : List Event → Event → Type 0
IsNoProtection past (Start at) = ⊥
IsNoProtection past (Opened v k page) = ⊥
IsNoProtection past (Filled v page) = ⊥
IsNoProtection past (Reset v k) = page_of_entry v k past ≡ None
IsNoProtection past Flushed = ⊥
IsNoProtection past (Copied r page) = ⊥
IsNoProtection past e = Unit {0}
