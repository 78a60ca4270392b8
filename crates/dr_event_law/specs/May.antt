-- What an event needs that comes where the history is at rest.
use Rattle.std.specs.Prelude.{◌≡◌, ◌<◌, ◌≤◌, ℕ, not, true, false, ◌+◌, ◌-◌, max, if◌then◌else◌}
use Rattle.std.specs.Prelude.{List, Some, None}
use Rattle.std.specs.List.{list_any, list_all}
use Rattle.dr_types.specs.declared.guest.Guest.{Guest}
use Rattle.dr_types.specs.declared.guest.Why.{Why}
use Rattle.dr_types.specs.Pages.{page_count}
use Rattle.dr_types.specs.Scripts.{vcpu_count, operation}
use Rattle.dr_types.specs.declared.guest.Op.TheVariants as op
use Rattle.dr_history_law.specs.Length.{script_length}
use Rattle.dr_history.specs.declared.event.Event.{Event}
use Rattle.dr_history.specs.Lookback.{since, before, below}
use Rattle.dr_history.specs.Kinds.{is_switched, is_asked, is_synced, is_stopped}
use Rattle.dr_history.specs.Entries.{opens, pushes, resets, used}
use Rattle.dr_history.specs.Protection.{started, opened_last, cached, closing}
use Rattle.dr_history.specs.Vcpus.{stopped, in_guest, kicked, some_kicked, is_full, all_paced}
use Rattle.dr_history.specs.Vcpus.{exits_for}
use Rattle.dr_history.specs.Rounds.{asks, unanswered, last_synced, round_copied, is_next_copy}
use Rattle.dr_history.specs.Rounds.{is_reset_in, few_answered}
use Rattle.dr_history.specs.Throttles.{throttle_due}
use Rattle.dr_history.specs.Rules.{before_fault, deposits_some, deposits_entry, may_ask, may_end}
use Rattle.dr_history.specs.Rules.{vcpu_of_op, names_exist, writes_page}
use Rattle.dr_history.specs.Legality.{broken}
use Rattle.dr_history.specs.Execution.{is_next_op}
use Rattle.dr_history.specs.declared.event.Event.TheVariants.{Opened, Filled, Synced, Throttled}
use Rattle.dr_history.specs.declared.event.Event.TheVariants.{Switched}

-- the event breaks no rule after these
pub record MayFollow (guest : Guest) (past : List Event) (e : Event) : Type 0 where
  pub kept : broken guest past e ≡ None

-- no write and no throttle is owed, and the guest has not switched
pub record AtRest (guest : Guest) (past : List Event) : Type 0 where
  pub rests : may_end guest past ≡ true
  pub here : list_any is_switched past ≡ false

-- what each operation of a vCPU needs, after whatever event
pub record MayRun (guest : Guest) (past : List Event) (v : ℕ) : Type 0 where
  pub vcpu : v < vcpu_count guest
  pub here : list_any is_switched past ≡ false
  pub running : stopped past ≡ false
  pub unkicked : kicked v past ≡ false
  pub room : is_full guest v past ≡ false
  pub buffer : opens v (before_fault past) - pushes v past < max 1 guest.settings.buffer
  pub due : throttle_due guest past ≡ None

pub record MayOpen (guest : Guest) (past : List Event) (v page : ℕ) : Type 0 where
  pub vcpu : v < vcpu_count guest
  pub within : page < page_count guest
  pub started : started past ≡ true
  pub protected : opened_last page past ≡ false
  pub uncached : cached v page past ≡ false

pub record MayFill (guest : Guest) (past : List Event) (v page : ℕ) : Type 0 where
  pub vcpu : v < vcpu_count guest
  pub within : page < page_count guest
  pub started : started past ≡ true
  pub writable : opened_last page past ≡ true
  pub uncached : cached v page past ≡ false

pub record MayPush (guest : Guest) (past : List Event) (v : ℕ) : Type 0 where
  pub vcpu : v < vcpu_count guest
  pub opened : pushes v past < opens v past
  pub room : used v past < guest.settings.ring

pub record MayExit (guest : Guest) (past : List Event) (v : ℕ) (why : Why) : Type 0 where
  pub vcpu : v < vcpu_count guest
  pub inside : in_guest v past ≡ true
  pub pushed : pushes v past ≡ opens v past
  pub reason : exits_for why guest v past ≡ true

pub record MayDeposit (guest : Guest) (past : List Event) (v from to : ℕ) : Type 0 where
  pub vcpu : v < vcpu_count guest
  pub some : from < to
  pub pushed : to ≤ pushes v past
  pub first : list_any (deposits_some v from to) past ≡ false

pub record MayReset (guest : Guest) (past : List Event) (v : ℕ) : Type 0 where
  pub vcpu : v < vcpu_count guest
  pub deposited : list_any (deposits_entry v (resets v past)) past ≡ true

pub record MayStart (guest : Guest) (past : List Event) : Type 0 where
  pub fresh : started past ≡ false
  pub paced : all_paced guest past past ≡ true

pub record MayAnswer (guest : Guest) (past : List Event) (r : ℕ) : Type 0 where
  pub asked : unanswered past ≡ Some r
  pub out : some_kicked guest past ≡ false
  pub reset : list_all (is_reset_in past) (before is_asked past) ≡ true
  pub flushed : list_any (λ page. closing page past) (below (page_count guest)) ≡ false

pub record MayCopy (guest : Guest) (past : List Event) (r page : ℕ) : Type 0 where
  pub within : page < page_count guest
  pub answered : unanswered past ≡ None
  pub next : is_next_copy guest r page (last_synced past) (since is_synced past) ≡ true

pub record MayStop (guest : Guest) (past : List Event) : Type 0 where
  pub runs : stopped past ≡ false
  pub answered : unanswered past ≡ None
  pub few : few_answered guest (last_synced past) ≡ true

pub record MaySwitch (guest : Guest) (past : List Event) : Type 0 where
  pub stopped : stopped past ≡ true
  pub synced : list_any is_synced (since is_stopped past) ≡ true
  pub answered : unanswered past ≡ None
  pub copied : round_copied guest (last_synced past) (since is_synced past) ≡ true

-- before the stop a round is asked where the one before is copied and each vCPU is paced, after it
-- once
pub record MayAsk (guest : Guest) (past : List Event) : Type 0 where
  pub started : started past ≡ true
  pub answered : unanswered past ≡ None
  pub turn : (if stopped past then not (list_any is_asked (since is_stopped past))
      else may_ask guest (asks past + 1) past) ≡ true

-- each script ends with a Halt
abbrev pub Ends : Guest → Type 0
Ends guest = (v i : ℕ) → i + 1 ≡ script_length guest v → operation guest v i ≡ Some op.Halt

-- no write and no throttle is owed after the event
abbrev pub IsSettled : Event → Type 0
IsSettled (Opened v k page) = ⊥
IsSettled (Filled v page) = ⊥
IsSettled (Synced r at pages) = ⊥
IsSettled (Throttled v us) = ⊥
IsSettled Switched = ⊥
IsSettled e = Unit {0}

-- the event is the vCPU's next operation, and writes the page
pub record WritesNext (guest : Guest) (past : List Event) (v page : ℕ) (e : Event) : Type 0 where
  pub is_of : vcpu_of_op e ≡ Some v
  pub names : names_exist guest past e ≡ true
  pub next : is_next_op guest past e ≡ true
  pub writes : writes_page guest v page e ≡ true
