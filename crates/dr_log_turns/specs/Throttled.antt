-- How long each vCPU was last throttled.
use Rattle.std.specs.Prelude.{◌≡◌, ◌<◌, ℕ, Bool, true, false, not, ◌==◌, ◌&&◌, nat_le}
use Rattle.std.specs.Prelude.{if◌then◌else◌, List, [], ◌∷◌, length, slice_index}
use Rattle.dr_types.specs.declared.guest.Guest.{Guest}
use Rattle.dr_types.specs.Scripts.{vcpu_count}
use Rattle.dr_history.specs.declared.event.Event.{Event}
use Rattle.dr_history.specs.declared.event.Event.TheVariants.{Throttled}
use Rattle.dr_history.specs.Throttles.{throttle}
use Rattle.dr_history.specs.Vcpus.{stopped}
use Rattle.dr_turns.specs.declared.answers.Advance.{Advance}
use Rattle.dr_turns.specs.declared.answers.Advance.TheVariants.{Answered}

-- the microseconds of the vCPU's last Throttled, or 0
abbrev pub last_throttle : ℕ → List Event → ℕ
last_throttle v [] = 0
last_throttle v (Throttled w us ∷ earlier) = if w == v then us else last_throttle v earlier
last_throttle v (e ∷ earlier) = last_throttle v earlier

-- the list has the microseconds of each vCPU's last Throttled
pub record AreThrottles (guest : Guest) (past : List Event) (throttles : List ℕ) : Type 0 where
  pub count : length throttles ≡ vcpu_count guest
  pub each : (v : ℕ) → v < vcpu_count guest → slice_index throttles v ≡ last_throttle v past

-- no vCPU was throttled since
pub record SameThrottles (old new : List Event) : Type 0 where
  pub each : (v : ℕ) → last_throttle v new ≡ last_throttle v old

-- the event throttles no vCPU
abbrev pub IsNoThrottle : Event → Type 0
IsNoThrottle (Throttled v us) = ⊥
IsNoThrottle e = Unit {0}

-- each of the first n vCPUs has what its throttle now is
pub record AreTaken (guest : Guest) (past : List Event) (n : ℕ) (throttles : List ℕ) : Type 0 where
  pub count : length throttles ≡ vcpu_count guest
  pub each : (v : ℕ) → v < n → slice_index throttles v ≡ (throttle guest v past).us

-- a round was answered
abbrev pub is_answer : Advance → Bool
is_answer (Answered r pages) = true
is_answer due = false

-- the advance throttled each vCPU: it answered a round, there is a quota, and the guest runs
abbrev pub throttles_all : Guest → List Event → Advance → Bool
throttles_all guest past due =
    is_answer due && (nat_le 1 guest.settings.quota && not (stopped past))

-- the list after an advance: what each throttle now is where the advance throttled, else what it
-- was
pub record FollowThrottles (guest : Guest) (past : List Event) (due : Advance)
    (old new : List ℕ) : Type 0 where
  pub taken : throttles_all guest past due ≡ true → AreTaken guest past (vcpu_count guest) new
  pub stay : throttles_all guest past due ≡ false → new ≡ old
