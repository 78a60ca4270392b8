-- What is kept of the throttles.
use Rattle.std.specs.Prelude.{◌≡◌, ℕ, ◌≤◌, List, [], ◌∷◌, Option, All, length}
use Rattle.dr_types.specs.declared.guest.Guest.{Guest}
use Rattle.dr_types.specs.declared.rates.Throttle.{Throttle}
use Rattle.dr_types.specs.Rates.{rate, next_throttle}
use Rattle.dr_types.specs.Scripts.{vcpu_count}
use Rattle.dr_history.specs.declared.event.Event.{Event}
use Rattle.dr_history.specs.declared.event.Event.TheVariants.{Start, Synced, Throttled}
use Rattle.dr_history.specs.Throttles.{throttle, next_throttled, last_time}
use Rattle.dr_state.specs.Rows.{table}
use Rattle.dr_state.specs.declared.vcpus.Vcpu.{Vcpu}
use Rattle.dr_state.specs.declared.throttle_fields.Throttles.{Throttles}

-- each throttle is the formula's over all answers so far, where there is a quota
pub record AreHeld (guest : Guest) (past : List Event)
    (next : Option ℕ) (last : ℕ) (list : List Throttle) : Type 0 where
  pub is_next : next ≡ next_throttled past
  pub is_last : last ≡ last_time past
  pub sized : length list ≡ vcpu_count guest
  pub are_held : 1 ≤ guest.settings.quota
      → list ≡ table (λ v. throttle guest v past) (vcpu_count guest)

-- what is kept are the throttles that the events say
abbrev pub AreThrottles : Guest → List Event → Throttles → Type 0
AreThrottles guest past it = AreHeld guest past it.next it.last it.list.items

-- no throttle is due after the event, and no time is taken there
abbrev pub IsUnheld : Event → Type 0
IsUnheld (Start at) = ⊥
IsUnheld (Synced r at pages) = ⊥
IsUnheld (Throttled v us) = ⊥
IsUnheld e = Unit {0}

-- a vCPU's throttle after an answer
unfoldable pub held_after : ℕ → ℕ → ℕ → Vcpu → Throttle → Throttle
held_after quota us ring row held = next_throttle held quota (rate row.span_pushes us) ring

-- each of the second list changed by the one of the first
abbrev pub each_with : {X Y : Type 0} → (X → Y → Y) → List X → List Y → List Y
each_with f [] ys = ys
each_with f (x ∷ xs) [] = []
each_with f (x ∷ xs) (y ∷ ys) = f x y ∷ each_with f xs ys

-- the entries that a rate is taken of are within their limit
abbrev pub FitsEntries : Vcpu → Type 0
FitsEntries row = row.span_pushes ≤ 200000

-- a throttle is within its limit
abbrev pub FitsSleep : Throttle → Type 0
FitsSleep held = held.us ≤ 25952256000000

-- where an answer sets throttles, the rates and throttles are within their limits
abbrev pub SpanFits : ℕ → Event → List Vcpu → List Throttle → Type 0
SpanFits quota (Synced r at pages) rows list = 1 ≤ quota → All FitsEntries rows × All FitsSleep list
SpanFits quota e rows list = Unit {0}
