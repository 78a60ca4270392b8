-- A flush and a reset.
use Rattle.std.proofs.Common.{◌≡◌, ℕ, ◌<◌, true, false, List, ◌∷◌}
use Rattle.std.specs.List.{list_any}
use Rattle.dr_history.specs.Kinds.{is_switched}
use Rattle.dr_types.specs.declared.guest.Guest.{Guest}
use Rattle.dr_types.specs.Scripts.{vcpu_count}
use Rattle.dr_history.specs.declared.event.Event.{Event}
use Rattle.dr_history.specs.declared.event.Event.TheVariants.{Flushed, Reset}
use Rattle.dr_history.specs.Entries.{resets}
use Rattle.dr_history.specs.Legality.{IsLegalSoFar}
use Rattle.dr_event_law.specs.May.{MayFollow}
use Rattle.dr_event_law.proofs.Rest.{settles}
use Rattle.dr_event_law.proofs.Legally.{flushes_legally, resets_legally}
use Rattle.dr_turns_law.proofs.Done.{closing_here, deposit_here}
use Rattle.dr_turns.specs.Between.{AtTurnsEnd}
use Rattle.dr_turns.specs.Due.{some_closing}
use Rattle.dr_turns_law.specs.Deposits.{next_deposited}

pub flush_follows : (guest : Guest) (past : List Event) → IsLegalSoFar guest past → AtTurnsEnd guest past → some_closing guest past ≡ true → MayFollow guest past Flushed
unfolding some_closing
flush_follows guest past legal end h = flushes_legally guest past (record { rests = end.rests; here = closing_here guest past legal h }) h

pub flush_ends : (guest : Guest) (past : List Event) → IsLegalSoFar guest past → AtTurnsEnd guest past → some_closing guest past ≡ true → AtTurnsEnd guest (Flushed ∷ past)
unfolding some_closing
flush_ends guest past legal end h = record { rests = (settles guest past Flushed tt (closing_here guest past legal h)).rests; buffers = end.buffers }

pub reset_follows : (guest : Guest) (past : List Event) (v : ℕ) → v < vcpu_count guest → IsLegalSoFar guest past → AtTurnsEnd guest past → next_deposited v past ≡ true → MayFollow guest past (Reset v (resets v past))
unfolding next_deposited
reset_follows guest past v hv legal end h = resets_legally guest past v (record { rests = end.rests; here = deposit_here guest past v legal h }) (record { vcpu = hv; deposited = h })

pub reset_ends : (guest : Guest) (past : List Event) (v : ℕ) → IsLegalSoFar guest past → AtTurnsEnd guest past → next_deposited v past ≡ true → AtTurnsEnd guest (Reset v (resets v past) ∷ past)
unfolding next_deposited
reset_ends guest past v legal end h = record { rests = (settles guest past (Reset v (resets v past)) tt (deposit_here guest past v legal h)).rests; buffers = end.buffers }

-- once the guest has switched over no page is closing
pub closing_before : (guest : Guest) (past : List Event) → IsLegalSoFar guest past → some_closing guest past ≡ true → list_any is_switched past ≡ false
unfolding some_closing
closing_before guest past legal h = closing_here guest past legal h
