-- The least vCPU of which something holds.
use Rattle.std.proofs.Common.{◌≡◌, ℕ, ◌+◌, ◌<◌, true, false, List, refl, sym}
use Rattle.std.specs.Prelude.{not, nat_lt, Some, None}
use Rattle.dr_types.specs.declared.guest.Guest.{Guest}
use Rattle.dr_types.specs.Scripts.{vcpu_count}
use Rattle.dr_history.specs.declared.event.Event.{Event}
use Rattle.dr_history.specs.Entries.{opens, resets}
use Rattle.dr_history.specs.Kinds.{is_asked}
use Rattle.dr_history.specs.Lookback.{before, since}
use Rattle.dr_history.specs.Vcpus.{paced, kicked}
use Rattle.dr_turns.specs.Firsts.{first_below, first_unpaced, first_kicked, first_unreset}
use Rattle.dr_turns_law.proofs.Firsts.{still_none, first_found}

-- one more that is paced
pub one_more_paced : (guest : Guest) (past : List Event) (v : ℕ) → first_below (λ u. not (paced guest u past past)) v ≡ None → paced guest v past past ≡ true → first_below (λ u. not (paced guest u past past)) (v + 1) ≡ None
one_more_paced guest past v none is = still_none (λ u. not (paced guest u past past)) v none (rw is refl)

-- the first that isn't
pub unpaced_here : (guest : Guest) (past : List Event) (v : ℕ) → first_below (λ u. not (paced guest u past past)) v ≡ None → paced guest v past past ≡ false → v < vcpu_count guest → Some v ≡ first_unpaced guest past past
unfolding first_unpaced
unpaced_here guest past v none is lt = sym (first_found (λ u. not (paced guest u past past)) v (vcpu_count guest) none (rw is refl) lt)

-- none that isn't
pub none_unpaced : (guest : Guest) (past : List Event) (n : ℕ) → n ≡ vcpu_count guest → first_below (λ u. not (paced guest u past past)) n ≡ None → None ≡ first_unpaced guest past past
unfolding first_unpaced
none_unpaced guest past n is none = rw (sym is) (sym none)

-- one more that is paced recently
pub one_more_recent : (guest : Guest) (past : List Event) (v : ℕ) → first_below (λ u. not (paced guest u (since is_asked past) past)) v ≡ None → paced guest v (since is_asked past) past ≡ true → first_below (λ u. not (paced guest u (since is_asked past) past)) (v + 1) ≡ None
one_more_recent guest past v none is = still_none (λ u. not (paced guest u (since is_asked past) past)) v none (rw is refl)

pub unrecent_here : (guest : Guest) (past : List Event) (v : ℕ) → first_below (λ u. not (paced guest u (since is_asked past) past)) v ≡ None → paced guest v (since is_asked past) past ≡ false → v < vcpu_count guest → Some v ≡ first_unpaced guest (since is_asked past) past
unfolding first_unpaced
unrecent_here guest past v none is lt = sym (first_found (λ u. not (paced guest u (since is_asked past) past)) v (vcpu_count guest) none (rw is refl) lt)

pub none_unrecent : (guest : Guest) (past : List Event) (n : ℕ) → n ≡ vcpu_count guest → first_below (λ u. not (paced guest u (since is_asked past) past)) n ≡ None → None ≡ first_unpaced guest (since is_asked past) past
unfolding first_unpaced
none_unrecent guest past n is none = rw (sym is) (sym none)

-- one more that isn't kicked
pub one_more_out : (past : List Event) (v : ℕ) → first_below (λ u. kicked u past) v ≡ None → kicked v past ≡ false → first_below (λ u. kicked u past) (v + 1) ≡ None
one_more_out past v none is = still_none (λ u. kicked u past) v none is

pub kicked_here : (guest : Guest) (past : List Event) (v : ℕ) → first_below (λ u. kicked u past) v ≡ None → kicked v past ≡ true → v < vcpu_count guest → Some v ≡ first_kicked guest past
unfolding first_kicked
kicked_here guest past v none is lt = sym (first_found (λ u. kicked u past) v (vcpu_count guest) none is lt)

pub none_kicked : (guest : Guest) (past : List Event) (n : ℕ) → n ≡ vcpu_count guest → first_below (λ u. kicked u past) n ≡ None → None ≡ first_kicked guest past
unfolding first_kicked
none_kicked guest past n is none = rw (sym is) (sym none)

-- one more of which all is reset
pub one_more_reset : (past : List Event) (v : ℕ) → first_below (λ u. nat_lt (resets u past) (opens u (before is_asked past))) v ≡ None → nat_lt (resets v past) (opens v (before is_asked past)) ≡ false → first_below (λ u. nat_lt (resets u past) (opens u (before is_asked past))) (v + 1) ≡ None
one_more_reset past v none is = still_none (λ u. nat_lt (resets u past) (opens u (before is_asked past))) v none is

pub unreset_here : (guest : Guest) (past : List Event) (v : ℕ) → first_below (λ u. nat_lt (resets u past) (opens u (before is_asked past))) v ≡ None → nat_lt (resets v past) (opens v (before is_asked past)) ≡ true → v < vcpu_count guest → Some v ≡ first_unreset guest past
unfolding first_unreset
unreset_here guest past v none is lt = sym (first_found (λ u. nat_lt (resets u past) (opens u (before is_asked past))) v (vcpu_count guest) none is lt)

pub none_unreset : (guest : Guest) (past : List Event) (n : ℕ) → n ≡ vcpu_count guest → first_below (λ u. nat_lt (resets u past) (opens u (before is_asked past))) n ≡ None → None ≡ first_unreset guest past
unfolding first_unreset
none_unreset guest past n is none = rw (sym is) (sym none)
