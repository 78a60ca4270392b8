-- Each event is counted for a vCPU or for the migrator.
use Rattle.std.proofs.Common.{◌≡◌, ℕ, ◌+◌, ◌*◌, ◌<◌, ◌≤◌, true, false, List, [], ◌∷◌, length, None, refl, ap, arith}
use Rattle.std.specs.Prelude.{◌==◌}
use Rattle.std.specs.List.{list_any}
use Rattle.std.proofs.lemmas.Bool.{and_parts, ltb-true, false≢true}
use Rattle.dr_types.specs.declared.guest.Guest.{Guest}
use Rattle.dr_types.specs.Pages.{page_count}
use Rattle.dr_types.specs.Scripts.{vcpu_count}
use Rattle.dr_history.specs.declared.event.Event.{Event}
use Rattle.dr_history.specs.declared.event.Event.TheVariants.{Read, Write, Paint, Local, Halted, Opened, Filled, Pushed, Exited, Deposited, Reset, Flushed, Throttled}
use Rattle.dr_history.specs.Lookback.{below}
use Rattle.dr_history.specs.Entries.{pushes, resets}
use Rattle.dr_history.specs.Execution.{ops}
use Rattle.dr_history.specs.Protection.{closing}
use Rattle.dr_history.specs.Rules.{names_exist, write_follows, flush_has_cause, writes_page, last_owes_write}
use Rattle.dr_history.specs.Legality.{IsLegalSoFar, broken}
use Rattle.dr_history_law.specs.Stop.{is_write}
use Rattle.dr_history_law.proofs.Kept.{keeps}
use Rattle.dr_history_law.proofs.Listing.{either}
use Rattle.dr_schedule_law.specs.Counts.{flag, exits, deposits, throttles, vcpu_events, migrator_events, unflushed}
use Rattle.dr_schedule_law.proofs.Sums.{flag_few, count_more, sum_below, sum_rises}

-- the vCPU that the event names is one of the guest's
abbrev NamesVcpu : Guest → Event → Type 0
NamesVcpu guest (Read v i space address value) = v < vcpu_count guest
NamesVcpu guest (Write v i space address len value) = v < vcpu_count guest
NamesVcpu guest (Paint v i page byte) = v < vcpu_count guest
NamesVcpu guest (Local v i) = v < vcpu_count guest
NamesVcpu guest (Halted v i) = v < vcpu_count guest
NamesVcpu guest (Pushed v k) = v < vcpu_count guest
NamesVcpu guest (Exited v why) = v < vcpu_count guest
NamesVcpu guest (Deposited v from to) = v < vcpu_count guest
NamesVcpu guest (Reset v k) = v < vcpu_count guest
NamesVcpu guest (Throttled v us) = v < vcpu_count guest
NamesVcpu guest e = Unit {0}

vcpu_exists : (guest : Guest) (past : List Event) (e : Event) → names_exist guest past e ≡ true
    → NamesVcpu guest e
unfolding names_exist
vcpu_exists guest past (Read v i space address value) h = ltb-true v (vcpu_count guest) (and_parts _ _ h).0
vcpu_exists guest past (Write v i space address len value) h = ltb-true v (vcpu_count guest) (and_parts _ _ h).0
vcpu_exists guest past (Paint v i page byte) h = ltb-true v (vcpu_count guest) (and_parts _ _ h).0
vcpu_exists guest past (Local v i) h = ltb-true v (vcpu_count guest) h
vcpu_exists guest past (Halted v i) h = ltb-true v (vcpu_count guest) h
vcpu_exists guest past (Pushed v k) h = ltb-true v (vcpu_count guest) h
vcpu_exists guest past (Exited v why) h = ltb-true v (vcpu_count guest) h
vcpu_exists guest past (Deposited v from to) h = ltb-true v (vcpu_count guest) h
vcpu_exists guest past (Reset v k) h = ltb-true v (vcpu_count guest) h
vcpu_exists guest past (Throttled v us) h = ltb-true v (vcpu_count guest) h
vcpu_exists guest past e h = tt

named : (guest : Guest) (past : List Event) (e : Event) → broken guest past e ≡ None → NamesVcpu guest e
named guest past e h = vcpu_exists guest past e (keeps guest past e h).names_exist_holds

page_write : (guest : Guest) (v page : ℕ) (e : Event) → writes_page guest v page e ≡ true
    → is_write e ≡ true
page_write guest v page (Write w i space address len value) h = refl
page_write guest v page (Paint w i q byte) h = refl
page_write guest v page e h = absurd (false≢true h)

follows_case : (guest : Guest) (past : List Event) (e : Event) → write_follows guest past e ≡ true
    → is_write e ≡ false → flag (last_owes_write past) ≡ 0
unfolding write_follows
follows_case guest [] e h w = refl
follows_case guest (Opened v k page ∷ past) e h w = let t = page_write guest v page e h in cc
follows_case guest (Filled v page ∷ past) e h w = let t = page_write guest v page e h in cc
follows_case guest (last ∷ past) e h w = refl

-- no write is owed before what is no write
unowed : (guest : Guest) (past : List Event) (e : Event) → broken guest past e ≡ None → is_write e ≡ false
    → flag (last_owes_write past) ≡ 0
unowed guest past e h w = follows_case guest past e (keeps guest past e h).write_follows_holds w

-- a page is closing only where a Reset came after the last Flushed
closing_unflushed : (page : ℕ) (past : List Event) → closing page past ≡ true → unflushed past ≡ true
closing_unflushed page [] h = h
closing_unflushed page (Reset v k ∷ past) h = refl
closing_unflushed page (Flushed ∷ past) h = h
closing_unflushed page (e ∷ past) h = closing_unflushed page past h

-- so a flush comes after a Reset
some_unflushed : (pages : List ℕ) (past : List Event) → list_any (λ page. closing page past) pages ≡ true
    → unflushed past ≡ true
some_unflushed [] past h = absurd (false≢true h)
some_unflushed (page ∷ pages) past h =
    either (closing page past) (list_any (λ q. closing q past) pages) (unflushed past ≡ true)
    (closing_unflushed page past) (some_unflushed pages past) h

flush_after : (guest : Guest) (past : List Event) → broken guest past Flushed ≡ None
    → flag (unflushed past) ≡ 1
unfolding flush_has_cause
flush_after guest past h =
    ap (λ b. flag b)
    (some_unflushed (below (page_count guest)) past (keeps guest past Flushed h).flush_has_cause_holds)

-- the events of all vCPUs
abbrev pub all_events : Guest → List Event → ℕ
all_events guest past = sum_below (vcpu_count guest) (λ v. vcpu_events v past)

-- an event counts for its vCPU
rises : (guest : Guest) (past : List Event) (e : Event) (w d : ℕ) → w < vcpu_count guest
    → ((v : ℕ) → vcpu_events v past + d * flag (w == v) ≤ vcpu_events v (e ∷ past))
    → all_events guest past + d ≤ all_events guest (e ∷ past)
rises guest past e w d lt h =
    sum_rises (vcpu_count guest) w d (λ v. vcpu_events v past) (λ v. vcpu_events v (e ∷ past)) lt h

-- each event is counted, but for an Opened or a Filled at the end; and so is a Flushed that is to come
pub accounted : (guest : Guest) (past : List Event) → IsLegalSoFar guest past
    → length past + flag (unflushed past)
    ≤ all_events guest past + migrator_events past + flag (last_owes_write past)
accounted guest [] legal = omega arith
accounted guest (Read w i space address value ∷ past) legal =
    let counted =
    rises guest past (Read w i space address value) w 2 (named guest past (Read w i space address value) legal.0)
    (λ v. omega (arith, count_more (w == v) (ops v past))) in
    omega (arith, accounted guest past legal.1, flag_few (last_owes_write past), counted)
accounted guest (Write w i space address len value ∷ past) legal =
    let counted =
    rises guest past (Write w i space address len value) w 2
    (named guest past (Write w i space address len value) legal.0)
    (λ v. omega (arith, count_more (w == v) (ops v past))) in
    omega (arith, accounted guest past legal.1, flag_few (last_owes_write past), counted)
accounted guest (Paint w i page byte ∷ past) legal =
    let counted =
    rises guest past (Paint w i page byte) w 2 (named guest past (Paint w i page byte) legal.0)
    (λ v. omega (arith, count_more (w == v) (ops v past))) in
    omega (arith, accounted guest past legal.1, flag_few (last_owes_write past), counted)
accounted guest (Local w i ∷ past) legal =
    let counted =
    rises guest past (Local w i) w 2 (named guest past (Local w i) legal.0)
    (λ v. omega (arith, count_more (w == v) (ops v past))) in
    omega (arith, accounted guest past legal.1, flag_few (last_owes_write past), counted)
accounted guest (Halted w i ∷ past) legal =
    let counted =
    rises guest past (Halted w i) w 2 (named guest past (Halted w i) legal.0)
    (λ v. omega (arith, count_more (w == v) (ops v past))) in
    omega (arith, accounted guest past legal.1, flag_few (last_owes_write past), counted)
accounted guest (Pushed w k ∷ past) legal =
    let counted =
    rises guest past (Pushed w k) w 1 (named guest past (Pushed w k) legal.0)
    (λ v. omega (arith, count_more (w == v) (pushes v past))) in
    omega (arith, accounted guest past legal.1, unowed guest past (Pushed w k) legal.0 refl, counted)
accounted guest (Exited w why ∷ past) legal =
    let counted =
    rises guest past (Exited w why) w 1 (named guest past (Exited w why) legal.0)
    (λ v. omega (arith, count_more (w == v) (exits v past))) in
    omega (arith, accounted guest past legal.1, unowed guest past (Exited w why) legal.0 refl, counted)
accounted guest (Deposited w from to ∷ past) legal =
    let counted =
    rises guest past (Deposited w from to) w 1 (named guest past (Deposited w from to) legal.0)
    (λ v. omega (arith, count_more (w == v) (deposits v past))) in
    omega (
      arith,
      accounted guest past legal.1,
      unowed guest past (Deposited w from to) legal.0 refl,
      counted,
    )
accounted guest (Reset w k ∷ past) legal =
    let counted =
    rises guest past (Reset w k) w 2 (named guest past (Reset w k) legal.0)
    (λ v. omega (arith, count_more (w == v) (resets v past))) in
    omega (arith, accounted guest past legal.1, unowed guest past (Reset w k) legal.0 refl, counted)
accounted guest (Throttled w us ∷ past) legal =
    let counted =
    rises guest past (Throttled w us) w 1 (named guest past (Throttled w us) legal.0)
    (λ v. omega (arith, count_more (w == v) (throttles v past))) in
    omega (arith, accounted guest past legal.1, unowed guest past (Throttled w us) legal.0 refl, counted)
accounted guest (Flushed ∷ past) legal =
    omega (
      arith,
      accounted guest past legal.1,
      unowed guest past Flushed legal.0 refl,
      flush_after guest past legal.0,
    )
accounted guest (e ∷ past) legal =
    omega (arith, accounted guest past legal.1, unowed guest past e legal.0 refl)
