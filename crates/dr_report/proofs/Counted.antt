-- An event of one vCPU changes that vCPU's tally alone.
use Rattle.std.proofs.Common.{◌≡◌, ◌≢◌, ℕ, ◌<◌, Bool, true, false, List, ◌∷◌, map, refl, ap, sym, ◌∙◌}
use Rattle.std.specs.Prelude.{Some, ◌==◌, if◌then◌else◌, slice_set}
use Rattle.std.proofs.lemmas.Bool.{eq-eqb, ne_eqb, true≢false}
use Rattle.dr_types.specs.declared.guest.Why.TheVariants as reason
use Rattle.dr_history.specs.declared.event.Event.{Event}
use Rattle.dr_history.specs.declared.event.Event.TheVariants.{Start, Read, Write, Paint, Local, Halted, Pushed, Exited, Synced, Throttled}
use Rattle.dr_history.specs.Lookback.{below, is_number}
use Rattle.dr_history.specs.Throttles.{begins_span}
use Rattle.dr_report.specs.declared.tally.Tally.{Tally}
use Rattle.dr_report.specs.Tallies.{vcpu_of, counted, tally_of}
use Rattle.dr_report.specs.Draft.{set_tally, tallied}
use Rattle.dr_report.proofs.Tables.{table_get, table_set}

by_test : (b : Bool) (G : Type 0) → (b ≡ true → G) → (b ≡ false → G) → G
by_test true G f g = f refl
by_test false G f g = g refl

-- each tally with an event
pub counted_for : (e : Event) (past : List Event) (w : ℕ) → begins_span e ≡ false
    → tally_of (e ∷ past) w ≡ (if is_number w (vcpu_of e) then counted e (tally_of past w) else tally_of past w)
counted_for (Start at) past w plain = absurd (true≢false plain)
counted_for (Synced r at pages) past w plain = absurd (true≢false plain)
counted_for (Read v i space address value) past w plain = by_test (v == w) _ (λ yes. rw yes refl) (λ no. rw no refl)
counted_for (Write v i space address len value) past w plain = by_test (v == w) _ (λ yes. rw yes refl) (λ no. rw no refl)
counted_for (Paint v i page byte) past w plain = by_test (v == w) _ (λ yes. rw yes refl) (λ no. rw no refl)
counted_for (Local v i) past w plain = by_test (v == w) _ (λ yes. rw yes refl) (λ no. rw no refl)
counted_for (Halted v i) past w plain = by_test (v == w) _ (λ yes. rw yes refl) (λ no. rw no refl)
counted_for (Pushed v k) past w plain = by_test (v == w) _ (λ yes. rw yes refl) (λ no. rw no refl)
counted_for (Exited v reason.Halted) past w plain = by_test (v == w) _ (λ yes. rw yes refl) (λ no. rw no refl)
counted_for (Exited v reason.Stopped) past w plain = by_test (v == w) _ (λ yes. rw yes refl) (λ no. rw no refl)
counted_for (Exited v reason.Kicked) past w plain = by_test (v == w) _ (λ yes. rw yes refl) (λ no. rw no refl)
counted_for (Exited v reason.Full) past w plain = by_test (v == w) _ (λ yes. rw yes refl) (λ no. rw no refl)
counted_for (Exited v reason.Yield) past w plain = by_test (v == w) _ (λ yes. rw yes refl) (λ no. rw no refl)
counted_for (Throttled v us) past w plain = by_test (v == w) _ (λ yes. rw yes refl) (λ no. rw no refl)
counted_for e past w plain = refl

own_tally : (e : Event) (past : List Event) (v : ℕ) → begins_span e ≡ false → vcpu_of e ≡ Some v → tally_of (e ∷ past) v ≡ counted e (tally_of past v)
own_tally e past v plain is =
    let yes : is_number v (vcpu_of e) ≡ true = ap (is_number v) is ∙ eq-eqb v v refl in
    counted_for e past v plain ∙ ap (λ b. if b then counted e (tally_of past v) else tally_of past v) yes

other_tally : (e : Event) (past : List Event) (v w : ℕ) → begins_span e ≡ false → vcpu_of e ≡ Some v → w ≢ v → tally_of (e ∷ past) w ≡ tally_of past w
other_tally e past v w plain is other =
    let no : is_number w (vcpu_of e) ≡ false = ap (is_number w) is ∙ ne_eqb v w (λ same. other (sym same)) in
    counted_for e past w plain ∙ ap (λ b. if b then counted e (tally_of past w) else tally_of past w) no

-- the tallies with an event of a vCPU
pub tallied_with : (e : Event) (past : List Event) (n v : ℕ) → begins_span e ≡ false → vcpu_of e ≡ Some v → v < n
    → tallied (vcpu_of e) e (map (tally_of past) (below n)) ≡ map (tally_of (e ∷ past)) (below n)
tallied_with e past n v plain is less =
    let tallies : List Tally = map (tally_of past) (below n) in
    ap (λ o. tallied o e tallies) is
    ∙ ap (λ o. set_tally v e o tallies) (table_get (tally_of past) n v less)
    ∙ ap (λ t. slice_set tallies v t) (sym (own_tally e past v plain is))
    ∙ table_set (tally_of past) (tally_of (e ∷ past)) n v less (λ w other. other_tally e past v w plain is other)
