-- A legal history has one answer of a round.
use Rattle.std.proofs.Common.{◌≡◌, ℕ, List, [], ◌∷◌, ◌++◌, sym, ◌∙◌, arith, subst}
use Rattle.std.proofs.lemmas.Bool.{true≢false}
use Rattle.dr_types.specs.declared.guest.Guest.{Guest}
use Rattle.dr_history.specs.declared.event.Event.{Event}
use Rattle.dr_history.specs.declared.event.Event.TheVariants.{Synced}
use Rattle.dr_history.specs.Legality.{IsLegalSoFar}
use Rattle.dr_history.specs.Rounds.{unanswered}
use Rattle.dr_history_law.proofs.Answer.{asked_number}
use Rattle.dr_history_law.proofs.Kept.{syncs_facts}
use Rattle.dr_history_law.proofs.Switch.{number_some}
use Rattle.dr_schedule_law.proofs.Answered.{is_quiet}
use Rattle.dr_schedule_law.proofs.After.{asks_after, none_asked}

-- after the answer of a round comes no other of it
none_after : (guest : Guest) (later : List Event) (r at t : ℕ) (pages others : List ℕ) (earlier : List Event)
    → IsLegalSoFar guest (Synced r t others ∷ (later ++ Synced r at pages ∷ earlier)) → ⊥
none_after guest later r at t pages others earlier legal =
    let past : List Event = later ++ Synced r at pages ∷ earlier in
    let facts = syncs_facts guest past r t others legal.0 in
    let number = asked_number guest past r legal.1 facts.asked in
    let sum = asks_after guest later r at pages earlier legal.1 in
    let none = none_asked later (omega (arith, number, sum)) in
    let quiet = is_quiet guest later r at pages earlier legal.1 none in
    true≢false (sym (number_some r (unanswered past) facts.asked) ∙ quiet.answered)

-- two answers of a round in one legal history have the same pages
pub same_answer : (guest : Guest) (xs ys : List Event) (r at t : ℕ) (pages others : List ℕ)
    (before earlier : List Event)
    → IsLegalSoFar guest (xs ++ Synced r at pages ∷ before)
    → xs ++ Synced r at pages ∷ before ≡ ys ++ Synced r t others ∷ earlier → pages ≡ others
same_answer guest [] [] r at t pages others before earlier legal is = cc
same_answer guest [] (y ∷ ys) r at t pages others before earlier legal is =
    let rest : before ≡ ys ++ Synced r t others ∷ earlier = cc in
    absurd
    (none_after guest ys r t at others pages earlier
    (subst (λ (zs : List Event). IsLegalSoFar guest (Synced r at pages ∷ zs)) rest legal))
same_answer guest (x ∷ xs) [] r at t pages others before earlier legal is =
    let first : x ≡ Synced r t others = cc in
    absurd
    (none_after guest xs r at t pages others before
    (subst (λ (e : Event). IsLegalSoFar guest (e ∷ (xs ++ Synced r at pages ∷ before))) first legal))
same_answer guest (x ∷ xs) (y ∷ ys) r at t pages others before earlier legal is =
    let rest : xs ++ Synced r at pages ∷ before ≡ ys ++ Synced r t others ∷ earlier = cc in
    same_answer guest xs ys r at t pages others before earlier legal.1 rest
