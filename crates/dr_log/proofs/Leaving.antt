-- The pages of an answer that are left to copy.
use Rattle.std.proofs.Common.{◌≡◌, ℕ, ◌+◌, ◌<◌, List, drop, length, get_or, ap, sym, subst, ◌∙◌, arith}
use Rattle.std.specs.Prelude.{All, Some}
use Rattle.std.proofs.lemmas.List.{get_or-drop, length-drop}
use Rattle.std.proofs.lemmas.Option.{slice_get-get_or}
use Rattle.dr_types.specs.declared.guest.Guest.{Guest}
use Rattle.dr_types.specs.Pages.{page_count}
use Rattle.dr_history.specs.declared.event.Event.{Event}
use Rattle.dr_history.specs.Legality.{IsLegalSoFar}
use Rattle.dr_history.specs.Rounds.{last_synced}
use Rattle.dr_history_law.specs.Copies.{copies, pages_of}
use Rattle.dr_history_law.proofs.Named.{next_within}
use Rattle.dr_turns.specs.Due.{zeros_from, zeros_to_copy}
use Rattle.dr_state.specs.Whole.{IsStateOf}
use Rattle.dr_state.specs.declared.round_fields.Answer.{Answer}
use Rattle.dr_state.specs.declared.state_fields.State.{State}
use Rattle.dr_log.proofs.Copying.{rest_left}

-- they are the guest's
left_within : (guest : Guest) (past : List Event) (n : ℕ) → IsLegalSoFar guest past → All (λ page. page < page_count guest) (drop n (pages_of (last_synced past)))
left_within guest past n legal =
    let pages = pages_of (last_synced past) in
    λ k d lt.
    let within : n + k < length pages = omega (arith, lt, length-drop n pages) in
    subst (λ (page : ℕ). page < page_count guest) (sym (get_or-drop n pages k d))
    (next_within guest past (n + k) (get_or pages (n + k) d) legal (slice_get-get_or pages (n + k) d within))

-- how many of them are zero
pub zeros_told : (guest : Guest) (past : List Event) (it : State) (a : Answer) (page told : ℕ) (rest : List ℕ) → IsStateOf guest past it → it.rounds.answer ≡ Some a → rest ≡ drop it.rounds.copies a.pages
    → (All (λ q. q < page_count guest) rest → told ≡ zeros_from guest past page rest) → told ≡ zeros_to_copy guest past page
zeros_told guest past it a page told rest h at is tells =
    let left : rest ≡ drop (copies past) (pages_of (last_synced past)) = is ∙ rest_left guest past it.rounds a h.are_rounds at in
    tells (subst (λ (xs : List ℕ). All (λ q. q < page_count guest) xs) (sym left) (left_within guest past (copies past) h.legal))
    ∙ ap (zeros_from guest past page) left
