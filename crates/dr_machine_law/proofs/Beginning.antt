-- What the first advance leaves.
use Rattle.std.proofs.Common.{◌≡◌, ℕ, ◌<◌, true, false, List, ◌∷◌, Option, Some, None, refl, ap, sym, subst, ◌∙◌}
use Rattle.std.specs.Prelude.{not, nat_le, Result, Ok, Err, IfOk, OnOk, OnErr}
use Rattle.std.proofs.lemmas.Bool.{leb-false, or_parts, not-false, not-true}
use Rattle.std.proofs.lemmas.Result.{IfOk-at_ok, IfOk-weaker}
use Rattle.dr_types.specs.declared.guest.Guest.{Guest}
use Rattle.dr_types.specs.declared.memory.Memory.{Memory}
use Rattle.dr_types.specs.Scripts.{vcpu_count}
use Rattle.dr_history.specs.declared.event.Event.{Event}
use Rattle.dr_history.specs.declared.event.Event.TheVariants.{Start}
use Rattle.dr_history.specs.Dirty.{dirty}
use Rattle.dr_history.specs.Execution.{ops}
use Rattle.dr_history.specs.Legality.{IsLegal}
use Rattle.dr_history.specs.Memory.{page_bytes}
use Rattle.dr_history.specs.Protection.{started, writable}
use Rattle.dr_history.specs.Vcpus.{halted, paced}
use Rattle.dr_state.proofs.Untouched.{untouched}
use Rattle.dr_turns.specs.declared.answers.Advance.{Advance}
use Rattle.dr_turns.specs.declared.answers.Advance.TheVariants.{Started, NotPaced}
use Rattle.dr_turns.specs.Due.{begun, advanced}
use Rattle.dr_turns.specs.Firsts.{first_unpaced}
use Rattle.dr_turns_law.proofs.Found.{first_none, first_some}
use Rattle.dr_machine.specs.Views.{MachineView}
use Rattle.dr_machine_law.specs.Beginning.{IsFirstUnpaced, BeginsOrWaits}

-- what a machine says of the first advance
pub record StartOf (guest : Guest) (now : ℕ) (old new : MachineView) (result : Result Advance Memory) : Type 0 where
  pub fresh : started old.past ≡ false
  pub before : IsLegal guest old.past
  pub answer : IfOk result (λ due. due ≡ (advanced guest now old.past).0)
  pub appended : OnOk result (new.past ≡ (advanced guest now old.past).1)
  pub err : OnErr result (new ≡ old)

-- before Start the advance that is due is the first
pub no_deposits : (guest : Guest) (now : ℕ) (past : List Event) → started past ≡ false → advanced guest now past ≡ begun now past (first_unpaced guest past past)
unfolding advanced
no_deposits guest now past fresh = rw fresh refl

unpaced_at : (guest : Guest) (past : List Event) (v : ℕ) → first_unpaced guest past past ≡ Some v → IsFirstUnpaced guest past v (ops v past)
unfolding first_unpaced
unpaced_at guest past v is =
    let found = first_some (λ (w : ℕ). not (paced guest w past past)) (vcpu_count guest) v is in
    let parts = or_parts (nat_le guest.settings.pace (ops v past)) (halted v past) (not-true (paced guest v past past) found.0) in
    record {
      vcpu = found.1;
      done_are = refl;
      runs = parts.1;
      few = leb-false guest.settings.pace (ops v past) parts.0;
      least = λ u lt. not-false (paced guest u past past) (found.2 u lt);
    }

none_unpaced : (guest : Guest) (past : List Event) (v : ℕ) → first_unpaced guest past past ≡ None → v < vcpu_count guest → paced guest v past past ≡ true
unfolding first_unpaced
none_unpaced guest past v is lt =
    not-false (paced guest v past past) (first_none (λ (w : ℕ). not (paced guest w past past)) (vcpu_count guest) is v lt)

begins_case : (guest : Guest) (now : ℕ) (past : List Event) (found : Option ℕ) → first_unpaced guest past past ≡ found → BeginsOrWaits guest past (begun now past found).0
begins_case guest now past None is = λ v lt. none_unpaced guest past v is lt
begins_case guest now past (Some v) is = unpaced_at guest past v is

started_case : (now : ℕ) (past : List Event) (found : Option ℕ) → Started ≡ (begun now past found).0 → (begun now past found).1 ≡ Start now ∷ past
started_case now past None h = refl
started_case now past (Some v) h = cc

waits_case : (now v done : ℕ) (past : List Event) (found : Option ℕ) → NotPaced v done ≡ (begun now past found).0 → (begun now past found).1 ≡ past
waits_case now v done past None h = cc
waits_case now v done past (Some u) h = refl

bytes_case : (guest : Guest) (page now : ℕ) (past : List Event) (found : Option ℕ) → page_bytes guest page (begun now past found).1 ≡ page_bytes guest page past
bytes_case guest page now past None = refl
bytes_case guest page now past (Some v) = refl

either_case : (P : MachineView → Type 0) (old new : MachineView) (past : List Event) (result : Result Advance Memory) → OnOk result (new.past ≡ past) → OnErr result (new ≡ old) → P old → (new.past ≡ past → P new) → P new
either_case P old new past (Ok due) appended err same then = then appended
either_case P old new past (Err memory) appended err same then = subst P (sym err) same

module _ {guest : Guest} {now : ℕ} {old new : MachineView} {result : Result Advance Memory} (start : StartOf guest now old new result) where
  advance_is : advanced guest now old.past ≡ begun now old.past (first_unpaced guest old.past old.past)
  advance_is = no_deposits guest now old.past start.fresh

  answer_is : (due : Advance) → result ≡ Ok due → due ≡ (begun now old.past (first_unpaced guest old.past old.past)).0
  answer_is due is =
      IfOk-at_ok (λ (a : Advance). a ≡ (advanced guest now old.past).0) is start.answer ∙ ap (λ (p : Advance × List Event). p.0) advance_is

  past_is : OnOk result (new.past ≡ (begun now old.past (first_unpaced guest old.past old.past)).1)
  past_is = subst (λ (p : Advance × List Event). OnOk result (new.past ≡ p.1)) advance_is start.appended

  -- either each vCPU is paced, or the least that isn't is named
  pub start_answers : IfOk result (λ due. BeginsOrWaits guest old.past due)
  start_answers =
      IfOk-weaker result (λ (a : Advance). a ≡ (advanced guest now old.past).0) (λ (a : Advance). BeginsOrWaits guest old.past a)
      (λ due is. subst (λ (a : Advance). BeginsOrWaits guest old.past a) (sym (is ∙ ap (λ (p : Advance × List Event). p.0) advance_is)) (begins_case guest now old.past (first_unpaced guest old.past old.past) refl))
      start.answer

  start_past : result ≡ Ok Started → new.past ≡ Start now ∷ old.past
  start_past is =
      IfOk-at_ok (λ (a : Advance). new.past ≡ (begun now old.past (first_unpaced guest old.past old.past)).1) is past_is
      ∙ started_case now old.past (first_unpaced guest old.past old.past) (answer_is Started is)

  -- logging began
  pub start_begun : result ≡ Ok Started → started new.past ≡ true
  start_begun is = rw (start_past is) refl

  -- each page is dirty
  pub start_dirty : result ≡ Ok Started → (page : ℕ) → dirty page new.past ≡ true
  start_dirty is page = rw (start_past is) refl

  -- and protected
  pub start_protected : result ≡ Ok Started → (page : ℕ) → writable page new.past ≡ false
  start_protected is page = rw (start_past is) ((untouched guest old.past start.before.0 start.fresh).unopened page)

  -- where a vCPU isn't paced, nothing is appended
  pub start_waits : (v done : ℕ) → result ≡ Ok (NotPaced v done) → new.past ≡ old.past
  start_waits v done is =
      IfOk-at_ok (λ (a : Advance). new.past ≡ (begun now old.past (first_unpaced guest old.past old.past)).1) is past_is
      ∙ waits_case now v done old.past (first_unpaced guest old.past old.past) (answer_is (NotPaced v done) is)

  -- each page keeps its bytes
  pub start_bytes : (page : ℕ) → page_bytes guest page new.past ≡ page_bytes guest page old.past
  start_bytes page =
      either_case (λ (s : MachineView). page_bytes guest page s.past ≡ page_bytes guest page old.past) old new (begun now old.past (first_unpaced guest old.past old.past)).1 result past_is start.err refl
      (λ same. ap (page_bytes guest page) same ∙ bytes_case guest page now old.past (first_unpaced guest old.past old.past))
