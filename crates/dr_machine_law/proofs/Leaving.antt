-- What an exit of a vCPU leaves.
use Rattle.std.proofs.Common.{◌≡◌, ℕ, ◌-◌, ◌<◌, ◌≤◌, Bool, true, false, List, Option, refl, sym, subst, arith, length}
use Rattle.std.specs.Prelude.{Result, Ok, Err, OnOk, OnErr}
use Rattle.std.proofs.lemmas.Bool.{eq-eqb}
use Rattle.std.proofs.lemmas.Result.{on_ok_weaker}
use Rattle.dr_types.specs.declared.guest.Guest.{Guest}
use Rattle.dr_types.specs.declared.guest.Why.{Why}
use Rattle.dr_types.specs.declared.memory.Memory.{Memory}
use Rattle.dr_history.specs.declared.event.Event.{Event}
use Rattle.dr_history.specs.Entries.{opens, pushes}
use Rattle.dr_history.specs.Execution.{ops}
use Rattle.dr_history.specs.Legality.{IsLegal}
use Rattle.dr_history.specs.Memory.{page_bytes}
use Rattle.dr_history.specs.Protection.{started}
use Rattle.dr_history.specs.Vcpus.{in_guest, kicked}
use Rattle.dr_history_law.specs.Room.{unpushed}
use Rattle.dr_history_law.proofs.Outstanding.{pushed_opened}
use Rattle.dr_ring_set.specs.Seated.{HasAt}
use Rattle.dr_seat_law.specs.Seats.{AreSeats}
use Rattle.dr_seat_law.proofs.Seating.{seat_counts}
use Rattle.dr_turns.specs.Turns.{after_exit}
use Rattle.dr_machine.specs.Views.{MachineView}
use Rattle.dr_machine_law.proofs.Legal.{owes_no_opened}
use Rattle.dr_machine_law.proofs.Outside.{outside_unkicked, outside_empty}
use Rattle.dr_machine_law.proofs.Pushing.{by_pushed}
use Rattle.dr_machine_law.proofs.Seats.{has_seat}

-- what a machine says of a vCPU's exit
pub record ExitOf (guest : Guest) (v : ℕ) (old new : MachineView) (result : Result (Option Why) Memory) : Type 0 where
  pub after : IsLegal guest new.past
  pub seats : AreSeats guest new.past new.seats
  pub within : v < length new.seats
  pub stays : in_guest v old.past ≡ false → new ≡ old
  pub appended : in_guest v old.past ≡ true → OnOk result (new.past ≡ after_exit guest v old.past)
  pub err : OnErr result (new ≡ old)

inside_case : (P : MachineView → Type 0) (past : List Event) (old new : MachineView) (result : Result (Option Why) Memory) → OnOk result (new.past ≡ past) → OnErr result (new ≡ old) → P old → (new.past ≡ past → P new) → P new
inside_case P past old new (Ok why) appended err same then = then appended
inside_case P past old new (Err memory) appended err same then = subst P (sym err) same

always_case : (P : MachineView → Type 0) (past : List Event) (old new : MachineView) (inside : Bool) (result : Result (Option Why) Memory) → (inside ≡ false → new ≡ old) → (inside ≡ true → OnOk result (new.past ≡ past)) → OnErr result (new ≡ old) → P old → (new.past ≡ past → P new) → P new
always_case P past old new false result stays appended err same then = subst P (sym (stays refl)) same
always_case P past old new true result stays appended err same then = inside_case P past old new result (appended refl) err same then

-- what held before, and holds after the exit's events, holds whatever came of the exit
pub always : (P : List Event → Type 0) (guest : Guest) (v : ℕ) (old new : MachineView) (result : Result (Option Why) Memory) → ExitOf guest v old new result → P old.past → P (after_exit guest v old.past) → P new.past
always P guest v old new result exit same then =
    always_case (λ (s : MachineView). P s.past) (after_exit guest v old.past) old new (in_guest v old.past) result exit.stays exit.appended exit.err same
    (λ is. subst P (sym is) then)

ok_holds : (result : Result (Option Why) Memory) (P : Type 0) → P → OnOk result P
ok_holds (Ok why) P h = h
ok_holds (Err memory) P h = tt

-- after its exit the vCPU is outside
out_after : (guest : Guest) (v : ℕ) (past : List Event) → in_guest v (after_exit guest v past) ≡ false
out_after guest v past = rw (eq-eqb v v refl) refl

left_case : (guest : Guest) (v : ℕ) (old new : MachineView) (inside : Bool) (result : Result (Option Why) Memory) → in_guest v old.past ≡ inside → (inside ≡ false → new ≡ old) → (inside ≡ true → OnOk result (new.past ≡ after_exit guest v old.past)) → OnOk result (in_guest v new.past ≡ false)
left_case guest v old new false result is stays appended =
    ok_holds result (in_guest v new.past ≡ false) (subst (λ (s : MachineView). in_guest v s.past ≡ false) (sym (stays refl)) is)
left_case guest v old new true result is stays appended =
    on_ok_weaker result (λ same. subst (λ (xs : List Event). in_guest v xs ≡ false) (sym same) (out_after guest v old.past)) (appended refl)

equal_case : (o p n : ℕ) → o - p ≡ 0 → p ≤ o → n ≡ p → n ≡ o
equal_case o p n a b c = omega arith

module _ {guest : Guest} {v : ℕ} {old new : MachineView} {result : Result (Option Why) Memory} (exit : ExitOf guest v old new result) where
  -- the vCPU is outside the guest
  pub exit_left : OnOk result (in_guest v new.past ≡ false)
  exit_left = left_case guest v old new (in_guest v old.past) result refl exit.stays exit.appended

  -- and not kicked
  pub exit_unkicked : OnOk result (kicked v new.past ≡ false)
  exit_unkicked = on_ok_weaker result (λ out. outside_unkicked v new.past out) exit_left

  -- all that it has opened is pushed
  pub exit_pushed : OnOk result (unpushed v new.past ≡ 0)
  exit_pushed = on_ok_weaker result (λ out. outside_empty guest v new.past exit.after.0 (owes_no_opened guest new.past v exit.after) out) exit_left

  -- by its kernel seat
  pub exit_seat : OnOk result (HasAt new.seats v (λ s. length s.pushed ≡ opens v new.past))
  exit_seat = on_ok_weaker result
      (λ none. has_seat new.seats v (λ s. length s.pushed ≡ opens v new.past) exit.within
      (λ s at. equal_case (opens v new.past) (pushes v new.past) (length s.pushed) none (pushed_opened guest new.past v exit.after.0) (seat_counts guest new.past v s (exit.seats.are v s at))))
      exit_pushed

  -- each vCPU has executed as many ops as before
  pub exit_ops : (u : ℕ) → ops u new.past ≡ ops u old.past
  exit_ops u =
      always (λ (xs : List Event). ops u xs ≡ ops u old.past) guest v old new result exit refl
      (by_pushed (λ (xs : List Event). ops u xs ≡ ops u old.past) v (unpushed v old.past) old.past (λ k xs h. h) refl)

  -- Start stands where it stood
  pub exit_started : started new.past ≡ started old.past
  exit_started =
      always (λ (xs : List Event). started xs ≡ started old.past) guest v old new result exit refl
      (by_pushed (λ (xs : List Event). started xs ≡ started old.past) v (unpushed v old.past) old.past (λ k xs h. h) refl)

  -- and each page keeps its bytes
  pub exit_bytes : (page : ℕ) → page_bytes guest page new.past ≡ page_bytes guest page old.past
  exit_bytes page =
      always (λ (xs : List Event). page_bytes guest page xs ≡ page_bytes guest page old.past) guest v old new result exit refl
      (by_pushed (λ (xs : List Event). page_bytes guest page xs ≡ page_bytes guest page old.past) v (unpushed v old.past) old.past (λ k xs h. h) refl)
