-- What the turn of a vCPU leaves that may execute.
use Rattle.std.proofs.Common.{◌≡◌, ◌≢◌, ℕ, ◌+◌, ◌<◌, ◌≤◌, Bool, true, false, cond, List, Option, Some, None, is_some, refl, sym, subst, arith}
use Rattle.std.specs.Prelude.{◌||◌, Result, Ok, Err, OnOk, OnErr, IfSome}
use Rattle.std.proofs.lemmas.Result.{on_ok_weaker}
use Rattle.dr_types.specs.declared.guest.Guest.{Guest}
use Rattle.dr_types.specs.declared.memory.Memory.{Memory}
use Rattle.dr_types.specs.Scripts.{operation, vcpu_count}
use Rattle.dr_types.specs.Validity.{IsValid}
use Rattle.dr_history.specs.declared.event.Event.{Event}
use Rattle.dr_history.specs.Entries.{used}
use Rattle.dr_history.specs.Execution.{ops}
use Rattle.dr_history.specs.Legality.{IsLegal}
use Rattle.dr_history.specs.Memory.{page_bytes}
use Rattle.dr_history.specs.Protection.{started, writable, cached, closing}
use Rattle.dr_history.specs.Vcpus.{halted, in_guest}
use Rattle.dr_history_law.specs.Room.{unpushed, room}
use Rattle.dr_history_law.proofs.Caches.{cached_page}
use Rattle.dr_history_law.proofs.Room.{room_in_ring}
use Rattle.dr_event_law.proofs.Running.{has_operation}
use Rattle.dr_turns.specs.declared.answers.Turn.{Turn}
use Rattle.dr_turns.specs.Turns.{refusal, after_op}
use Rattle.dr_turns_law.proofs.Buffers.{valid_ring}
use Rattle.dr_turns_law.proofs.Operations.{valid_ends, valid_some}
use Rattle.dr_machine.specs.Views.{MachineView}
use Rattle.dr_machine_law.specs.Turns.{Executes, next_page, WritesLogged}
use Rattle.dr_machine_law.proofs.Executed.{started_after, ops_after, others_after, inside_after}
use Rattle.dr_machine_law.proofs.Legal.{legal_room}
use Rattle.dr_machine_law.proofs.Writing.{bytes_after}
use Rattle.dr_machine_law.proofs.Caching.{cached_after, writable_after}

-- what a machine says of a vCPU's turn
pub record TurnOf (guest : Guest) (v : ℕ) (old new : MachineView) (result : Result Turn Memory) : Type 0 where
  pub vcpu : v < vcpu_count guest
  pub valid : IsValid guest
  pub before : IsLegal guest old.past
  pub after : IsLegal guest new.past
  pub stays : IfSome (refusal guest old.over v old.past) (λ turn. new ≡ old)
  pub appended : Executes guest v old → OnOk result (new.past ≡ after_op guest v old.past)
  pub err : OnErr result (new ≡ old)

always_case : (P : MachineView → Type 0) (past : List Event) (old new : MachineView) (why : Option Turn) (result : Result Turn Memory) → IfSome why (λ turn. new ≡ old) → (why ≡ None → OnOk result (new.past ≡ past)) → OnErr result (new ≡ old) → P old → (new.past ≡ past → P new) → P new
always_case P past old new (Some turn) result stays appended err same then = subst P (sym stays) same
always_case P past old new None (Ok turn) stays appended err same then = then (appended refl)
always_case P past old new None (Err memory) stays appended err same then = subst P (sym err) same

-- what held before, and holds after the turn's events, holds whatever came of the turn
pub always : (P : List Event → Type 0) (guest : Guest) (v : ℕ) (old new : MachineView) (result : Result Turn Memory) → TurnOf guest v old new result → P old.past → P (after_op guest v old.past) → P new.past
always P guest v old new result turn same then =
    always_case (λ (s : MachineView). P s.past) (after_op guest v old.past) old new (refusal guest old.over v old.past) result turn.stays turn.appended turn.err same
    (λ is. subst P (sym is) then)

-- what holds after the turn's events holds where the vCPU has executed
pub executing : (P : List Event → Type 0) (guest : Guest) (v : ℕ) (old new : MachineView) (result : Result Turn Memory) → TurnOf guest v old new result → Executes guest v old → P (after_op guest v old.past) → OnOk result (P new.past)
executing P guest v old new result turn free then = on_ok_weaker result (λ is. subst P (sym is) then) (turn.appended free)

none_case : {X : Type 0} (b : Bool) (t : X) (rest : Option X) → cond b (Some t) rest ≡ None → (b ≡ false) × (rest ≡ None)
none_case true t rest h = cc
none_case false t rest h = (refl, h)

-- a vCPU that executes has an op to go
pub has_op : (guest : Guest) (v : ℕ) (old new : MachineView) (result : Result Turn Memory) → TurnOf guest v old new result → Executes guest v old → is_some (operation guest v (ops v old.past)) ≡ true
has_op guest v old new result turn free =
    let going = none_case (halted v old.past) _ _ (none_case old.over _ _ free).1 in
    has_operation guest old.past v (valid_ends guest turn.valid) (valid_some guest v turn.valid turn.vcpu) turn.before.0 going.0

module _ {guest : Guest} {v : ℕ} {old new : MachineView} {result : Result Turn Memory} (turn : TurnOf guest v old new result) where
  -- Start stands where it stood
  pub op_started : started new.past ≡ started old.past
  op_started = always (λ (xs : List Event). started xs ≡ started old.past) guest v old new result turn refl (started_after guest v old.past)

  -- a vCPU that executes has executed one op more
  pub op_counted : Executes guest v old → OnOk result (ops v new.past ≡ ops v old.past + 1)
  op_counted free = executing (λ (xs : List Event). ops v xs ≡ ops v old.past + 1) guest v old new result turn free (ops_after guest v old.past (has_op guest v old new result turn free))

  -- the others have executed as many as before
  pub op_others : (u : ℕ) → u ≢ v → ops u new.past ≡ ops u old.past
  op_others u ne = always (λ (xs : List Event). ops u xs ≡ ops u old.past) guest v old new result turn refl (others_after guest v u old.past ne)

  -- a vCPU that executes is in the guest
  pub op_inside : Executes guest v old → OnOk result (in_guest v new.past ≡ true)
  op_inside free = executing (λ (xs : List Event). in_guest v xs ≡ true) guest v old new result turn free (inside_after guest v old.past (has_op guest v old new result turn free))

  -- the pages that its next op doesn't write stay as they are
  pub op_bytes : (page : ℕ) → next_page guest v old.past ≢ Some page → page_bytes guest page new.past ≡ page_bytes guest page old.past
  op_bytes page ne =
      always (λ (xs : List Event). page_bytes guest page xs ≡ page_bytes guest page old.past) guest v old new result turn refl (bytes_after guest page v old.past turn.valid ne)

  -- the page that it writes after Start is cached
  pub op_cached : (page : ℕ) → WritesLogged guest v page old → OnOk result (cached v page new.past ≡ true)
  op_cached page writes = executing (λ (xs : List Event). cached v page xs ≡ true) guest v old new result turn writes.executes (cached_after guest v page old.past writes.place writes.begun)

  -- and writable, where it wasn't cached before
  pub op_writable : (page : ℕ) → WritesLogged guest v page old → cached v page old.past ≡ false → OnOk result (writable page new.past ≡ true)
  op_writable page writes uncached =
      executing (λ (xs : List Event). writable page xs ≡ true) guest v old new result turn writes.executes (writable_after guest v page old.past writes.place writes.begun uncached)

  -- and in any case writable, or closing
  pub op_closing : (page : ℕ) → WritesLogged guest v page old → OnOk result ((writable page new.past || closing page new.past) ≡ true)
  op_closing page writes = on_ok_weaker result (λ is. cached_page guest new.past v page turn.after.0 is) (op_cached page writes)

  -- the entries used and those unpushed are no more than the room
  pub op_room : (u : ℕ) → used u new.past + unpushed u new.past ≤ room guest
  op_room u = legal_room guest new.past u turn.after

  -- so the reserve of each ring is free
  pub op_place : (u : ℕ) → used u new.past + unpushed u new.past + guest.settings.reserve ≤ guest.settings.ring
  op_place u =
      let most : used u new.past + unpushed u new.past ≤ room guest = op_room u in
      let fits : room guest + guest.settings.reserve ≤ guest.settings.ring = room_in_ring guest (valid_ring guest turn.valid) in
      omega (arith, most, fits)
