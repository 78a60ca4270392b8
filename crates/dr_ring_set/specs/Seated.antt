-- What contracts see of rings and seats that are kept by vCPU.
use Rattle.std.specs.Prelude.{◌≡◌, ℕ, ◌≤◌, List, map, length, All, slice_get, slice_set, Some, None}
use Rattle.std.specs.Prelude.{Option, IfSome}
use Rattle.atomic_table.specs.Seated.{TableId}
use Rattle.dr_types.specs.declared.entry.Entry.{Entry}
use Rattle.dr_ring.specs.Seats.{RingView, KernelView, UserView, IsOfSize, new_kernel, new_user}
use Rattle.dr_ring.specs.Seats.{kernel_reset, user_harvested, LoadsNoReset, LoadsNoDirty}

-- a set of new rings, in the order of the vCPUs, and the size of each
pub record SetView : Type 0 where
  pub rings : List TableId
  pub size : ℕ

-- the rings of a name: how many there are, and the size of each
pub record RingsView : Type 0 where
  pub vcpus : ℕ
  pub size : ℕ

-- which ring it is, and which one a seat is of
abbrev pub id_of : RingView → TableId
id_of r = r.id

abbrev pub ring_of_kernel : KernelView → TableId
ring_of_kernel s = s.ring

abbrev pub ring_of_user : UserView → TableId
ring_of_user s = s.ring

-- new rings of one size, and the two new seats of each, in one order
pub record IsNewSet (rings : List RingView) (kernels : List KernelView) (users : List UserView)
    (size : ℕ) : Type 0 where
  pub sizes : All (λ r. r.size ≡ size) rings
  pub sized : All (λ id. IsOfSize size id) (map id_of rings)
  pub new_kernels : kernels ≡ map new_kernel (map id_of rings)
  pub new_users : users ≡ map new_user (map id_of rings)

-- P of the element at index v, wherever there is one
abbrev pub IfAt : {X : Type 0} → List X → ℕ → (X → Type 0) → Type 0
IfAt {X} xs v P = (x : X) → slice_get xs v ≡ Some x → P x

-- there is an element at index v, and P of it
abbrev pub HasAt : {X : Type 0} → List X → ℕ → (X → Type 0) → Type 0
HasAt {X} xs v P = (x : X) × (slice_get xs v ≡ Some x) × P x

-- the seat at v goes from s to some t, and the others stay
abbrev pub MovesAt : {S : Type 0} → List S → List S → ℕ → (S → S → Type 0) → Type 0
MovesAt {S} old new v Moves =
    (s : S) × (t : S) × (slice_get old v ≡ Some s) × (new ≡ slice_set old v t) × Moves s t

-- What a call that resets does to a kernel seat, in a ring of this size: Some entry is the one at
-- the reset number, and it is reset. None: the word loaded there had no RESET bit, and the seat
-- knew of no more harvests than resets.
pub record IsReset (size : ℕ) (s t : KernelView) (result : Option Entry) : Type 0 where
  pub entry : IfSome result (λ e. slice_get s.pushed s.reset ≡ Some e)
  pub is_reset : IfSome result (λ e. t ≡ kernel_reset size s e)
  pub none : result ≡ None → LoadsNoReset size s t
  pub learnt : result ≡ None → s.known ≤ s.reset

-- What a call that harvests does to a user seat, in a ring of this size: Some entry is harvested.
-- None: the word loaded there was not dirty, and the seat knew of no more pushes than harvests.
pub record IsHarvest (size : ℕ) (s t : UserView) (result : Option Entry) : Type 0 where
  pub some : IfSome result (λ e. t ≡ user_harvested size s e)
  pub none : result ≡ None → LoadsNoDirty size s t
  pub learnt : result ≡ None → s.known ≤ length s.harvested
