-- New rings and seats, one after the other.
use Rattle.std.proofs.Common.{◌≡◌, ℕ, zero, suc, List, [], ◌∷◌, map, refl, ap, subst, Some, slice_get}
use Rattle.atomic_table.specs.Seated.{TableId}
use Rattle.dr_ring.specs.Seats.{KernelView, UserView, new_kernel, new_user}
use Rattle.dr_ring_set.specs.Seated.{ring_of_kernel, ring_of_user}

-- a new seat's ring is the one that it was made for
pub kernels_of : (ids : List TableId) → map ring_of_kernel (map new_kernel ids) ≡ ids
kernels_of [] = refl
kernels_of (id ∷ ids) = ap (λ xs. id ∷ xs) (kernels_of ids)

pub users_of : (ids : List TableId) → map ring_of_user (map new_user ids) ≡ ids
users_of [] = refl
users_of (id ∷ ids) = ap (λ xs. id ∷ xs) (users_of ids)

-- a seat among new ones is new
pub new_kernel_at : (ids : List TableId) (v : ℕ) (x : KernelView) → slice_get (map new_kernel ids) v ≡ Some x → x ≡ new_kernel x.ring
new_kernel_at [] v x e = absurd cc
new_kernel_at (id ∷ ids) zero x e = let same : new_kernel id ≡ x = cc in subst (λ (y : KernelView). y ≡ new_kernel y.ring) same refl
new_kernel_at (id ∷ ids) (suc v) x e = new_kernel_at ids v x e

pub new_user_at : (ids : List TableId) (v : ℕ) (x : UserView) → slice_get (map new_user ids) v ≡ Some x → x ≡ new_user x.ring
new_user_at [] v x e = absurd cc
new_user_at (id ∷ ids) zero x e = let same : new_user id ≡ x = cc in subst (λ (y : UserView). y ≡ new_user y.ring) same refl
new_user_at (id ∷ ids) (suc v) x e = new_user_at ids v x e
