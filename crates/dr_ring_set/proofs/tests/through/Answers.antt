use Rattle.std.proofs.Common.{◌≡◌, ◌∙◌, List, length, ap, sym, subst, slice_get, Some, arith}
use Rattle.dr_ring.specs.Seats.{KernelView, UserView}
use Rattle.dr_ring_set.proofs.NewSeats.{new_kernel_at, new_user_at}
use Rattle.dr_ring_set.proofs.Batches.{seat_written}
use Rattle.dr_ring_set.proofs.tests.through.Goals as goal

pub push-requires-clause-room : goal.push-requires-clause-room
push-requires-clause-room g c κs within = λ x at.
    let new = new_kernel_at _ 1 x (subst (λ xs. slice_get xs 1 ≡ Some x) c.parts-rings.ensures.kernels at) in
    let size = c.parts-rings.ensures.size in
    omega (arith, ap (λ (s : KernelView). length s.pushed) new, ap (λ (s : KernelView). s.reset) new, c.requires.size)

pub push-requires-clause-count : goal.push-requires-clause-count
push-requires-clause-count g c κs within = λ x at.
    let new = new_kernel_at _ 1 x (subst (λ xs. slice_get xs 1 ≡ Some x) c.parts-rings.ensures.kernels at) in
    omega (arith, ap (λ (s : KernelView). length s.pushed) new)

pub batch_of_one-requires-clause-new : goal.batch_of_one-requires-clause-new
batch_of_one-requires-clause-new g c κs within = λ x at.
    let moved = c.learn.ensures in
    let same : moved.1 ≡ x = seat_written _ 1 moved.0 moved.1 x moved.2 (subst (λ (xs : List UserView). slice_get xs 1 ≡ Some x) moved.3 at) in
    let new = new_user_at _ 1 moved.0 (subst (λ (xs : List UserView). slice_get xs 1 ≡ Some moved.0) c.parts-rings.ensures.users moved.2) in
    ap (λ (s : UserView). s.harvested) (sym same ∙ moved.4.0) ∙ ap (λ (s : UserView). s.harvested) new
