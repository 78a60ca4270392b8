-- What the seats that do not step still know after a step.
use Rattle.std.proofs.Common.{◌≡◌, ◌≢◌, ℕ, List, length, set, sym, ◌∙◌, ⊎_elim, subst, arith}
use mathlib.Core.Option.{some}
use mathlib.Core.List.{IsPrefix}
use lib.ListN.{get_elem?}
use Rattle.atomic_table.specs.Table.{State}
use Rattle.atomic_table.proofs.Lists.{at_set}
use Rattle.dr_types.specs.declared.entry.Entry.{Entry}
use Rattle.dr_ring.specs.declared.view.View.{View}
use Rattle.dr_ring.specs.declared.view.Role.{Role}
use Rattle.dr_ring.specs.declared.view.Role.TheVariants.{Both, Kernel, Pushing, Resetting, User, Dirty, Copied, KernelNote, UserNote, Spent}
use Rattle.dr_ring.specs.Ring.{offset_word, IsRing, Knows, Holds}
use Rattle.dr_ring.proofs.Fronts.{prefix_trans, prefix_length, prefix_get}

module _ (size : ℕ) (words words' : List ℕ) where
  -- where the kernel seat steps
  kernel_moved : (p p' h : List Entry) (r r' kernel user j : ℕ) (v : View) → IsPrefix p p' → j ≢ kernel → (role : Role) → Knows size words p h r kernel user j v role → Knows size words' p' h r' kernel user j v role
  kernel_moved p p' h r r' kernel user j v more apart Both k = absurd (apart k.0)
  kernel_moved p p' h r r' kernel user j v more apart Kernel k = absurd (apart k.0)
  kernel_moved p p' h r r' kernel user j v more apart (Pushing o) k = absurd (apart k.0.0)
  kernel_moved p p' h r r' kernel user j v more apart Resetting k = absurd (apart k.0.0)
  kernel_moved p p' h r r' kernel user j v more apart User k = let le = prefix_length p p' more in let l = k.2 in (k.0, k.1, omega arith, prefix_trans v.told p p' k.3 more)
  kernel_moved p p' h r r' kernel user j v more apart (Dirty slot) k = let le = prefix_length p p' more in let l = k.0.2 in ((k.0.0, k.0.1, omega arith, prefix_trans v.told p p' k.0.3 more), (k.1.0, prefix_get p p' (length h) k.1.0 more k.1.1, k.1.2))
  kernel_moved p p' h r r' kernel user j v more apart (Copied e) k = let le = prefix_length p p' more in let l = k.0.2 in ((k.0.0, k.0.1, omega arith, prefix_trans v.told p p' k.0.3 more), prefix_get p p' (length h) e more k.1)
  kernel_moved p p' h r r' kernel user j v more apart KernelNote k = (prefix_trans v.entries p p' k.0 more, k.1)
  kernel_moved p p' h r r' kernel user j v more apart UserNote k = let le = prefix_length p p' more in let l = k.1 in (k.0, omega arith)
  kernel_moved p p' h r r' kernel user j v more apart Spent k = tt

  -- where the user seat steps
  user_moved : (p h h' : List Entry) (r kernel user j : ℕ) (v : View) → IsPrefix h h' → ((k : ℕ) → offset_word size words' k ≡ offset_word size words k) → j ≢ user → (role : Role) → Knows size words p h r kernel user j v role → Knows size words' p h' r kernel user j v role
  user_moved p h h' r kernel user j v more same apart Both k = absurd (apart k.1)
  user_moved p h h' r kernel user j v more same apart Kernel k = let le = prefix_length h h' more in let l = k.3 in (k.0, k.1, k.2, omega arith, prefix_trans v.told h h' k.4 more)
  user_moved p h h' r kernel user j v more same apart (Pushing o) k = let le = prefix_length h h' more in let l = k.0.3 in ((k.0.0, k.0.1, k.0.2, omega arith, prefix_trans v.told h h' k.0.4 more), k.1, same (length p) ∙ k.2)
  user_moved p h h' r kernel user j v more same apart Resetting k = let le = prefix_length h h' more in let l = k.0.3 in let m = k.1 in ((k.0.0, k.0.1, k.0.2, omega arith, prefix_trans v.told h h' k.0.4 more), omega arith)
  user_moved p h h' r kernel user j v more same apart User k = absurd (apart k.0)
  user_moved p h h' r kernel user j v more same apart (Dirty slot) k = absurd (apart k.0.0)
  user_moved p h h' r kernel user j v more same apart (Copied e) k = absurd (apart k.0.0)
  user_moved p h h' r kernel user j v more same apart KernelNote k = let le = prefix_length h h' more in let l = k.1 in (k.0, omega arith)
  user_moved p h h' r kernel user j v more same apart UserNote k = (prefix_trans v.entries h h' k.0 more, k.1)
  user_moved p h h' r kernel user j v more same apart Spent k = tt

-- the seats, after one of them has the view w
pub seats_stay : (K : ℕ → View → Type 0) (views : List View) (id : ℕ) (w : View) → K id w → ((j : ℕ) (v : View) → j ≢ id → get_elem? views j ≡ some v → K j v) → (j : ℕ) (v : View) → get_elem? (set views id w) j ≡ some v → K j v
seats_stay K views id w mine others j v e =
    ⊎_elim
    (λ (t : (j ≡ id) × (w ≡ v)). subst (λ (x : ℕ × View). K x.0 x.1) (λ i. (sym t.0 i, t.1 i)) mine)
    (λ (t : (j ≢ id) × (get_elem? views j ≡ some v)). others j v t.0 t.1)
    (at_set views id j w v e)

abbrev pub now : State ℕ View → List ℕ → ℕ → View → State ℕ View
now s words id w = record { words = words; homes = s.homes; views = set s.views id w }

module _ (size : ℕ) (s : State ℕ View) (h : Holds size s) (id : ℕ) (w : View) (words : List ℕ) where
  -- the kernel seat has made a step
  pub kernel_stepped : (p : List Entry) (r : ℕ) → id ≡ h.kernel → IsPrefix h.pushed p → IsRing size words p h.harvested r → Knows size words p h.harvested r h.kernel h.user id w w.role → Holds size (now s words id w)
  kernel_stepped p r is more ring mine = record {
    pushed = p;
    harvested = h.harvested;
    reset = r;
    kernel = h.kernel;
    user = h.user;
    ring = ring;
    each_seat = seats_stay (λ j v. Knows size words p h.harvested r h.kernel h.user j v v.role) s.views id w mine
        (λ j v other at. kernel_moved size s.words words h.pushed p h.harvested h.reset r h.kernel h.user j v more (λ e. other (e ∙ sym is)) v.role (h.each_seat j v at));
  }

  -- the user seat has made a step
  pub user_stepped : (g : List Entry) → id ≡ h.user → IsPrefix h.harvested g → ((k : ℕ) → offset_word size words k ≡ offset_word size s.words k) → IsRing size words h.pushed g h.reset → Knows size words h.pushed g h.reset h.kernel h.user id w w.role → Holds size (now s words id w)
  user_stepped g is more same ring mine = record {
    pushed = h.pushed;
    harvested = g;
    reset = h.reset;
    kernel = h.kernel;
    user = h.user;
    ring = ring;
    each_seat = seats_stay (λ j v. Knows size words h.pushed g h.reset h.kernel h.user j v v.role) s.views id w mine
        (λ j v other at. user_moved size s.words words h.pushed h.harvested g h.reset h.kernel h.user j v more same (λ e. other (e ∙ sym is)) v.role (h.each_seat j v at));
  }
