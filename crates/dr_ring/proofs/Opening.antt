-- A new ring keeps the rule, and its seat is cut in two.
use Rattle.std.proofs.Common.{◌≡◌, ◌≢◌, ◌⊎◌, ℕ, zero, suc, ◌+◌, ◌*◌, ◌<◌, List, [], ◌∷◌, ◌++◌, length, get_or, set, replicate, sym, refl, ap, ◌∙◌, inl, inr, ⊎_elim, subst, arith}
use lib.ListN.{get_elem?, length-replicate}
use mathlib.Core.Option.{some, some-injective, some-ne-none}
use mathlib.Core.List.{IsPrefix}
use Rattle.atomic_table.specs.Table.{opening, Splits}
use Rattle.dr_types.specs.declared.entry.Entry.{Entry}
use Rattle.dr_ring.specs.declared.view.View.{View}
use Rattle.dr_ring.specs.declared.view.Role.{Role}
use Rattle.dr_ring.specs.declared.view.Role.TheVariants.{Both, Kernel, Pushing, Resetting, User, Dirty, Copied, KernelNote, UserNote, Spent}
use Rattle.dr_ring.specs.Ring.{Knows, Holds, opening_view}
use Rattle.dr_ring.proofs.Knowing.{seats_stay}

zero_at : (n i : ℕ) → ◌≡◌ {A = ℕ} (get_or (replicate n 0) i 0) 0
zero_at zero i = refl
zero_at (suc n) zero = refl
zero_at (suc n) (suc i) = zero_at n i

pub opens : (size : ℕ) (words : List ℕ) → 0 < size → words ≡ replicate (1 + 2 * size) 0 → Holds size (opening {S = ℕ} words [] opening_view)
opens size words pos is = record {
  pushed = [];
  harvested = [];
  reset = 0;
  kernel = 0;
  user = 0;
  ring = record {
    some_size = pos;
    wide = ap length is ∙ length-replicate (1 + 2 * size) 0;
    spare = ap (λ l. get_or l 0 0) is ∙ zero_at (1 + 2 * size) 0;
    in_order = ([], refl);
    reset_after = omega arith;
    room = omega arith;
    counted = omega arith;
    dirty = λ k e l at. absurd (cc);
    done = λ k e l u at. absurd (cc);
    other = λ place _ _. ap (λ l. get_or l (1 + 2 * place) 0) is ∙ zero_at (1 + 2 * size) (1 + 2 * place);
    offsets = λ k e l at. absurd (cc);
  };
  each_seat = each;
}
  where
    each : (j : ℕ) (v : View) → get_elem? (opening_view ∷ []) j ≡ some v → Knows size words [] [] 0 0 0 j v v.role
    each zero v e = subst (λ (v : View). Knows size words [] [] 0 0 0 0 v v.role) (some-injective _ _ e) (refl, refl, refl, refl, refl, refl, refl, refl, refl)
    each (suc j) v e = absurd (some-ne-none v (sym e))

-- the last of a list has its length as index
pub at_end : {A : Type 0} (l : List A) (a b : A) (j : ℕ) → get_elem? (l ++ a ∷ []) j ≡ some b → (get_elem? l j ≡ some b) ⊎ ((j ≡ length l) × (a ≡ b))
at_end [] a b zero e = inr (refl, some-injective a b e)
at_end [] a b (suc j) e = absurd (some-ne-none b (sym e))
at_end (x ∷ xs) a b zero e = inl e
at_end (x ∷ xs) a b (suc j) e = ⊎_elim inl (λ (t : (j ≡ length xs) × (a ≡ b)). inr (ap suc t.0, t.1)) (at_end xs a b j e)

-- a seat that is neither of the two knows the same, whichever the two are
unpaired : (size : ℕ) (words : List ℕ) (p h : List Entry) (r kernel user kernel' user' j : ℕ) (v : View) → j ≢ kernel → j ≢ user → (role : Role) → Knows size words p h r kernel user j v role → Knows size words p h r kernel' user' j v role
unpaired size words p h r kernel user kernel' user' j v a b Both k = absurd (a k.0)
unpaired size words p h r kernel user kernel' user' j v a b Kernel k = absurd (a k.0)
unpaired size words p h r kernel user kernel' user' j v a b (Pushing o) k = absurd (a k.0.0)
unpaired size words p h r kernel user kernel' user' j v a b Resetting k = absurd (a k.0.0)
unpaired size words p h r kernel user kernel' user' j v a b User k = absurd (b k.0)
unpaired size words p h r kernel user kernel' user' j v a b (Dirty slot) k = absurd (b k.0.0)
unpaired size words p h r kernel user kernel' user' j v a b (Copied e) k = absurd (b k.0.0)
unpaired size words p h r kernel user kernel' user' j v a b KernelNote k = k
unpaired size words p h r kernel user kernel' user' j v a b UserNote k = k
unpaired size words p h r kernel user kernel' user' j v a b Spent k = tt

begins_nil : {v : List Entry} (l : List Entry) → v ≡ [] → IsPrefix v l
begins_nil l e = subst (λ (v : List Entry). IsPrefix v l) (sym e) (l, refl)

pub pairs : (size id : ℕ) (v : View) → v.role ≡ Both → Splits {S = ℕ} (Holds size) id v (record v { role = Kernel }) (record v { role = User })
pairs size id v is s h at = let k = subst (Knows size s.words h.pushed h.harvested h.reset h.kernel h.user id v) is (h.each_seat id v at) in let none = k.7 in
    let left : View = record v { role = Kernel } in let right : View = record v { role = User } in let views : List View = set s.views id left in let user : ℕ = length views in
    let K : ℕ → View → Type 0 = λ j u. Knows size s.words h.pushed h.harvested h.reset id user j u u.role in record {
      pushed = h.pushed;
      harvested = h.harvested;
      reset = h.reset;
      kernel = id;
      user = user;
      ring = h.ring;
      each_seat = λ j u e. ⊎_elim
          (seats_stay K s.views id left (refl, k.2 ∙ sym k.3, k.5 ∙ sym k.6, omega arith, begins_nil h.harvested k.8)
          (λ i w other there. unpaired size s.words h.pushed h.harvested h.reset h.kernel h.user id user i w (λ e. other (e ∙ sym k.0)) (λ e. other (e ∙ sym k.1)) w.role (h.each_seat i w there)) j u)
          (λ (t : (j ≡ length views) × (right ≡ u)). subst (λ (z : ℕ × View). K z.0 z.1) (λ i. (sym t.0 i, t.1 i)) (refl, k.2 ∙ sym k.4, omega arith, begins_nil h.pushed k.8))
          (at_end views right u j e);
    }
