-- Each step of a seat keeps the rule.
use Rattle.std.proofs.Common.{◌≡◌, ◌⊎◌, ℕ, ◌+◌, ◌/◌, ◌^◌, ◌<◌, List, [], ◌∷◌, ◌++◌, length, get_or, set, sym, refl, ap, ◌∙◌, ⊎_elim, subst, arith, Some, slice_get}
use Rattle.std.proofs.lemmas.Option.{slice_get_within}
use mathlib.Core.Option.{none, some}
use lib.ListN.{get_elem?}
use lib.Seq.{set-get_or}
use Rattle.atomic_table.specs.Table.{State, Me, step, keeps, stepped, Allows}
use Rattle.dr_types.specs.declared.entry.Entry.{Entry}
use Rattle.dr_types.specs.Words.{first_word}
use Rattle.dr_ring.specs.declared.view.View.{View}
use Rattle.dr_ring.specs.declared.view.Role.{Role}
use Rattle.dr_ring.specs.declared.view.Role.TheVariants.{Kernel, Pushing, Resetting, User, Dirty, Copied}
use Rattle.dr_ring.specs.Ring.{entry_place, offset_place, entry_word, offset_word, Knows, Holds}
use Rattle.dr_ring.specs.Plays.{IsDirty, HasReset, looked, pushing, pushed_one, resetting, reset_one, saw, copied, harvested_one, offers, pushes, finds, reads, resets, sees, copies, harvests}
use Rattle.dr_ring.proofs.Fronts.{prefix_self}
use Rattle.dr_ring.proofs.Places.{offset_here, offset_kept, slot-first_word, after}
use Rattle.dr_ring.proofs.Stores.{prefix_push, offer_kept, push_kept, reset_kept, harvest_kept, reset_word, has_reset, harvest_word, is_dirty}
use Rattle.dr_ring.proofs.Knowing.{now, kernel_stepped, user_stepped}

abbrev Seated : Type 0
Seated = Me ℕ View

module _ (size slots id : ℕ) (me : Seated) where
  -- what the seat knows, by its role
  mine : (s : State ℕ View) (h : Holds size s) (role : Role) → me.0.role ≡ role → get_elem? s.views id ≡ some me.0 → Knows size s.words h.pushed h.harvested h.reset h.kernel h.user id me.0 role
  mine s h role is at = subst (Knows size s.words h.pushed h.harvested h.reset h.kernel h.user id me.0) is (h.each_seat id me.0 at)

  pub offers_allowed : (offset : ℕ) → me.0.role ≡ Kernel → length me.0.entries < me.0.reset + size
      → Allows (Holds size) slots id me (offset_place size (length me.0.entries)) (λ _. offset) (λ _. offers (step slots (offset_place size (length me.0.entries)) offset 0 none) me offset)
  offers_allowed offset is room s h _ at _ = let k = mine s h Kernel is at in let w : View = pushing me.0 offset in
      let same : length me.0.entries ≡ length h.pushed = ap length k.1 in let there = k.2 in let lt : length h.pushed < h.reset + size = omega arith in (
        w,
        keeps,
        tt,
        subst (λ (n : ℕ). Holds size (stepped s (offset_place size n) offset id me.1 w keeps)) (sym same)
            (kernel_stepped size s h id w (set s.words (offset_place size (length h.pushed)) offset) h.pushed h.reset k.0 (prefix_self h.pushed)
            (offer_kept size s.words h.pushed h.harvested h.reset h.ring offset lt)
            (k, lt, offset_here size s.words (length h.pushed) offset h.ring.some_size h.ring.wide)),
        refl,
      )

  same_entry : (d e : Entry) → Pushing d.offset ≡ Pushing e.offset → first_word d 1 ≡ first_word e 1 → d ≡ e
  same_entry d e o w = let slot : d.slot ≡ e.slot = omega arith in let offset : d.offset ≡ e.offset = cc in λ i. record { slot = slot i; offset = offset i }

  pub pushes_allowed : (e : Entry) → me.0.role ≡ Pushing e.offset → length me.0.entries + 1 < 2 ^ 64
      → Allows (Holds size) slots id me (entry_place size (length me.0.entries)) (λ _. first_word e 1) (λ _. pushes (step slots (entry_place size (length me.0.entries)) (first_word e 1) 0 none) me (first_word e 1))
  pushes_allowed e is count s h _ at _ = let k = mine s h (Pushing e.offset) is at in let w : View = pushed_one me.0 e in let v : ℕ = first_word e 1 in
      let same : length me.0.entries ≡ length h.pushed = ap length k.0.1 in (
        w,
        keeps,
        tt,
        subst (λ (n : ℕ). Holds size (stepped s (entry_place size n) v id me.1 w keeps)) (sym same)
            (kernel_stepped size s h id w (set s.words (entry_place size (length h.pushed)) v) (h.pushed ++ e ∷ []) h.reset k.0.0 (prefix_push h.pushed e)
            (push_kept size s.words h.pushed h.harvested h.reset h.ring e k.1 (omega arith) k.2)
            (k.0.0, ap (λ l. l ++ e ∷ []) k.0.1, k.0.2, k.0.3, k.0.4)),
        λ d role word. ap (λ (x : Entry). (pushed_one me.0 x, me.1)) (same_entry e d (sym is ∙ role) word),
      )

  -- a load leaves the words as they are
  loaded : (s : State ℕ View) (i : ℕ) (w : View) → Holds size (now s s.words id w) → Holds size (stepped s i (get_or s.words i 0) id me.1 w keeps)
  loaded s i w = subst (λ (ws : List ℕ). Holds size (now s ws id w)) (sym (set-get_or s.words i 0))

  pub finds_allowed : me.0.role ≡ Kernel → Allows (Holds size) slots id me (entry_place size me.0.reset) (λ n. n) (finds (step slots (entry_place size me.0.reset) 0 0 none) me)
  finds_allowed is s h _ at _ = let k = mine s h Kernel is at in let known = k.3 in let there = k.2 in let r : ℕ = me.0.reset in let x : ℕ = entry_word size s.words r in
      let split = subst (λ (r : ℕ). ((r < length h.harvested) × ((e : Entry) × (slice_get h.pushed r ≡ Some e) × (entry_word size s.words r ≡ first_word e 3))) ⊎ ((length h.harvested ≡ r) × (¬ HasReset (entry_word size s.words r))))
      (sym there) (reset_word size s.words h.pushed h.harvested h.reset h.ring) in
      ⊎_elim
      (λ (t : (r < length h.harvested) × ((e : Entry) × (slice_get h.pushed r ≡ Some e) × (x ≡ first_word e 3))). let w : View = resetting (looked me.0 (entry_place size r) x) in let lt = t.0 in (
        w,
        keeps,
        tt,
        loaded s (entry_place size r) w (kernel_stepped size s h id w s.words h.pushed h.reset k.0 (prefix_self h.pushed) h.ring ((k.0, k.1, k.2, omega arith, k.4), omega arith)),
        (
          λ _. (refl, (t.1.0, subst (λ (l : List Entry). slice_get l r ≡ Some t.1.0) (sym k.1) t.1.1, t.1.2)),
          λ no. absurd (no (subst HasReset (sym t.1.2) (has_reset size s.words h.pushed h.harvested h.reset h.ring t.1.0))),
        ),
      ))
      (λ (t : (length h.harvested ≡ r) × (¬ HasReset x)). let w : View = looked me.0 (entry_place size r) x in let all = t.0 in (
        w,
        keeps,
        tt,
        loaded s (entry_place size r) w (kernel_stepped size s h id w s.words h.pushed h.reset k.0 (prefix_self h.pushed) h.ring
            (subst (Knows size s.words h.pushed h.harvested h.reset h.kernel h.user id w) (sym is) k)),
        ((λ has. absurd (t.1 has)), λ _. (refl, omega arith)),
      ))
      split

  pub reads_allowed : me.0.role ≡ Resetting → Allows (Holds size) slots id me (offset_place size me.0.reset) (λ n. n) (reads (step slots (offset_place size me.0.reset) 0 0 none) me)
  reads_allowed is s h _ at _ = let k = mine s h Resetting is at in let there = k.0.2 in (
    me.0,
    keeps,
    tt,
    loaded s (offset_place size me.0.reset) me.0 (kernel_stepped size s h id me.0 s.words h.pushed h.reset k.0.0 (prefix_self h.pushed) h.ring (h.each_seat id me.0 at)),
    (
      refl,
      λ e get. subst (λ (r : ℕ). slice_get h.pushed r ≡ Some e → offset_word size s.words r ≡ e.offset) (sym there) (λ g. h.ring.offsets h.reset e (omega arith) g) (subst (λ (l : List Entry). slice_get l me.0.reset ≡ Some e) k.0.1 get),
    ),
  )

  pub resets_allowed : me.0.role ≡ Resetting → Allows (Holds size) slots id me (entry_place size me.0.reset) (λ _. 0) (λ _. resets (step slots (entry_place size me.0.reset) 0 0 none) me 0)
  resets_allowed is s h _ at _ = let k = mine s h Resetting is at in let there = k.0.2 in let w : View = reset_one me.0 in (
    w,
    keeps,
    tt,
    subst (λ (r : ℕ). Holds size (stepped s (entry_place size r) 0 id me.1 w keeps)) (sym there)
        (kernel_stepped size s h id w (set s.words (entry_place size h.reset) 0) h.pushed (h.reset + 1) k.0.0 (prefix_self h.pushed)
        (reset_kept size s.words h.pushed h.harvested h.reset h.ring k.1)
        (k.0.0, k.0.1, ap (λ (z : ℕ). z + 1) there, k.0.3, k.0.4)),
    refl,
  )

  pub sees_allowed : me.0.role ≡ User → Allows (Holds size) slots id me (entry_place size (length me.0.entries)) (λ n. n) (sees (step slots (entry_place size (length me.0.entries)) 0 0 none) me)
  sees_allowed is s h _ at _ = let k = mine s h User is at in let known = k.2 in let same : length me.0.entries ≡ length h.harvested = ap length k.1 in let n : ℕ = length me.0.entries in let x : ℕ = entry_word size s.words n in
      let split = subst (λ (n : ℕ). ((e : Entry) × (slice_get h.pushed n ≡ Some e) × (entry_word size s.words n ≡ first_word e 1)) ⊎ ((length h.pushed ≡ n) × (¬ IsDirty (entry_word size s.words n))))
      (sym same) (harvest_word size s.words h.pushed h.harvested h.reset h.ring) in
      ⊎_elim
      (λ (t : (e : Entry) × (slice_get h.pushed n ≡ Some e) × (x ≡ first_word e 1)). let w : View = saw (looked me.0 (entry_place size n) x) (x / 2 ^ 32) in (
        w,
        keeps,
        tt,
        loaded s (entry_place size n) w (user_stepped size s h id w s.words h.harvested k.0 (prefix_self h.harvested) (λ _. refl) h.ring
            (k, (t.0, subst (λ (n : ℕ). slice_get h.pushed n ≡ Some t.0) same t.1, ap (λ (z : ℕ). z / 2 ^ 32) t.2 ∙ slot-first_word t.0 1 (omega arith)))),
        ((λ _. (refl, (let u = slice_get_within h.pushed n t.0 t.1 in let counted = h.ring.counted in omega arith))), λ no. absurd (no (subst IsDirty (sym t.2) (is_dirty t.0)))),
      ))
      (λ (t : (length h.pushed ≡ n) × (¬ IsDirty x)). let w : View = looked me.0 (entry_place size n) x in let all = t.0 in (
        w,
        keeps,
        tt,
        loaded s (entry_place size n) w (user_stepped size s h id w s.words h.harvested k.0 (prefix_self h.harvested) (λ _. refl) h.ring
            (subst (Knows size s.words h.pushed h.harvested h.reset h.kernel h.user id w) (sym is) k)),
        ((λ d. absurd (t.1 d)), λ _. (refl, omega arith)),
      ))
      split

  abbrev slot_of : Role → ℕ
  slot_of (Dirty slot) = slot
  slot_of _ = 0

  pub copies_allowed : (slot : ℕ) → me.0.role ≡ Dirty slot → Allows (Holds size) slots id me (offset_place size (length me.0.entries)) (λ n. n) (copies (step slots (offset_place size (length me.0.entries)) 0 0 none) me)
  copies_allowed slot is s h _ at _ = let k = mine s h (Dirty slot) is at in let same : length me.0.entries ≡ length h.harvested = ap length k.0.1 in let n : ℕ = length me.0.entries in let x : ℕ = offset_word size s.words n in
      let d : Entry = record { slot = slot; offset = x } in let w : View = copied me.0 d in let e : Entry = k.1.0 in let after = h.ring.reset_after in
      let right : x ≡ e.offset = subst (λ (n : ℕ). offset_word size s.words n ≡ e.offset) (sym same) (h.ring.offsets (length h.harvested) e after k.1.1) in
      let whole : e ≡ d = λ i. record { slot = sym k.1.2 i; offset = sym right i } in (
        w,
        keeps,
        tt,
        loaded s (offset_place size n) w (user_stepped size s h id w s.words h.harvested k.0.0 (prefix_self h.harvested) (λ _. refl) h.ring
            (k.0, k.1.1 ∙ ap Some whole)),
        λ slot' is'. ap (λ (z : ℕ). (copied me.0 (record { slot = z; offset = x }), me.1)) (ap slot_of (sym is ∙ is')),
      )

  pub harvests_allowed : (e : Entry) → me.0.role ≡ Copied e → Allows (Holds size) slots id me (entry_place size (length me.0.entries)) (λ _. first_word e 3) (λ _. harvests (step slots (entry_place size (length me.0.entries)) (first_word e 3) 0 none) me (first_word e 3))
  harvests_allowed e is s h _ at _ = let k = mine s h (Copied e) is at in let w : View = harvested_one me.0 e in let v : ℕ = first_word e 3 in
      let same : length me.0.entries ≡ length h.harvested = ap length k.0.1 in (
        w,
        keeps,
        tt,
        subst (λ (n : ℕ). Holds size (stepped s (entry_place size n) v id me.1 w keeps)) (sym same)
            (user_stepped size s h id w (set s.words (entry_place size (length h.harvested)) v) (h.harvested ++ e ∷ []) k.0.0 (prefix_push h.harvested e)
            (λ i. offset_kept size s.words i (length h.harvested) v)
            (harvest_kept size s.words h.pushed h.harvested h.reset h.ring e k.1)
            (k.0.0, ap (λ l. l ++ e ∷ []) k.0.1, k.0.2, k.0.3)),
        λ d role. ap (λ (x : Entry). (harvested_one me.0 x, me.1)) (cc (is, role)),
      )

-- The same at the numbers that the code has: the key, the index of the word and the value stored
at : (P : ℕ → ℕ → ℕ → Type 0) (size place value key i v : ℕ) → key ≡ size → i ≡ place → v ≡ value → P size place value → P key i v
at P size place value key i v e f g p = subst (λ (z : ℕ × ℕ × ℕ). P z.0 z.1 z.2) (λ j. (sym e j, sym f j, sym g j)) p

module _ (size key slots id : ℕ) (me : Seated) (same : key ≡ size) (i : ℕ) where
  pub offers_at : (n v : ℕ) → n ≡ length me.0.entries → i ≡ entry_place size n → me.0.role ≡ Kernel → n < me.0.reset + size
      → Allows (Holds key) slots id me (i + 1) (λ _. v) (λ _. offers (step slots (i + 1) v 0 none) me v)
  offers_at n v next is role room = let is' : i + 1 ≡ offset_place size (length me.0.entries) = ap (λ (z : ℕ). z + 1) (is ∙ ap (entry_place size) next) ∙ after size (length me.0.entries) in
      at (λ k i v. Allows (Holds k) slots id me i (λ _. v) (λ _. offers (step slots i v 0 none) me v)) size _ v key (i + 1) v same is' refl (offers_allowed size slots id me v role (subst (λ (z : ℕ). z < me.0.reset + size) next room))

  pub pushes_at : (n v : ℕ) (e : Entry) → n ≡ length me.0.entries → i ≡ entry_place size n → v ≡ first_word e 1 → me.0.role ≡ Pushing e.offset → n + 1 < 2 ^ 64
      → Allows (Holds key) slots id me i (λ _. v) (λ _. pushes (step slots i v 0 none) me v)
  pushes_at n v e next is word role count = at (λ k i v. Allows (Holds k) slots id me i (λ _. v) (λ _. pushes (step slots i v 0 none) me v)) size _ (first_word e 1) key i v same (is ∙ ap (entry_place size) next) word (pushes_allowed size slots id me e role (omega arith))

  pub finds_at : (r : ℕ) → r ≡ me.0.reset → i ≡ entry_place size r → me.0.role ≡ Kernel → Allows (Holds key) slots id me i (λ n. n) (finds (step slots i 0 0 none) me)
  finds_at r next is role = at (λ k i _. Allows (Holds k) slots id me i (λ n. n) (finds (step slots i 0 0 none) me)) size _ 0 key i 0 same (is ∙ ap (entry_place size) next) refl (finds_allowed size slots id me role)

  pub reads_at : (r : ℕ) → r ≡ me.0.reset → i ≡ entry_place size r → me.0.role ≡ Resetting → Allows (Holds key) slots id me (i + 1) (λ n. n) (reads (step slots (i + 1) 0 0 none) me)
  reads_at r next is role = let is' : i + 1 ≡ offset_place size me.0.reset = ap (λ (z : ℕ). z + 1) (is ∙ ap (entry_place size) next) ∙ after size me.0.reset in
      at (λ k i _. Allows (Holds k) slots id me i (λ n. n) (reads (step slots i 0 0 none) me)) size _ 0 key (i + 1) 0 same is' refl (reads_allowed size slots id me role)

  pub resets_at : (r : ℕ) → r ≡ me.0.reset → i ≡ entry_place size r → me.0.role ≡ Resetting → Allows (Holds key) slots id me i (λ _. 0) (λ _. resets (step slots i 0 0 none) me 0)
  resets_at r next is role = at (λ k i _. Allows (Holds k) slots id me i (λ _. 0) (λ _. resets (step slots i 0 0 none) me 0)) size _ 0 key i 0 same (is ∙ ap (entry_place size) next) refl (resets_allowed size slots id me role)

  pub sees_at : (n : ℕ) → n ≡ length me.0.entries → i ≡ entry_place size n → me.0.role ≡ User → Allows (Holds key) slots id me i (λ n. n) (sees (step slots i 0 0 none) me)
  sees_at n next is role = at (λ k i _. Allows (Holds k) slots id me i (λ n. n) (sees (step slots i 0 0 none) me)) size _ 0 key i 0 same (is ∙ ap (entry_place size) next) refl (sees_allowed size slots id me role)

  pub copies_at : (n slot : ℕ) → n ≡ length me.0.entries → i ≡ entry_place size n → me.0.role ≡ Dirty slot → Allows (Holds key) slots id me (i + 1) (λ n. n) (copies (step slots (i + 1) 0 0 none) me)
  copies_at n slot next is role = let is' : i + 1 ≡ offset_place size (length me.0.entries) = ap (λ (z : ℕ). z + 1) (is ∙ ap (entry_place size) next) ∙ after size (length me.0.entries) in
      at (λ k i _. Allows (Holds k) slots id me i (λ n. n) (copies (step slots i 0 0 none) me)) size _ 0 key (i + 1) 0 same is' refl (copies_allowed size slots id me slot role)

  pub harvests_at : (n v : ℕ) (e : Entry) → n ≡ length me.0.entries → i ≡ entry_place size n → v ≡ first_word e 3 → me.0.role ≡ Copied e
      → Allows (Holds key) slots id me i (λ _. v) (λ _. harvests (step slots i v 0 none) me v)
  harvests_at n v e next is word role = at (λ k i v. Allows (Holds k) slots id me i (λ _. v) (λ _. harvests (step slots i v 0 none) me v)) size _ (first_word e 3) key i v same (is ∙ ap (entry_place size) next) word (harvests_allowed size slots id me e role)
