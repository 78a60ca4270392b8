-- The small guests are valid.
use Rattle.std.proofs.Common.{◌≡◌, ℕ, ◌+◌, ◌^◌, ◌*◌, ◌/◌, ◌%◌, ◌<◌, ◌≤◌, true, List, [], ◌∷◌, length, refl, subst, sym, arith}
use Rattle.std.specs.Prelude.{All, is_some}
use Rattle.std.specs.Int.{is_power_of_two}
use Rattle.std.specs.Int.Count.{ones}
use Rattle.dr_types.specs.Pages.{page_of_frame, pages_of_slots}
use Rattle.std.proofs.Math.Nat.{mul-le-mul}
use Rattle.dr_types.specs.declared.guest.SlotRow.{SlotRow}
use Rattle.dr_types.specs.declared.guest.Settings.{Settings}
use Rattle.dr_types.specs.declared.guest.Item.{Item}
use Rattle.dr_types.specs.declared.guest.Item.TheVariants.{One, Rep}
use Rattle.dr_types.specs.declared.guest.Op.TheVariants.{W, F, R, A, S}
use Rattle.dr_types.specs.Scripts.{expanded}
use Rattle.dr_types.specs.Validity.{AreSettings, AreSlots, IsScript, IsValid, Lies}
use Rattle.std.proofs.lemmas.List.Elements.{All-cons, All-nil}
use Rattle.dr_core_rows.specs.Scripts.{one_slot, idle, writing, two_writes, counting}

power_8 : is_power_of_two 8 ≡ true
unfolding ones
power_8 = refl

pub settings_valid : (buffer rounds quota : ℕ) → buffer ≤ 5 → 1 ≤ rounds → rounds ≤ 64 → quota ≤ 1000000000
    → AreSettings (record { ring = 8; reserve = 2; buffer = buffer; pace = 1; threshold = 0; rounds = rounds; quota = quota })
settings_valid buffer rounds quota b least most q = record {
  ring_least = omega arith;
  ring_most = omega arith;
  ring_power = power_8;
  reserve_some = omega arith;
  reserve = omega arith;
  buffer = omega (arith, b);
  room = omega (arith, b);
  pace_some = omega arith;
  pace = omega arith;
  threshold = omega arith;
  rounds_some = least;
  rounds = most;
  quota = q;
}

one : (P : SlotRow → Type 0) (row : SlotRow) → P row → All P (row ∷ [])
one P row h = All-cons P row [] h (All-nil P)

slots_valid : (pages : ℕ) → 1 ≤ pages → pages ≤ 16 → AreSlots (one_slot pages)
slots_valid pages least most = record {
  some = omega arith;
  few = omega arith;
  spaces = one (λ row. row.space ≤ 1) _ (omega arith);
  ids = one (λ row. row.id ≤ 65535) _ (omega arith);
  some_pages = one (λ row. 1 ≤ row.pages) _ least;
  ends = one (λ row. row.base + row.pages ≤ 2 ^ 52) _ (omega (arith, most));
  differ = (tt, tt);
  apart = (tt, tt);
  pages = omega (arith, most);
}

copies_fit : (pages rounds : ℕ) → pages ≤ 16 → rounds ≤ 64 → pages_of_slots (one_slot pages) * (rounds + 1) ≤ 262144
copies_fit pages rounds most few =
    let more : rounds + 1 ≤ 65 = omega (arith, few) in
    let whole : pages + 0 ≤ 16 = omega (arith, most) in
    let product : (pages + 0) * (rounds + 1) ≤ 16 * 65 = mul-le-mul whole more in
    omega (arith, product)

-- a guest of one such slot and one script
pub small_is_valid : (settings : Settings) (slots : List SlotRow) (scripts : List (List Item)) (pages : ℕ) (script : List Item)
    → AreSettings settings → slots ≡ one_slot pages → scripts ≡ script ∷ [] → 1 ≤ pages → pages ≤ 16
    → IsScript (one_slot pages) script → length (expanded script) ≤ 200000
    → IsValid (record { version = 1; settings = settings; slots = slots; scripts = scripts })
small_is_valid settings slots scripts pages script are its_slots its_scripts least most is short =
    let P : List SlotRow → List (List Item) → Type 0 = λ rows texts. IsValid (record { version = 1; settings = settings; slots = rows; scripts = texts }) in
    subst (λ (rows : List SlotRow). P rows scripts) (sym its_slots)
    (subst (λ (texts : List (List Item)). P (one_slot pages) texts) (sym its_scripts) (record {
      version_some = omega arith;
      version = omega arith;
      spaces = one (λ row. row.space < 1) _ (omega arith);
      settings = are;
      slots = slots_valid pages least most;
      copies = copies_fit pages settings.rounds most are.rounds;
      some_vcpu = omega arith;
      vcpus = omega arith;
      scripts = (is, tt);
      ops = omega (arith, short);
    }))

of_literal : (pages : ℕ) (script literal : List Item) → script ≡ literal → IsScript (one_slot pages) literal → IsScript (one_slot pages) script
of_literal pages script literal e is = subst (IsScript (one_slot pages)) (sym e) is

short_literal : (script literal : List Item) → script ≡ literal → length (expanded literal) ≤ 200000 → length (expanded script) ≤ 200000
short_literal script literal e h = subst (λ (xs : List Item). length (expanded xs) ≤ 200000) (sym e) h

pub idle_script : (script : List Item) → script ≡ idle → IsScript (one_slot 1) script
idle_script script e = of_literal 1 script idle e (record { items = []; ends = refl; valid = tt })

pub idle_short : (script : List Item) → script ≡ idle → length (expanded script) ≤ 200000
idle_short script e = short_literal script idle e (omega arith)

lies : (pages address bytes : ℕ) → is_some (page_of_frame (one_slot pages) 0 (address / 4096)) ≡ true → address % 4096 + bytes ≤ 4096 → Lies (one_slot pages) 0 address bytes
lies pages address bytes there within = record { mapped = there; in_page = within }

pub writing_script : (script : List Item) → script ≡ writing → IsScript (one_slot 1) script
writing_script script e = of_literal 1 script writing e (record {
  items = One (A 0) ∷ One (W 0 0 1 1) ∷ One (W 0 0 1 2) ∷ [];
  ends = refl;
  valid = (
    omega arith,
    (
      (omega arith, omega arith, omega arith, omega arith, lies 1 0 1 refl (omega arith)),
      ((omega arith, omega arith, omega arith, omega arith, lies 1 0 1 refl (omega arith)), tt),
    ),
  );
})

pub writing_short : (script : List Item) → script ≡ writing → length (expanded script) ≤ 200000
writing_short script e = short_literal script writing e (omega arith)

pub two_page_script : (script : List Item) → script ≡ two_writes → IsScript (one_slot 2) script
two_page_script script e = of_literal 2 script two_writes e (record {
  items = One (A 1) ∷ One (W 0 0 1 65) ∷ One (W 0 4096 2 17218) ∷ [];
  ends = refl;
  valid = (
    omega arith,
    (
      (omega arith, omega arith, omega arith, omega arith, lies 2 0 1 refl (omega arith)),
      ((omega arith, omega arith, omega arith, omega arith, lies 2 4096 2 refl (omega arith)), tt),
    ),
  );
})

pub two_page_short : (script : List Item) → script ≡ two_writes → length (expanded script) ≤ 200000
two_page_short script e = short_literal script two_writes e (omega arith)

pub counting_script : (script : List Item) → script ≡ counting → IsScript (one_slot 1) script
counting_script script e = of_literal 1 script counting e (record {
  items = One (F 0 0 7) ∷ One (W 0 9 1 1) ∷ Rep 2 (R 0 8 ∷ A 1 ∷ S 0 8 ∷ []) ∷ [];
  ends = refl;
  valid = (
    (omega arith, omega arith, refl),
    (
      (omega arith, omega arith, omega arith, omega arith, lies 1 9 1 refl (omega arith)),
      (
        (
          omega arith,
          omega arith,
          omega arith,
          ((omega arith, lies 1 8 8 refl (omega arith)), (omega arith, ((omega arith, lies 1 8 8 refl (omega arith)), tt))),
        ),
        tt,
      ),
    ),
  );
})

pub counting_short : (script : List Item) → script ≡ counting → length (expanded script) ≤ 200000
counting_short script e = short_literal script counting e (omega arith)

pub ruleset idle_ops = (idle_script, idle_short)

pub ruleset writing_ops = (writing_script, writing_short)

pub ruleset two_page_ops = (two_page_script, two_page_short)

pub ruleset counting_ops = (counting_script, counting_short)
