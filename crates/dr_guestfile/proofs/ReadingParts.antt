-- What the steps of reading gave, where reading gave something.
use Rattle.std.proofs.Common.{◌≡◌, ℕ, ◌≤◌, Bool, true, false, ◌&&◌, Option, Some, None, Result, Ok, Err, refl, List, ap, subst, ◌<◌, arith}
use Rattle.std.specs.Prelude.{nat_le, if◌then◌else◌}
use Rattle.std.specs.Option.{ok_or, option_map}
use Rattle.std.proofs.lemmas.Bool.{leb-true}
use Rattle.dr_types.specs.Spaces.{spaced}
use Rattle.dr_types.proofs.Spaces.{spaced_below, spaced_few}
use Rattle.dr_types.specs.declared.fault.FileFault.{FileFault}
use Rattle.dr_guestfile_lines.specs.Numbers.{decimal_number, within, spaced_number}
use Rattle.dr_guestfile_lines.specs.Reading.{◌>>=◌, check, number_of, spaced_number_of}

-- the first step gave something, and the next gave the rest of it
pub record Steps {A B : Type 0} (m : Result A FileFault) (f : A → Result B FileFault) (y : B) : Type 0 where
  pub value : A
  pub is : m ≡ Ok value
  pub next : f value ≡ Ok y

pub steps : {A B : Type 0} (m : Result A FileFault) (f : A → Result B FileFault) (y : B) → (m >>= f) ≡ Ok y → Steps m f y
steps (Ok x) f y e = record { value = x; is = refl; next = e }
steps (Err x) f y e = absurd cc

pub passed : (test : Bool) (e : FileFault) (u : Unit {0}) → check test e ≡ Ok u → test ≡ true
passed true e u is = refl
passed false e u is = absurd cc

pub given : {A : Type 0} (found : Option A) (e : FileFault) (x : A) → ok_or found e ≡ Ok x → found ≡ Some x
given (Some y) e x is = cc
given None e x is = absurd cc

pub both : (a b : Bool) → (a && b) ≡ true → (a ≡ true) × (b ≡ true)
both true b e = (refl, e)
both false b e = absurd cc

in_range_at : (low high m n : ℕ) (a b : Bool) → nat_le low m ≡ a → nat_le m high ≡ b → (if a && b then Some m else None) ≡ Some n → (low ≤ n) × (n ≤ high)
in_range_at low high m n true true above below e =
    let same : m ≡ n = cc in
    (omega (arith, leb-true low m above), omega (arith, leb-true m high below))
in_range_at low high m n true false above below e = absurd cc
in_range_at low high m n false b above below e = absurd cc

in_range : (low high n : ℕ) (number : Option ℕ) → within low high number ≡ Some n → (low ≤ n) × (n ≤ high)
in_range low high n None e = absurd cc
in_range low high n (Some m) e = in_range_at low high m n (nat_le low m) (nat_le m high) refl refl e

-- a number that was read is in its range
pub number_range : (low high : ℕ) (word : List ℕ) (line n : ℕ) → number_of low high word line ≡ Ok n → (low ≤ n) × (n ≤ high)
number_range low high word line n e = in_range low high n (decimal_number word) (given (within low high (decimal_number word)) _ n e)

-- what a number with its space is
pub record IsSpaced (version bound : ℕ) (word : List ℕ) (x : ℕ × ℕ) : Type 0 where
  pub said : (spaced version word).0 ≡ x.0
  pub space : 1 ≤ version → x.0 < version
  pub two_spaces : x.0 ≤ 1
  pub most : x.1 ≤ bound

mapped : (space : ℕ) (found : Option ℕ) (x : ℕ × ℕ) → option_map (λ (n : ℕ). (space, n)) found ≡ Some x → (space ≡ x.0) × (found ≡ Some x.1)
mapped space None x e = absurd cc
mapped space (Some n) x e =
    let pair : ℕ × ℕ = (space, n) in
    let same : pair ≡ x = cc in
    (ap (λ (y : ℕ × ℕ). y.0) same, ap (λ (y : ℕ × ℕ). Some y.1) same)

-- a number with its space that was read is in its range
pub spaced_range : (version most : ℕ) (word : List ℕ) (line : ℕ) (x : ℕ × ℕ) → spaced_number_of version most word line ≡ Ok x → IsSpaced version most word x
spaced_range version most word line x e =
    let found = given (spaced_number version most word) _ x e in
    let parts = mapped (spaced version word).0 (within 0 most (decimal_number (spaced version word).1)) x found in
    record {
      said = parts.0;
      space = λ some. subst (λ (s : ℕ). s < version) parts.0 (spaced_below version word some);
      two_spaces = subst (λ (s : ℕ). s ≤ 1) parts.0 (spaced_few version word);
      most = (in_range 0 most x.1 (decimal_number (spaced version word).1) parts.1).1;
    }
