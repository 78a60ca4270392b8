-- The guest of the smallest run is valid.
use Rattle.std.proofs.Common.{ℕ, zero, suc, ◌+◌, ◌^◌, ◌<◌, ◌≤◌, [], ◌∷◌, length, get_or, refl, arith}
use lib.Count.{ones}
use Rattle.dr_types.specs.Validity.{IsValid}
use Rattle.dr_history_sample_law.specs.Smallest.{halting_guest}

all_one : {A : Type 0} (P : A → Type 0) (x : A) → P x → (k : ℕ) (d : A) → k < length (x ∷ []) → P (get_or (x ∷ []) k d)
all_one P x h zero d l = h
all_one P x h (suc k) d l = absurd (omega arith)

pub halting_is_valid : IsValid halting_guest
unfolding halting_guest ones
halting_is_valid = record {
  version_some = omega arith;
  version = omega arith;
  spaces = all_one (λ row. row.space < 1) _ (omega arith);
  settings = record {
    ring_least = omega arith;
    ring_most = omega arith;
    ring_power = refl;
    reserve_some = omega arith;
    reserve = omega arith;
    buffer = omega arith;
    room = omega arith;
    pace_some = omega arith;
    pace = omega arith;
    threshold = omega arith;
    rounds_some = omega arith;
    rounds = omega arith;
    quota = omega arith;
  };
  slots = record {
    some = omega arith;
    few = omega arith;
    spaces = all_one (λ row. row.space ≤ 1) _ (omega arith);
    ids = all_one (λ row. row.id ≤ 65535) _ (omega arith);
    some_pages = all_one (λ row. 1 ≤ row.pages) _ (omega arith);
    ends = all_one (λ row. row.base + row.pages ≤ 2 ^ 52) _ (omega arith);
    differ = (tt, tt);
    apart = (tt, tt);
    pages = omega arith;
  };
  copies = omega arith;
  some_vcpu = omega arith;
  vcpus = omega arith;
  scripts = (record { items = []; ends = refl; valid = tt }, tt);
  ops = omega arith;
}
