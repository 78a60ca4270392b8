-- A guest that a guest file can say can be judged.
use Rattle.std.proofs.Common.{◌<◌, ℕ, List, [], ◌∷◌, length, get_or, zero, suc, arith}
use Rattle.std.specs.Prelude.{All}
use Rattle.std.proofs.lemmas.List.Elements.{All-from_get_or}
use Rattle.dr_types.specs.declared.guest.SlotRow.{SlotRow}
use Rattle.dr_types.specs.declared.guest.Item.{Item}
use Rattle.dr_types.specs.declared.guest.Guest.{Guest}
use Rattle.dr_types.specs.Validity.{AreScripts, IsValid}
use Rattle.dr_history_law.specs.Limits.{FitsLimits}
use Rattle.dr_history_law.specs.Room.{FitsRing}
use Rattle.dr_script.specs.Places.{AllRun}
use Rattle.dr_script.proofs.Runs.{script_runs}
use Rattle.dr_state.specs.Whole.{FitsState}

run_at : (slots : List SlotRow) (scripts : List (List Item)) (v : ℕ) (d : List Item)
    → AreScripts slots scripts → v < length scripts → AllRun (get_or scripts v d)
run_at slots [] v d are lt = absurd (omega arith)
run_at slots (script ∷ scripts) zero d are lt = script_runs slots script are.0
run_at slots (script ∷ scripts) (suc v) d are lt = run_at slots scripts v d are.1 (omega arith)

pub scripts_run : (slots : List SlotRow) (scripts : List (List Item)) → AreScripts slots scripts → All AllRun scripts
scripts_run slots scripts are = All-from_get_or AllRun scripts [] (λ v lt. run_at slots scripts v [] are lt)

pub fits_limits : (guest : Guest) → IsValid guest → FitsLimits guest
fits_limits guest valid = record { ring = valid.settings.ring_most; scripts = valid.ops }

pub fits_ring : (guest : Guest) → IsValid guest → FitsRing guest
fits_ring guest valid = record { reserve = valid.settings.reserve_some; ring = valid.settings.room }

pub fits_state : (guest : Guest) → IsValid guest → FitsState guest
fits_state guest valid = record {
  pages = omega (arith, valid.slots.pages);
  vcpus = omega (arith, valid.vcpus);
  slots = valid.slots;
  some_vcpu = valid.some_vcpu;
  few_vcpus = valid.vcpus;
  quota = valid.settings.quota;
  limits = fits_limits guest valid;
  run = scripts_run guest.slots guest.scripts valid.scripts;
}
