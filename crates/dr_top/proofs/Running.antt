-- What it tells that the words are `run`.
use Rattle.std.proofs.Common.{◌≡◌, ℕ, true, false, refl, List, Option, Some, None}
use Rattle.dr_types.specs.declared.status.Status.{Status}
use Rattle.dr_command.specs.declared.command.Command.{Command}
use Rattle.dr_command.specs.declared.command.Command.TheVariants.{Step, Run, Load}
use Rattle.dr_command.specs.Words.{says_load, says_run, says_step}
use Rattle.dr_machine.specs.Views.{KeptView}
use Rattle.dr_plain.specs.Commands.{PutsNone}

-- they aren't `step`
pub run_no_step : (said : Option Command) → says_run said ≡ true → says_step said ≡ false
run_no_step (Some (Run paths)) is = refl
run_no_step (Some (Step paths)) is = cc is
run_no_step (Some (Load paths)) is = refl
run_no_step None is = refl

-- nor `load`
pub run_no_load : (said : Option Command) → says_run said ≡ true → says_load said ≡ false
run_no_load (Some (Run paths)) is = refl
run_no_load (Some (Load paths)) is = cc is
run_no_load (Some (Step paths)) is = refl
run_no_load None is = refl

-- and nothing is put where nothing is kept
pub run_puts_none : (said : Option Command) (s : Option Status) (kept : Option KeptView) → says_run said ≡ true → kept ≡ None → PutsNone said s kept
run_puts_none (Some (Run paths)) s kept is none = none
run_puts_none (Some (Step paths)) s kept is none = none
run_puts_none (Some (Load paths)) s kept is none = cc is
run_puts_none None s kept is none = none
