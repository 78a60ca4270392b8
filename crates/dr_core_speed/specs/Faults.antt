-- What a refused event or end says.
use Rattle.std.specs.Prelude.{ℕ}
use Rattle.dr_core.specs.declared.keeper.CoreFault.{CoreFault}
use Rattle.dr_core.specs.declared.keeper.CoreFault.TheVariants as core
use Rattle.dr_core_speed.specs.declared.fault.RunFault.{RunFault}
use Rattle.dr_core_speed.specs.declared.fault.RunFault.TheVariants.{Request, Refused, Guest, Memory}

-- the fault of a judge that took so many events
abbrev pub refusal_of : ℕ → CoreFault → RunFault
refusal_of taken (core.Illegal rule) = Refused taken rule
refusal_of taken core.Memory = Memory

-- the exit code of a fault
abbrev pub code_of : RunFault → ℕ
code_of Request = 1
code_of (Refused event rule) = 2
code_of (Guest why) = 3
code_of Memory = 4
