-- What each vCPU executes of its script.
use Rattle.std.specs.Prelude.{◌≡◌, ◌⊎◌, ℕ, ◌%◌, if◌then◌else◌, List, [], ◌∷◌, ◌++◌, Some}
use Rattle.dr_types.specs.declared.guest.Guest.{Guest}
use Rattle.dr_types.specs.declared.guest.Op.TheVariants as op
use Rattle.dr_types.specs.Pages.{page_of_address, page_of_frame}
use Rattle.dr_types.specs.Scripts.{operation}
use Rattle.dr_history.specs.declared.event.Event.{Event}
use Rattle.dr_history.specs.declared.event.Event.TheVariants.{Read, Write, Paint, Local, Halted}
use Rattle.dr_history.specs.Lookback.{below}
use Rattle.dr_history.specs.Kinds.{is_op_of}
use Rattle.dr_history.specs.Memory.{page_bytes, loaded}
use Rattle.dr_history.specs.Execution.{ops, acc}

-- the number that an operation has in its script
abbrev pub number_of : Event → ℕ
number_of (Read v i space address value) = i
number_of (Write v i space address len value) = i
number_of (Paint v i page byte) = i
number_of (Local v i) = i
number_of (Halted v i) = i
number_of e = 0

-- the numbers of the vCPU's operations, the oldest first
abbrev pub op_numbers : ℕ → List Event → List ℕ
op_numbers v [] = []
op_numbers v (e ∷ earlier) =
    if is_op_of v e then op_numbers v earlier ++ number_of e ∷ [] else op_numbers v earlier

-- each of them once, in order, from 0 on
abbrev pub ExecutesInOrder : ℕ → List Event → Type 0
ExecutesInOrder v past = op_numbers v past ≡ below (ops v past)

-- the value is what memory has at the address of the space
abbrev pub IsInMemory : Guest → List Event → ℕ → ℕ → ℕ → Type 0
IsInMemory guest earlier space address value =
    (page : ℕ) × (page_of_address guest space address ≡ Some page)
    × (value ≡ loaded (page_bytes guest page earlier) (address % 4096))

-- the event is the vCPU's next operation, the one of that number in its script
abbrev pub Performs : Guest → List Event → ℕ → Event → Type 0
Performs guest earlier v (Read w i space address value) =
    (i ≡ ops v earlier)
    × (operation guest v i ≡ Some (op.R space address))
    × IsInMemory guest earlier space address value
Performs guest earlier v (Write w i space address len value) =
    (i ≡ ops v earlier)
    × ((operation guest v i ≡ Some (op.W space address len value))
    ⊎ ((operation guest v i ≡ Some (op.S space address)) × (len ≡ 8)
    × (value ≡ acc guest v earlier)))
Performs guest earlier v (Paint w i page byte) =
    (i ≡ ops v earlier)
    × ((space frame : ℕ) × (operation guest v i ≡ Some (op.F space frame byte))
    × (page_of_frame guest.slots space frame ≡ Some page))
Performs guest earlier v (Local w i) =
    (i ≡ ops v earlier)
    × (((n : ℕ) × (operation guest v i ≡ Some (op.A n)))
    ⊎ ((us : ℕ) × (operation guest v i ≡ Some (op.Nap us))))
Performs guest earlier v (Halted w i) = (i ≡ ops v earlier) × (operation guest v i ≡ Some op.Halt)
Performs guest earlier v e = ⊥
