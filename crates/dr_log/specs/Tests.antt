-- Tests of the state.
use Rattle.std.specs.Prelude.{ℕ, Bool, false, ◌||◌, nat_le, List, slice_index_or}
use Rattle.dr_state.specs.declared.entry_fields.OpenedEntry.{OpenedEntry}
use Rattle.dr_state.specs.declared.vcpus.Vcpu.{Vcpu}

-- the entry of this number is deposited
abbrev pub deposited_at : List OpenedEntry → ℕ → Bool
deposited_at entries k =
    (slice_index_or entries k (record { page = 0; deposited = false })).deposited

-- a vCPU has executed enough, or has halted
abbrev pub row_paced : ℕ → Vcpu → Bool
row_paced pace row = nat_le pace row.ops || row.halted

-- it has done so since the last Asked
abbrev pub row_paced_recently : ℕ → Vcpu → Bool
row_paced_recently pace row = nat_le pace row.recent || row.halted

-- a vCPU is kicked
abbrev pub row_kicked : Vcpu → Bool
row_kicked row = row.kicked

-- all that it had opened where a round was asked is reset
abbrev pub row_covered : Vcpu → Bool
row_covered row = nat_le row.asked_opens row.resets
