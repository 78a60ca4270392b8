use Rattle.std.proofs.Common.{◌≡◌, replicate, map, take}
use Rattle.dr_types.specs.Scripts.{expanded}
use Rattle.dr_state.proofs.script_fields.Running.new.Given as goal

abbrev pub invariant-loop-script : goal.invariant-loop-script
invariant-loop-script l = record {
  readers : l.readers.items ≡ map expanded (take l.script-index l.script-items);
  registers : l.registers.items ≡ replicate l.script-index 0;
}
