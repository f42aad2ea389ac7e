use Rattle.std.proofs.Common.{◌≡◌, map, take}
use Rattle.std.specs.List.{flat_map}
use Rattle.sequence_select.specs.Selections.{constant_values}
use Rattle.sequence_select.specs.Operands.{operand_value}
use Rattle.sequence_select.proofs.constants.operands.Given as goal

-- those of the constants so far
abbrev pub invariant-loop-constant : goal.invariant-loop-constant
invariant-loop-constant l = map operand_value l.operands ≡ flat_map constant_values (take l.constant-index l.constants)
