use Rattle.std.proofs.Common.{◌≡◌, take}
use Rattle.sequence_select.specs.Operands.{numbers_in}
use Rattle.sequence_select.proofs.numbers.Numbers.of.Given as goal

-- those of the constants so far
abbrev pub invariant-loop-operand : goal.invariant-loop-operand
invariant-loop-operand l = l.sorted.items ≡ numbers_in (take l.operand-index l.operands)
