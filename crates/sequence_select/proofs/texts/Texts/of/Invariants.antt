use Rattle.std.proofs.Common.{◌≡◌, take}
use Rattle.sequence_select.specs.Operands.{texts_in}
use Rattle.sequence_select.proofs.texts.Texts.of.Given as goal

-- those of the constants so far
abbrev pub invariant-loop-operand : goal.invariant-loop-operand
invariant-loop-operand l = l.sorted.items ≡ texts_in (take l.operand-index l.operands)
