-- What the clauses in the code are as selections.
use Rattle.std.specs.Prelude.{List, map}
use Rattle.dap_model.specs.Rows.{Selection}
use Rattle.sequence_select.specs.Operands.{operand_value}
use Rattle.sequence_select.specs.Selections.{relation_of}
use Rattle.sequence_select.specs.declared.clauses.Tests.{Tests}
use Rattle.sequence_select.specs.declared.comparison.Test.{Test}

abbrev pub selection_of : Test → Selection
selection_of test = record { column = test.column; relation = relation_of test.op; values = map operand_value test.operands }

-- the clauses of a constraint
abbrev pub tested : Tests → List Selection
tested tests = map selection_of tests.tests
