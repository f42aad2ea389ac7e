use Rattle.std.proofs.Common.{◌≡◌, map, take}
use Rattle.saved_source.specs.Responses.{renamed_column}
use Rattle.saved_source.proofs.renamed.columns.Given as goal

abbrev pub invariant-loop-one : goal.invariant-loop-one
invariant-loop-one l = l.renamed ≡ map renamed_column (take l.one-index l.columns)
