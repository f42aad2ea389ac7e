use Rattle.std.proofs.Common.{◌≡◌, map, take}
use Rattle.saved_source.specs.Responses.{renamed_array}
use Rattle.saved_source.proofs.renamed.arrays.Given as goal

abbrev pub invariant-loop-one : goal.invariant-loop-one
invariant-loop-one l = l.renamed ≡ map renamed_array (take l.one-index l.arrays)
