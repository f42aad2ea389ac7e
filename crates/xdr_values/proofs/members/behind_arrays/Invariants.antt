use Rattle.std.proofs.Common.{ℕ, List, drop}
use Rattle.dap_types.specs.Model.{Tree}
use Rattle.xdr_values.proofs.EachArray.{EachLeft}
use Rattle.xdr_values.specs.Walked.{StandEach}
use Rattle.xdr_values.proofs.members.behind_arrays.Given as goal

abbrev pub invariant-loop-array : goal.invariant-loop-array
invariant-loop-array l = (ts : List Tree) (rest : List ℕ) → StandEach l.arrays ts l.bytes rest → EachLeft (drop l.array-index l.arrays) l.rest rest
