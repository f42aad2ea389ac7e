use Rattle.std.proofs.Common.{◌≡◌, ◌-◌, ℕ, List, length}
use Rattle.dap_types.specs.declared.values.Value.{Value}
use Rattle.xdr_values.proofs.TextRuns.{ElementsLeft}
use Rattle.xdr_values.specs.Walked.{StandElements}
use Rattle.xdr_values.proofs.elements.behind_texts.Given as goal

abbrev pub invariant-loop : goal.invariant-loop
invariant-loop l = (vs : List Value) (rest : List ℕ) → length vs ≡ l.count → StandElements l.base vs l.bytes rest → ElementsLeft l.base (l.count - l.counter) l.rest rest
