use Rattle.std.proofs.Common.{◌≡◌, ◌++◌}
use Rattle.soak.specs.File.{header, state, values}
use Rattle.soak.proofs.file.soak_file.Given as goal

abbrev pub invariant-loop-value : goal.invariant-loop-value
invariant-loop-value l = record {
  so_far : l.bytes.items ≡ header l.fn.records ++ values l.start l.value;
  steps : l.state ≡ state l.start l.value;
}
