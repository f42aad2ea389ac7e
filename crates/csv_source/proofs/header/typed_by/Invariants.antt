use Rattle.std.proofs.Common.{◌≡◌, drop}
use Rattle.csv_source.specs.Header.{typed_by}
use Rattle.csv_source.proofs.header.typed_by.Given as goal

-- what is left decides
abbrev pub invariant-loop-base : goal.invariant-loop-base
invariant-loop-base l = typed_by l.bases l.field ≡ typed_by (drop l.base-index l.bases) l.field
