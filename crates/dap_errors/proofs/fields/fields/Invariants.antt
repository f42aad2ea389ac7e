use Rattle.std.proofs.Common.{length, ◌-◌, ◌≤◌, List, []}
use Rattle.dap_errors.specs.Object.{Field}
use Rattle.dap_errors.specs.inner.Machine.{Fields}
use Rattle.dap_errors.specs.inner.Standing.{StandsAt, Holds}
use Rattle.dap_errors.proofs.fields.fields.Given as goal

abbrev pub invariant-names : goal.invariant-names
invariant-names l = record {
  high : l.at ≤ length l.text;
  stands : StandsAt l.text l.fn.from (Fields []) → (done : List Field) × StandsAt l.text l.at (Fields done) × Holds l.found done;
}

abbrev pub decreases-names : goal.decreases-names
decreases-names l = length l.text - l.at
