use Rattle.std.proofs.Common.{◌∙◌, sym, arith}
use Rattle.netcdf_source.proofs.AttributeValues.{zero-before, other-before, none-before}
use Rattle.netcdf_source.proofs.das.without_zeros.Goals.{then-loop-end-test+else-bytes-end-eq0, else-loop-end-test}
use Rattle.netcdf_source.proofs.das.without_zeros.Goals as goal

pub loop-end-preserved : goal.loop-end-preserved
loop-end-preserved c = record {
  within = omega arith;
  same = zero-before _ _ c.loop-end-test.true c.loop-end.invariant.within c.if-bytes-end-eq0.true ∙ c.loop-end.invariant.same;
}

pub returns-clause-same : goal.returns-clause-same
returns-clause-same c =
    elim c.loop-end-test.branch [
      | then-loop-end-test+else-bytes-end-eq0 w ↦ sym (other-before _ _ w.loop-end-test.true c.loop-end.invariant.within w.if-bytes-end-eq0.false) ∙ c.loop-end.invariant.same
      | else-loop-end-test w ↦ sym (none-before _ _ w.loop-end-test.false) ∙ c.loop-end.invariant.same
    ]
