use Rattle.std.proofs.Common.{◌+◌, length, ap, ◌∙◌}
use Rattle.netcdf_writer.specs.inner.Tables.{variable_views}
use Rattle.netcdf_writer.proofs.Files.{cdf_is, cdf_length}
use Rattle.netcdf_writer.proofs.write.write_planned.Goals as goal

pub returns-in-Ok-send-clause-writes : goal.returns-in-Ok-send-clause-writes
returns-in-Ok-send-clause-writes g c =
    let vs = variable_views c.args.plan.now.variables.items in
    let told = rw c.as_slice-variables.ensures.value at (rw c.in-Some.is at c.in-Ok.ensures) in
    let is = cdf_is vs c.as_slice-header.result.now (c.as_slice-header.ensures.value ∙ told.1) in (
      told.0,
      ap (λ n. length c.as_slice-header.result.now + n) (rw c.as_slice-variables.ensures.value at c.fixed_bytes.ensures) ∙ cdf_length vs c.as_slice-header.result.now c.requires.filled is,
      rw (c.as_slice-variables.ensures.value, is) at c.in-Ok-send.ensures.ok,
    )

pub returns-clause-writes : goal.returns-clause-writes
returns-clause-writes g c =
    let vs = variable_views c.args.plan.now.variables.items in
    let told = rw c.as_slice-variables.ensures.value at (rw c.in-Some.is at c.in-Ok.ensures) in
    let is = cdf_is vs c.as_slice-header.result.now (c.as_slice-header.ensures.value ∙ told.1) in
    (told.0, rw (c.as_slice-variables.ensures.value, is) at c.in-Err.ensures.err)
