use Rattle.std.proofs.Common.{◌∙◌}
use Rattle.netcdf_writer.specs.inner.Tables.{variable_views}
use Rattle.netcdf_writer.proofs.Headers.{header_again, header_fits, header_too_long, put_first}
use Rattle.netcdf_writer.proofs.header.header.Goals as goal

pub returns-then-front-gt-MOST_HEADER : goal.returns-then-front-gt-MOST_HEADER
returns-then-front-gt-MOST_HEADER c =
    header_too_long (variable_views c.args.variables.now) _ (c.as_slice-front.ensures.value ∙ put_first _ _ _ c.new-bytes.ensures.items c.in_ok-put_header.ensures) c.if-front-gt-MOST_HEADER.true

pub returns : goal.returns
returns c =
    let is = c.as_slice-front.ensures.value ∙ put_first _ _ _ c.new-bytes.ensures.items c.in_ok-put_header.ensures in (
      header_fits (variable_views c.args.variables.now) _ is c.if-front-gt-MOST_HEADER.false,
      header_again (variable_views c.args.variables.now) _ _ is (put_first _ _ _ c.clear.ensures.items c.in_ok-put_header-2.ensures),
    )
