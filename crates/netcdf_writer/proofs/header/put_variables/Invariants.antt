use Rattle.std.proofs.Common.{◌≡◌, ◌+◌, ◌++◌, [], flat_map, take}
use Rattle.netcdf_writer.specs.File.{variable_trees, version_if}
use Rattle.netcdf_writer.specs.Printer.{variable_bytes}
use Rattle.netcdf_writer.specs.Variables.{fixed_bytes, record_bytes}
use Rattle.netcdf_writer.specs.inner.Tables.{variable_views}
use Rattle.netcdf_writer.proofs.header.put_variables.Given as goal

abbrev pub invariant-loop-variable : goal.invariant-loop-variable
invariant-loop-variable l =
    let all = variable_views l.variables in
    let earlier = variable_views (take l.variable-index l.variables) in
    record {
      fixed : l.fixed ≡ l.front + fixed_bytes earlier;
      records : l.records ≡ l.front + fixed_bytes all + record_bytes earlier;
      out : l.out.items ≡ l.fn.out.items ++ flat_map (variable_bytes (version_if l.is_five)) (variable_trees l.front all [] earlier);
    }
