use Rattle.std.proofs.Common.{◌≡◌, ◌++◌, map, filter, drop}
use Rattle.das_text.specs.View.{entry_view}
use Rattle.netcdf_source.specs.Attributes.{variable_container}
use Rattle.netcdf_source.specs.Mapping.{is_offered}
use Rattle.netcdf_source.proofs.das.variable_containers.Given as goal

abbrev pub invariant-loop-variable : goal.invariant-loop-variable
invariant-loop-variable l =
    map entry_view l.containers ++ map variable_container (filter (is_offered l.contents) (drop l.variable-index l.contents.variables))
    ≡ map variable_container (filter (is_offered l.contents) l.contents.variables)
