use Rattle.std.proofs.Common.{◌≡◌, ◌++◌, map, filter, drop}
use Rattle.dap_types.specs.View.{member_view}
use Rattle.netcdf_source.specs.Mapping.{member_of, is_offered}
use Rattle.netcdf_source.proofs.mapping.members_of.Given as goal

abbrev pub invariant-loop-i : goal.invariant-loop-i
invariant-loop-i l =
    map member_view l.members ++ map (member_of l.contents) (filter (is_offered l.contents) (drop l.i l.contents.variables))
    ≡ map (member_of l.contents) (filter (is_offered l.contents) l.contents.variables)
