use Rattle.std.proofs.Common.{◌≡◌, ◌++◌, drop, map}
use Rattle.dap_types.specs.View.{members_view, tree_view}
use Rattle.netcdf_writer.specs.Variables.{tops_of}
use Rattle.netcdf_writer.specs.inner.Tables.{top_views}
use Rattle.netcdf_writer.proofs.tops.tops_of.Given as goal

abbrev pub invariant-loop-k : goal.invariant-loop-k
invariant-loop-k l = top_views l.tops.items ++ tops_of (members_view (drop l.k l.decls)) (map tree_view (drop l.k l.trees)) ≡ tops_of (members_view l.decls) (map tree_view l.trees)
