use Rattle.std.proofs.Common.{◌≡◌, ◌++◌, drop}
use Rattle.netcdf_source.specs.Layouts.{row_steps}
use Rattle.netcdf_source.specs.Parts.{lengths}
use Rattle.netcdf_source.proofs.layouts.push_row_steps.Given as goal

abbrev pub invariant-loop-i : goal.invariant-loop-i
invariant-loop-i l = l.steps ++ row_steps l.size (lengths l.dimensions (drop l.i l.ids)) ≡ l.initial.steps ++ row_steps l.size (lengths l.dimensions l.ids)
