use Rattle.std.proofs.Common.{◌≡◌, ◌+◌, drop}
use Rattle.std.specs.List.{position_from}
use Rattle.netcdf_source.specs.Parts.{is_past}
use Rattle.netcdf_source.proofs.extents.past_end.Given as goal

abbrev pub invariant-loop-i : goal.invariant-loop-i
invariant-loop-i l = position_from (is_past l.contents l.file_len) (l.i + 1) (drop l.i l.variables) ≡ position_from (is_past l.contents l.file_len) 1 l.contents.variables
