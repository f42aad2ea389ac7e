use Rattle.std.proofs.Common.{◌≡◌, ◌≤◌, ◌-◌, drop, length}
use Rattle.netcdf_writer.specs.Names.{undone}
use Rattle.netcdf_writer.proofs.Undoing.{behind}
use Rattle.netcdf_writer.proofs.names.undo.Given as goal

abbrev pub invariant-loop-at : goal.invariant-loop-at
invariant-loop-at l = record {
  so : undone l.name ≡ behind l.room.items (undone (drop l.at l.name));
  within : l.at ≤ length l.name;
}

abbrev pub decreases-loop-at : goal.decreases-loop-at
decreases-loop-at l = length l.name - l.at
