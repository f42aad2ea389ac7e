use Rattle.std.proofs.Common.{◌≡◌, ◌++◌, map, length}
use Rattle.das_text.specs.View.{entry_view}
use Rattle.netcdf_source.specs.Attributes.{entry_of}
use Rattle.netcdf_source.proofs.das.entries_of.Given as goal

abbrev pub invariant-loop-attribute : goal.invariant-loop-attribute
invariant-loop-attribute l = map entry_view l.entries ++ map entry_of l.unread ≡ map entry_of l.attributes

abbrev pub decreases-loop-attribute : goal.decreases-loop-attribute
decreases-loop-attribute l = length l.unread
