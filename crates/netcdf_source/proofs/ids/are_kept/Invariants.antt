use Rattle.std.proofs.Common.{◌≡◌, drop}
use Rattle.std.specs.Prelude.{◌&&◌}
use Rattle.std.specs.List.{list_all}
use Rattle.dap_types.specs.Names.{is_kept_byte}
use Rattle.netcdf_source.proofs.ids.are_kept.Given as goal

abbrev pub invariant-loop-byte : goal.invariant-loop-byte
invariant-loop-byte l = (l.kept && list_all is_kept_byte (drop l.byte-index l.name)) ≡ list_all is_kept_byte l.name
