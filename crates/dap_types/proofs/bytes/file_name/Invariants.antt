use Rattle.std.proofs.Common.{◌≡◌, take}
use Rattle.std.specs.List.{flat_map}
use Rattle.dap_types.specs.Names.{escaped_byte}
use Rattle.dap_types.proofs.bytes.file_name.Given as goal

abbrev pub invariant-loop-byte : goal.invariant-loop-byte
invariant-loop-byte l = l.out.items ≡ flat_map escaped_byte (take l.byte-index l.bytes)
