use Rattle.std.proofs.Common.{◌≡◌, take}
use Rattle.std.specs.List.{flat_map}
use Rattle.file_names.specs.Names.{dataset_name_byte}
use Rattle.file_names.proofs.names.dataset_id.Given as goal

abbrev pub invariant-loop-byte : goal.invariant-loop-byte
invariant-loop-byte l = l.name.items ≡ flat_map dataset_name_byte (take l.byte-index l.byte-items)
