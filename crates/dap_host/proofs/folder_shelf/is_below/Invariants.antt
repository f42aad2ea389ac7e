use Rattle.std.proofs.Common.{◌≡◌, drop}
use Rattle.dap_host.specs.Folder.{has_segments}
use Rattle.dap_host.proofs.folder_shelf.is_below.Given as goal

abbrev pub invariant-loop-i : goal.invariant-loop-i
invariant-loop-i l = has_segments (drop l.i l.name) ≡ has_segments l.name
