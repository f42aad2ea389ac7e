use Rattle.std.proofs.Common.{take}
use Rattle.dap_outside.specs.Stored.{AreBytes}
use Rattle.dap_outside.proofs.search.see_bytes.Given as goal

abbrev pub invariant-loop-file : goal.invariant-loop-file
invariant-loop-file l = AreBytes (take l.file-index l.files)
