-- What the files of a shelf in memory hold.
use Rattle.std.specs.Prelude.{All, List}
use Rattle.dap_outside.specs.Files.{IsBytes}
use Rattle.dap_outside.specs.declared.memory_shelf.MemFile.{MemFile}

-- what each file holds are bytes
abbrev pub AreBytes : List MemFile → Type 0
AreBytes files = All (λ file. IsBytes file.bytes) files
