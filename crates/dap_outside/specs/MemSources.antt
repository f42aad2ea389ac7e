-- Sources in memory.
use Rattle.std.specs.Prelude.{ℕ, List, drop}
use Rattle.dap_outside.specs.declared.memory_source.MemSource.{MemSource}
use Rattle.dap_outside.specs.declared.sure_source.SureSource.{SureSource}

-- the whole input, and what is left of it
abbrev pub input_of : MemSource → List ℕ
input_of s = s.bytes

abbrev pub left_of : MemSource → List ℕ
left_of s = drop s.at s.bytes

-- the same of a source that never fails
abbrev pub sure_left : SureSource → List ℕ
sure_left s = drop s.at s.bytes
