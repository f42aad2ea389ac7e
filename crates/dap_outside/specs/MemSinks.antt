-- Sinks in memory.
use Rattle.std.specs.Prelude.{ℕ, List}
use Rattle.dap_outside.specs.declared.memory_sink.MemSink.{MemSink}

-- what was written
abbrev pub written_of : MemSink → List ℕ
written_of s = s.buffer.items
