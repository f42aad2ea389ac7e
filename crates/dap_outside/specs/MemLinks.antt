-- Links in memory.
use Rattle.std.specs.Prelude.{◌≡◌, ℕ, false, List, [], drop}
use Rattle.dap_outside.specs.declared.memory_link.MemLink.{MemLink}

-- the whole input, and what is left of it
abbrev pub input_of : MemLink → List ℕ
input_of l = l.source.bytes

abbrev pub unread_of : MemLink → List ℕ
unread_of l = drop l.source.at l.source.bytes

-- what was written, and how much can be
abbrev pub written_of : MemLink → List ℕ
written_of l = l.sink.buffer.items

abbrev pub room_of : MemLink → ℕ
room_of l = l.sink.room

-- the numbers of the calls of `take`, and of those of `put`, that fail
abbrev pub take_list : MemLink → List ℕ
take_list l = l.source.calls.fails

abbrev pub put_list : MemLink → List ℕ
put_list l = l.sink.calls.fails

-- it is as it was made: nothing was taken or written, and nothing was asked of it
pub record IsNew (l : MemLink) : Type 0 where
  pub none_taken : l.source.at ≡ 0
  pub going : l.source.ended ≡ false
  pub no_take : l.source.calls.made ≡ 0
  pub take_faults : l.source.calls.faults ≡ 0
  pub none_written : l.sink.buffer.items ≡ []
  pub no_put : l.sink.calls.made ≡ 0
  pub put_faults : l.sink.calls.faults ≡ 0
