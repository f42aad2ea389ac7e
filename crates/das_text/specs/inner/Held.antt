-- What the values of the reader stand for.
use Rattle.std.specs.Prelude.{List, map, reverse}
use Rattle.das_text.specs.inner.Machine.{Around, State, begun, headed, inside, worded, named, valued, parted, ended}
use Rattle.das_text.specs.Model.{Entry}
use Rattle.das_text.specs.View.{attributes_view, entry_view}
use Rattle.das_text.specs.declared.levels.Around as code_around
use Rattle.das_text.specs.declared.levels.Levels.{Levels}
use Rattle.das_text.specs.declared.state.State as code_state
use Rattle.das_text.specs.declared.state.State.TheVariants as state

abbrev pub around_view : code_around.Around → Around
around_view a = record { entries = map entry_view a.entries; name = a.name }

-- what stands around each open container, the innermost first
abbrev pub outer_view : Levels → List Around
outer_view l = reverse (map around_view l.outer.items)

abbrev pub inner_view : Levels → List Entry
inner_view l = map entry_view l.inner

abbrev pub state_view : Levels → code_state.State → State
state_view l state.Begun = begun (outer_view l) (inner_view l)
state_view l state.Headed = headed (outer_view l) (inner_view l)
state_view l state.Inside = inside (outer_view l) (inner_view l)
state_view l (state.Worded w) = worded (outer_view l) (inner_view l) w
state_view l (state.Named a) = named (outer_view l) (inner_view l) a
state_view l (state.Valued a) = valued (outer_view l) (inner_view l) a
state_view l (state.Parted a) = parted (outer_view l) (inner_view l) a
state_view l (state.Ended a) = ended (attributes_view a)
