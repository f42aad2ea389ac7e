-- Where a reader of a DAS stands, for the contracts of its parts.
use Rattle.std.specs.Prelude.{ℕ, List}
use Rattle.text_tokens.specs.inner.Machines.{StandsAt, StopsBad, StopsOpen}
use Rattle.das_text.specs.Grammar.{signs}
use Rattle.das_text.specs.inner.Machine.{State, start, step, IsOpenState}
use Rattle.das_text.specs.declared.state.Stop.{Stop}
use Rattle.das_text.specs.declared.state.Stop.TheVariants.{Bad, End, Memory}

-- the whole tokens before the place lead to the state
abbrev pub Stands : List ℕ → ℕ → State → Type 0
Stands text at s = StandsAt signs step start text at s

-- why the reading stopped
abbrev pub StopsAt : List ℕ → Stop → Type 0
StopsAt text (Bad place) = StopsBad signs step start IsOpenState text place
StopsAt text End = StopsOpen signs step start IsOpenState text
StopsAt text Memory = Unit {0}
