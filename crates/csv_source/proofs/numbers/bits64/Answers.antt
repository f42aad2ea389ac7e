use Rattle.std.proofs.Common.{sym, ◌∙◌}
use Rattle.std.specs.Float.{binary64}
use Rattle.csv_source.proofs.Bits.{bits-read, never-too-large, no-bits-read}
use Rattle.csv_source.proofs.numbers.bits64.Goals as goal

pub returns-in-Bits : goal.returns-in-Bits
returns-in-Bits c = bits-read binary64 c.args.field.now c.in-Bits.bits (sym c.read64.ensures ∙ c.in-Bits.is)

pub returns-in-TooLarge : goal.returns-in-TooLarge
returns-in-TooLarge c = absurd (never-too-large binary64 c.args.field.now (sym c.read64.ensures ∙ c.in-TooLarge.is))

pub returns-in-NoFloat : goal.returns-in-NoFloat
returns-in-NoFloat c = no-bits-read binary64 c.args.field.now (sym c.read64.ensures ∙ c.in-NoFloat.is)
