use Rattle.std.proofs.Common.{sym, ◌∙◌}
use Rattle.std.specs.Float.{binary32}
use Rattle.csv_source.proofs.Bits.{bits-read, never-too-large, no-bits-read}
use Rattle.csv_source.proofs.numbers.bits32.Goals as goal

pub returns-in-Bits : goal.returns-in-Bits
returns-in-Bits c = bits-read binary32 c.args.field.now c.in-Bits.bits (sym c.read32.ensures ∙ c.in-Bits.is)

pub returns-in-TooLarge : goal.returns-in-TooLarge
returns-in-TooLarge c = absurd (never-too-large binary32 c.args.field.now (sym c.read32.ensures ∙ c.in-TooLarge.is))

pub returns-in-NoFloat : goal.returns-in-NoFloat
returns-in-NoFloat c = no-bits-read binary32 c.args.field.now (sym c.read32.ensures ∙ c.in-NoFloat.is)
