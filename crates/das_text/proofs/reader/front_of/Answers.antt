use Rattle.std.proofs.Common.{arith, length-take, sym}
use Rattle.std.proofs.lemmas.List.{take_all}
use Rattle.das_text.specs.Reading.{limit}
use Rattle.das_text.proofs.reader.front_of.Goals as goal

pub slice_bounds-result-end : goal.slice_bounds-result-end
slice_bounds-result-end c = omega (arith, length-take limit c.args.text.now)

pub returns-else-text-gt-LIMIT : goal.returns-else-text-gt-LIMIT
returns-else-text-gt-LIMIT c = sym (take_all limit c.args.text.now (omega arith))
