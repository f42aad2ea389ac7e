use Rattle.std.proofs.Common.{◌∙◌}
use Rattle.netcdf_source.proofs.AttributeValues.{words-here, words-end}
use Rattle.netcdf_source.proofs.das.numbers.Goals as goal

pub loop-piece-preserved : goal.loop-piece-preserved
loop-piece-preserved c = record {
  size = c.in-Some.ensures.steps.0 ∙ c.loop-piece.invariant.size;
  words = words-here _ _ _ _ _ _ _ _ c.in_ok-word_of.ensures c.in_ok-push.ensures.ok c.in-Some.ensures.steps.1.0 (c.in-Some.ensures.steps.1.1 ∙ c.loop-piece.invariant.size) c.loop-piece.invariant.words;
}

pub returns : goal.returns
returns c = words-end _ _ _ _ (rw (← c.loop-piece.invariant.size) c.in-None.ensures.steps.1.0) c.loop-piece.invariant.words
