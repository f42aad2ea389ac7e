use Rattle.std.proofs.Common.{◌∙◌, sym, ap}
use Rattle.std.specs.List.{list_any}
use Rattle.std.proofs.lemmas.List.Sorted.{list_any-IsPermutation}
use Rattle.sequence_select.specs.Operands.{numbers_in, texts_in}
use Rattle.sequence_select.proofs.clauses.push_test.Goals as goal

pub invariant_of-push : goal.invariant_of-push
invariant_of-push c = record {
  same_numbers = λ p. c.in_ok-numbers.ensures p ∙ ap (λ os. list_any p (numbers_in os)) c.items-3.ensures;
  same_texts = λ p. sym (list_any-IsPermutation p _ _ c.in_ok-texts.ensures) ∙ ap (λ os. list_any p (texts_in os)) c.items-4.ensures;
}
