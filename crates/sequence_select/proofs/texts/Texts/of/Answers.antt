use Rattle.std.proofs.Common.{rules}
use Rattle.std.proofs.lemmas.List.Sorted.{ranks_by, answers_always}
use Rattle.std.specs.Cmp.Lexicographic.{nat_list_cmp_total, slice_cmp}
use Rattle.std.specs.Ordering.{is_lt, nat_cmp}
use Rattle.sequence_select.proofs.texts.Texts.of.Goals as goal

pub invariant_of-result : goal.invariant_of-result
invariant_of-result c = record {
  rise = c.sort_unstable_by.ensures.sorted (λ x y. is_lt (slice_cmp nat_cmp x y)) (ranks_by nat_list_cmp_total (λ x. x)) (answers_always _ _ _ (λ f a r g called. search rules));
}
