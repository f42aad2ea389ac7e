use Rattle.std.proofs.Common.{◌≡◌, ◌∙◌, ap, refl, subst, sym}
use Rattle.std.specs.Cmp.{int_cmp_total, signed_Decides}
use Rattle.std.specs.List.{dedup, list_any}
use Rattle.std.specs.List.Sorted.{IsSorted}
use Rattle.std.specs.Ordering.{int_cmp, int_eq}
use Rattle.std.proofs.lemmas.List.Filters.{dedup_is}
use Rattle.std.proofs.lemmas.List.Kept.{IsStrictlySortedBy-dedup}
use Rattle.std.proofs.lemmas.List.Sorted.{list_any-IsPermutation}
use Rattle.sequence_select.proofs.Distinct.{any-dedup, sorted-from_strict}
use Rattle.sequence_select.proofs.numbers.in_order.Goals as goal

pub returns : goal.returns
returns c =
    let sorted = c.sort_unstable.new.self.items in
    let once : c.dedup.new.self.items ≡ dedup int_eq sorted = dedup_is int_eq sorted c.dedup.new.self.items c.dedup.ensures.filtered in
    record {
      rise = subst (IsSorted int_cmp) (sym once) (sorted-from_strict int_cmp_total (dedup int_eq sorted) (IsStrictlySortedBy-dedup int_cmp_total (λ x y. refl) sorted c.sort_unstable.ensures.sorted));
      same = λ p. ap (list_any p) once ∙ any-dedup int_eq (λ x y. (signed_Decides x y).0) p sorted ∙ sym (list_any-IsPermutation p _ _ c.sort_unstable.ensures.permutation);
    }
