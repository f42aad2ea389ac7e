-- What a search finds, and that the least and the greatest decide, in an ascending list.
use Rattle.std.proofs.Common.{◌≡◌, ◌<◌, ◌≤◌, ◌+◌, ℕ, Bool, true, false, List, Result, Ok, Err, length, get_or, ⊎_elim, refl, sym, ap, ◌∙◌, arith}
use Rattle.std.specs.Prelude.{◌||◌, is_ok}
use Rattle.std.specs.Cmp.{IsTotalOrder, alike_right}
use Rattle.std.specs.List.{Any, list_any}
use Rattle.std.specs.List.Sorted.{IsBinarySearchResult, IsSearchInRange, IsSorted}
use Rattle.std.specs.Ordering.{is_eq, is_gt, is_lt, ordering_reverse}
use Rattle.std.specs.declared.cmp.Ordering.{Ordering}
use Rattle.std.specs.declared.cmp.Ordering.TheVariants.{Less, Equal, Greater}
use Rattle.std.proofs.lemmas.Bool.{cases_lt}
use Rattle.std.proofs.lemmas.List.{get_or_default}
use Rattle.std.proofs.lemmas.List.Folds.{Any-from_list_any, list_any_at, list_any_none}
use Rattle.std.proofs.lemmas.List.Sorted.{ranks_by, searchable_from_sorted, sorted_far}
use Rattle.constraint_parse.specs.declared.constraint.Op.{Op}
use Rattle.constraint_parse.specs.declared.constraint.Op.TheVariants as ops
use Rattle.sequence_select.specs.Selections.{relation_of}

module _ {K : Type 0} {R : K → K → Ordering} (o : IsTotalOrder R) where
  -- how two stand the other way round
  turned : (x y : K) (r : Ordering) → R x y ≡ r → R y x ≡ ordering_reverse r
  turned x y r is = o.antisymm y x ∙ ap ordering_reverse is

  -- below one, and so below what is not below that one
  below : (a x l : K) (r : Ordering) → R l x ≡ r → is_lt r ≡ false → R a x ≡ Less → R a l ≡ Less
  below a x l Less is high e = cc high
  below a x l Equal is high e = sym (alike_right o x l a (turned l x Equal is)) ∙ e
  below a x l Greater is high e = o.trans a x l e (turned l x Greater is)

  above : (a x f : K) (r : Ordering) → R x f ≡ r → is_lt r ≡ false → R a x ≡ Greater → R a f ≡ Greater
  above a x f Less is low e = cc low
  above a x f Equal is low e = sym (alike_right o x f a is) ∙ e
  above a x f Greater is low e = turned f a Less (o.trans f x a (turned x f Greater is) (turned a x Greater e))

  turned-gt : (r : Ordering) → is_lt r ≡ false → is_gt (ordering_reverse r) ≡ false
  turned-gt Less low = cc low
  turned-gt Equal low = refl
  turned-gt Greater low = refl

  level_below : (a x l : K) → is_lt (R l x) ≡ false → R a x ≡ Equal → is_gt (R a l) ≡ false
  level_below a x l high e = ap is_gt (o.congr a x l e) ∙ ap is_gt (turned l x (R l x) refl) ∙ turned-gt (R l x) high

  level_above : (a x f : K) → is_lt (R x f) ≡ false → R a x ≡ Equal → is_lt (R a f) ≡ false
  level_above a x f low e = ap is_lt (o.congr a x f e) ∙ low

  no-lt : (r : Ordering) → is_lt r ≡ false → relation_of ops.GreaterEqual r ≡ true
  no-lt Less low = cc low
  no-lt Equal low = refl
  no-lt Greater low = refl

  no-gt : (r : Ordering) → is_gt r ≡ false → relation_of ops.LessEqual r ≡ true
  no-gt Less high = refl
  no-gt Equal high = refl
  no-gt Greater high = cc high

  left : (a b : Bool) → a ≡ true → (a || b) ≡ true
  left true b is = refl
  left false b is = cc is

  right : (a b : Bool) → b ≡ true → (a || b) ≡ true
  right true b is = refl
  right false b is = is

  -- what stands in a relation to one, stands in it to what is not above that one, or to what is not below it
  either : (op : Op) → (op ≡ ops.Equal → ⊥) → (a x f l : K) → is_lt (R x f) ≡ false → is_lt (R l x) ≡ false → (r : Ordering) → R a x ≡ r → relation_of op r ≡ true
      → (relation_of op (R a f) || relation_of op (R a l)) ≡ true
  either ops.Equal other a x f l low high r is e = absurd (other refl)
  either ops.NotEqual other a x f l low high Less is e = right _ _ (ap (relation_of ops.NotEqual) (below a x l (R l x) refl high is))
  either ops.NotEqual other a x f l low high Equal is e = cc e
  either ops.NotEqual other a x f l low high Greater is e = left _ _ (ap (relation_of ops.NotEqual) (above a x f (R x f) refl low is))
  either ops.Less other a x f l low high Less is e = right _ _ (ap (relation_of ops.Less) (below a x l (R l x) refl high is))
  either ops.Less other a x f l low high Equal is e = cc e
  either ops.Less other a x f l low high Greater is e = cc e
  either ops.LessEqual other a x f l low high Less is e = right _ _ (ap (relation_of ops.LessEqual) (below a x l (R l x) refl high is))
  either ops.LessEqual other a x f l low high Equal is e = right _ _ (no-gt (R a l) (level_below a x l high is))
  either ops.LessEqual other a x f l low high Greater is e = cc e
  either ops.Greater other a x f l low high Less is e = cc e
  either ops.Greater other a x f l low high Equal is e = cc e
  either ops.Greater other a x f l low high Greater is e = left _ _ (ap (relation_of ops.Greater) (above a x f (R x f) refl low is))
  either ops.GreaterEqual other a x f l low high Less is e = cc e
  either ops.GreaterEqual other a x f l low high Equal is e = left _ _ (no-lt (R a f) (level_above a x f low is))
  either ops.GreaterEqual other a x f l low high Greater is e = left _ _ (ap (relation_of ops.GreaterEqual) (above a x f (R x f) refl low is))

  both_ways : (a b : Bool) → (a ≡ true → b ≡ true) → (b ≡ true → a ≡ true) → a ≡ b
  both_ways true b on back = sym (on refl)
  both_ways false true on back = back refl
  both_ways false false on back = refl

  only-right : (a b : Bool) → a ≡ false → (a || b) ≡ true → b ≡ true
  only-right true b none e = cc none
  only-right false b none e = e

  -- no later one stands below an earlier one
  rises : (xs : List K) → IsSorted R xs → (i j : ℕ) (d : K) → i ≤ j → j < length xs → is_lt (R (get_or xs j d) (get_or xs i d)) ≡ false
  rises xs up i j d le lt = sorted_far (λ x y. is_lt (R x y)) (ranks_by o (λ x. x)) xs up i j d le lt

  -- where the least does not decide, the greatest does
  pub last_decides : (op : Op) → (op ≡ ops.Equal → ⊥) → (xs : List K) → IsSorted R xs → (a first last : K) (end : ℕ) → end + 1 ≡ length xs → first ≡ get_or xs 0 first → last ≡ get_or xs end last
      → relation_of op (R a first) ≡ false → relation_of op (R a last) ≡ list_any (λ b. relation_of op (R a b)) xs
  last_decides op other xs up a first last end long first_is last_is none =
      both_ways _ _ (λ e. list_any_at (λ b. relation_of op (R a b)) xs end last (omega (arith, long)) (ap (λ b. relation_of op (R a b)) (sym last_is) ∙ e))
      (λ e. from (Any-from_list_any (λ b. relation_of op (R a b)) xs e))
    where
      from : Any (λ b. relation_of op (R a b) ≡ true) xs → relation_of op (R a last) ≡ true
      from (k, x, within, x_is, stands) =
          let low : is_lt (R x first) ≡ false =
          ap is_lt (ap (R x) (first_is ∙ get_or_default xs 0 first x (omega (arith, within))) ∙ ap (λ y. R y (get_or xs 0 x)) (sym x_is)) ∙ rises xs up 0 k x (omega arith) within in
          let high : is_lt (R last x) ≡ false =
          ap is_lt (ap (λ y. R y x) (last_is ∙ get_or_default xs end last x (omega (arith, long))) ∙ ap (R (get_or xs end x)) (sym x_is)) ∙ rises xs up k end x (omega (arith, long, within)) (omega (arith, long)) in
          only-right (relation_of op (R a first)) (relation_of op (R a last)) none (either op other a x first last low high (R a x) refl stands)

  -- what a search answers
  pub search_decides : (xs : List K) (a : K) (r : Result ℕ ℕ) → IsSorted R xs → IsSearchInRange r (length xs) → IsBinarySearchResult (λ y. R y a) xs r
      → is_ok r ≡ list_any (λ b. is_eq (R a b)) xs
  search_decides xs a (Ok i) up within at = sym (list_any_at (λ b. is_eq (R a b)) xs i a within (ap is_eq (turned (get_or xs i a) a Equal (at a))))
  search_decides xs a (Err i) up within parts =
      let halves = parts (searchable_from_sorted o (λ x. x) xs a up) in
      sym (list_any_none (λ b. is_eq (R a b)) xs (λ k d lt. ⊎_elim
      (λ front. ap is_eq (turned (get_or xs k d) a Less (halves.0 k d (omega arith) front)))
      (λ back. ap is_eq (turned (get_or xs k d) a Greater (halves.1 k d back lt)))
      (cases_lt k i)))
