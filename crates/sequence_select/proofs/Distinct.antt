-- What stays of an ascending list where each element is kept once.
use Rattle.std.proofs.Common.{◌≡◌, ◌<◌, ◌≤◌, ◌+◌, ℕ, zero, suc, Bool, true, false, List, [], ◌∷◌, length, get_or, cond, refl, sym, ap, ◌∙◌, subst, arith}
use Rattle.std.specs.Prelude.{◌||◌}
use Rattle.std.specs.Cmp.{IsTotalOrder}
use Rattle.std.specs.List.{AllByRecursion, dedup, dedup_from, list_any}
use Rattle.std.specs.List.Sorted.{IsSorted, IsStrictlySortedBy}
use Rattle.std.specs.Ordering.{is_lt, ordering_reverse}
use Rattle.std.specs.declared.cmp.Ordering.{Ordering}
use Rattle.std.specs.declared.cmp.Ordering.TheVariants.{Less}

module _ {K : Type 0} (same : K → K → Bool) (decides : (x y : K) → same x y ≡ true → x ≡ y) (p : K → Bool) where
  twice : (a b : Bool) → (a || (a || b)) ≡ (a || b)
  twice true b = refl
  twice false b = refl

  from : (k : K) (xs : List K) → list_any p (dedup_from same k xs) ≡ (p k || list_any p xs)
  from k [] = refl
  from k (x ∷ xs) = by (same x k) refl (from k xs) (from x xs)
    where
      by : (b : Bool) → same x k ≡ b → list_any p (dedup_from same k xs) ≡ (p k || list_any p xs) → list_any p (dedup_from same x xs) ≡ (p x || list_any p xs)
          → list_any p (cond b (dedup_from same k xs) (k ∷ dedup_from same x xs)) ≡ (p k || (p x || list_any p xs))
      by true e kept other = kept ∙ sym (twice (p k) (list_any p xs)) ∙ ap (λ b. p k || (b || list_any p xs)) (ap p (sym (decides x k e)))
      by false e kept other = ap (λ b. p k || b) other

  -- no element is lost
  pub any-dedup : (xs : List K) → list_any p (dedup same xs) ≡ list_any p xs
  any-dedup [] = refl
  any-dedup (x ∷ xs) = from x xs

module _ {K : Type 0} {R : K → K → Ordering} (o : IsTotalOrder R) where
  first-below : (x : K) (xs : List K) (d : K) → AllByRecursion (λ y. R x y ≡ Less) xs → 0 < length xs → is_lt (R (get_or xs 0 d) x) ≡ false
  first-below x [] d all some = absurd (omega (arith, some))
  first-below x (y ∷ ys) d all some = ap is_lt (o.antisymm y x ∙ ap ordering_reverse all.0)

  -- one that is strictly sorted is sorted
  pub sorted-from_strict : (xs : List K) → IsStrictlySortedBy R xs → IsSorted R xs
  unfolding IsStrictlySortedBy
  sorted-from_strict [] up k d le lt = absurd (omega (arith, lt))
  sorted-from_strict (x ∷ xs) up zero d le lt = first-below x xs d up.0 (omega (arith, lt))
  sorted-from_strict (x ∷ xs) up (suc k) d le lt =
      let next : suc k + 1 ≡ suc (k + 1) = omega arith in
      subst (λ n. is_lt (R (get_or (x ∷ xs) n d) (get_or xs k d)) ≡ false) (sym next) (sorted-from_strict xs up.1 k d (omega arith) (omega (arith, lt)))
