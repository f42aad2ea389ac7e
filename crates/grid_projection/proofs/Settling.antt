-- Wholes that are marked already.
use Rattle.std.proofs.Common.{◌≡◌, ℕ, suc, ◌+◌, ◌-◌, ◌≤◌, Bool, true, false, not, ◌||◌, ◌&&◌, cond, eqb, leb, List, [], ◌∷◌, ◌++◌, map, slice_get, Option, Some, None, refl, ap, ◌∙◌, sym, subst, arith}
use Rattle.std.specs.Cmp.Lexicographic.{pointwise}
use Rattle.std.specs.List.{list_any}
use Rattle.std.specs.Option.{option_and_then, option_or}
use Rattle.std.proofs.lemmas.Bool.{eq-eqb, eqb-true, or_parts}
use Rattle.std.proofs.lemmas.Bool.Decides.{nat_tests}
use Rattle.std.proofs.lemmas.List.Elements.{All-cons, All-nil, All-append}
use Rattle.std.proofs.lemmas.Option.{none-some, same_Some}
use Rattle.dap_types.specs.Model.{Member, Dataset}
use Rattle.dap_types.specs.WellFormed.{member_at}
use Rattle.dap_types.specs.declared.slabs.Slab.{Slab}
use Rattle.dap_model.proofs.Values.{all_first, all_rest}
use Rattle.dap_model.specs.Cutting.{indexes}
use Rattle.dap_model.specs.Filter.{Marks, same_numbers}
use Rattle.dap_errors.specs.declared.spot.Spot.{Spot}
use Rattle.grid_projection.specs.First.{first_there}
use Rattle.grid_projection.specs.Items.{are_some, slab_tests}
use Rattle.grid_projection.specs.Members.{Found, named}
use Rattle.constraint_parse.specs.declared.constraint.RawSlab.{RawSlab}
use Rattle.dap_types.proofs.Preorder.{member_at-get}
use Rattle.grid_projection.proofs.Within.{at_number}
use Rattle.grid_projection.specs.Marks.{Row, placed, differ, clash, row_of}
use Rattle.grid_projection.specs.inner.Settled.{IsSettled, AreSettled}

numbers_itself : (xs : List ℕ) → same_numbers xs xs ≡ true
numbers_itself [] = refl
numbers_itself (x ∷ xs) = let one : eqb x x ≡ true = eq-eqb x x refl in rw one (numbers_itself xs)

lists_itself : (xs : List (List ℕ)) → pointwise same_numbers xs xs ≡ true
lists_itself [] = refl
lists_itself (x ∷ xs) = rw (numbers_itself x) (lists_itself xs)

same_itself : (slabs : List Slab) → differ (Some slabs) (Some slabs) ≡ false
same_itself slabs = ap not (lists_itself (map indexes slabs))

differ_none : (o : Option (List Slab)) → differ o None ≡ false
differ_none None = refl
differ_none (Some s) = refl

placed_head : (w : ℕ) (o : Option (List Slab)) (row : Row) → placed w (o ∷ row) w ≡ o
placed_head w o row = let here : leb w w ≡ true = grind (arith, nat_tests) in let none : w - w ≡ 0 = omega arith in rw (here, none) refl

placed_tail : (w n : ℕ) (o : Option (List Slab)) (row : Row) → w + 1 ≤ n → placed w (o ∷ row) n ≡ placed (w + 1) row n
placed_tail w n o row le =
    let here : leb w n ≡ true = grind (arith, nat_tests) in
    let there : leb (w + 1) n ≡ true = grind (arith, nat_tests) in
    let one : n - w ≡ suc (n - (w + 1)) = omega arith in rw (here, there, one) refl

placed_low : (w n : ℕ) (row : Row) (s : List Slab) → placed w row n ≡ Some s → w ≤ n
placed_low w n row s is = by (leb w n) refl is
  where
    by : (b : Bool) → leb w n ≡ b → cond b (option_and_then (λ x. x) (slice_get row (n - w))) None ≡ Some s → w ≤ n
    by true e at = grind (arith, nat_tests)
    by false e at = absurd (none-some s at)

-- a row clashes nowhere exactly where none of its members differs
clash_from : (g : Marks) (row : Row) (w : ℕ) → ((n : ℕ) (s : List Slab) → placed w row n ≡ Some s → differ (g n) (Some s) ≡ false) → clash g w row ≡ false
clash_from g [] w each = refl
clash_from g (o ∷ row) w each =
    rw (first o refl) (clash_from g row (w + 1) (λ n s is. each n s (placed_tail w n o row (placed_low (w + 1) n row s is) ∙ is)))
  where
    first : (p : Option (List Slab)) → o ≡ p → differ (g w) o ≡ false
    first None e = ap (differ (g w)) e ∙ differ_none (g w)
    first (Some s) e = ap (differ (g w)) e ∙ each w s (placed_head w o row ∙ e)

clash_at : (f : Marks) (row : Row) (w n : ℕ) (s : List Slab) → clash f w row ≡ false → placed w row n ≡ Some s → differ (f n) (Some s) ≡ false
clash_at f [] w n s fine is = absurd (nothing (leb w n) is)
  where
    nothing : (b : Bool) → cond b (option_and_then (λ (x : Option (List Slab)). x) (slice_get [] (n - w))) None ≡ Some s → ⊥
    nothing true e = none-some s e
    nothing false e = none-some s e
clash_at f (o ∷ row) w n s fine is = by (eqb w n) refl (or_parts (differ (f w) o) (clash f (w + 1) row) fine) (λ le e. clash_at f row (w + 1) n s e (sym (placed_tail w n o row le) ∙ is))
  where
    by : (b : Bool) → eqb w n ≡ b → (differ (f w) o ≡ false) × (clash f (w + 1) row ≡ false) → (w + 1 ≤ n → clash f (w + 1) row ≡ false → differ (f n) (Some s) ≡ false) → differ (f n) (Some s) ≡ false
    by true e both rest =
        let same : w ≡ n = eqb-true w n e in
        let it : o ≡ Some s = sym (placed_head w o row) ∙ ap (placed w (o ∷ row)) same ∙ is in
        ap (λ k. differ (f k) (Some s)) (sym same) ∙ ap (differ (f w)) (sym it) ∙ both.0
    by false e both rest =
        let low : w ≤ n = placed_low w n (o ∷ row) s is in
        let other : w + 1 ≤ n = grind (arith, nat_tests) in rest other both.1

-- what is there stays
stays : (o p q : Option (List Slab)) (s : List Slab) → o ≡ option_or o (Some s) → q ≡ option_or o p → (q ≡ o) × (q ≡ option_or q (Some s))
stays None p q s is at = absurd (none-some s is)
stays (Some t) p q s is at = (at, rw at refl)

or_itself : (o p q : Option (List Slab)) → q ≡ option_or o p → q ≡ option_or q p
or_itself None None q at = rw at refl
or_itself None (Some s) q at = rw at refl
or_itself (Some t) p q at = rw at refl

module _ (d : Dataset) (f g : Marks) (more : Marks) (added : (n : ℕ) → g n ≡ option_or (f n) (more n)) where
  kept : (w : ℕ) → IsSettled d f w → IsSettled d g w
  kept w settled = record {
    no_clash = λ m at. clash_from g (row_of m []) w (λ n s is.
        ap (λ o. differ o (Some s)) (stays (f n) (more n) (g n) s (settled.marked m at n ∙ ap (option_or (f n)) is) (added n)).0 ∙ clash_at f (row_of m []) w n s (settled.no_clash m at) is);
    marked = λ m at n. each m at n (placed w (row_of m []) n) refl;
  }
    where
      each : (m : Member) → member_at d w ≡ Some m → (n : ℕ) (p : Option (List Slab)) → placed w (row_of m []) n ≡ p → g n ≡ option_or (g n) (placed w (row_of m []) n)
      each m at n None is = rw is (none_more (g n))
        where
          none_more : (o : Option (List Slab)) → o ≡ option_or o None
          none_more None = refl
          none_more (Some s) = refl
      each m at n (Some s) is = (stays (f n) (more n) (g n) s (settled.marked m at n ∙ ap (option_or (f n)) is) (added n)).1 ∙ ap (option_or (g n)) (sym is)

  pub all_kept : (ws : List ℕ) → AreSettled d f ws → AreSettled d g ws
  all_kept [] all = All-nil (IsSettled d g)
  all_kept (w ∷ ws) all = All-cons (IsSettled d g) w ws (kept w (all_first (IsSettled d f) w ws all)) (all_kept ws (all_rest (IsSettled d f) w ws all))

-- a whole that was just marked
pub just_settled : (d : Dataset) (f g : Marks) (w : ℕ) (m : Member) → member_at d w ≡ Some m → clash f w (row_of m []) ≡ false → ((n : ℕ) → g n ≡ option_or (f n) (placed w (row_of m []) n)) → IsSettled d g w
just_settled d f g w m at fine added = record {
  no_clash = λ x is. subst (λ y. clash g w (row_of y []) ≡ false) (same_Some m x (sym at ∙ is)) (clash_from g (row_of m []) w (λ n s there. each n s there (f n) refl));
  marked = λ x is n. subst (λ y. g n ≡ option_or (g n) (placed w (row_of y []) n)) (same_Some m x (sym at ∙ is)) (or_itself (f n) (placed w (row_of m []) n) (g n) (added n));
}
  where
    each : (n : ℕ) (s : List Slab) → placed w (row_of m []) n ≡ Some s → (o : Option (List Slab)) → f n ≡ o → differ (g n) (Some s) ≡ false
    each n s there None is = ap (λ o. differ o (Some s)) (added n ∙ ap (λ o. option_or o (placed w (row_of m []) n)) is ∙ there) ∙ same_itself s
    each n s there (Some t) is = ap (λ o. differ o (Some s)) (added n ∙ ap (λ o. option_or o (placed w (row_of m []) n)) is ∙ sym is) ∙ clash_at f (row_of m []) w n s fine there

pub no_slab_tests : (o : Option (List ℕ)) (spot : Spot) → first_there (slab_tests o []) spot ≡ None
no_slab_tests None spot = refl
no_slab_tests (Some sizes) spot = refl

pub settled_of : (d : Dataset) (f : Marks) (ws : List ℕ) (w : ℕ) → AreSettled d f ws → list_any (λ x. eqb x w) ws ≡ true → IsSettled d f w
settled_of d f [] w all has = absurd (no has)
  where
    no : false ≡ true → ⊥
    no e = cc
settled_of d f (x ∷ ws) w all has = by (eqb x w) refl has (λ e. settled_of d f ws w (all_rest (IsSettled d f) x ws all) e)
  where
    by : (b : Bool) → eqb x w ≡ b → (b || list_any (λ y. eqb y w) ws) ≡ true → (list_any (λ y. eqb y w) ws ≡ true → IsSettled d f w) → IsSettled d f w
    by true e h rest = subst (IsSettled d f) (eqb-true x w e) (all_first (IsSettled d f) x ws all)
    by false e h rest = rest h

-- a whole that was marked whole
pub settled_whole : (slabs : List RawSlab) (b : Bool) → (not (are_some slabs) && b) ≡ true → (slabs ≡ []) × (b ≡ true)
settled_whole [] b is = (refl, is)
settled_whole (s ∷ slabs) b is = absurd (no is)
  where
    no : false ≡ true → ⊥
    no e = cc

pub member_of : (d : Dataset) (path : List (List ℕ)) (w : Found) → named d path ≡ Some w → member_at d w.number ≡ Some w.variable
member_of d path w is = let at = at_number d path w is in member_at-get d w.number at.0 ∙ at.1

-- after a row was added
pub all_settled : (d : Dataset) (f g : Marks) (w : ℕ) (m : Member) (slabs : List RawSlab) (ws new : List ℕ) → member_at d w ≡ Some m → new ≡ cond (are_some slabs) ws (ws ++ w ∷ []) → AreSettled d f ws
    → clash f w (row_of m slabs) ≡ false → ((n : ℕ) → g n ≡ option_or (f n) (placed w (row_of m slabs) n)) → AreSettled d g new
all_settled d f g w m (s ∷ slabs) ws new at is all fine added = subst (AreSettled d g) (sym is) (all_kept d f g (placed w (row_of m (s ∷ slabs))) added ws all)
all_settled d f g w m [] ws new at is all fine added =
    subst (AreSettled d g) (sym is) (All-append (IsSettled d g) ws (w ∷ []) (all_kept d f g (placed w (row_of m [])) added ws all)
    (All-cons (IsSettled d g) w [] (just_settled d f g w m at fine added) (All-nil (IsSettled d g))))
