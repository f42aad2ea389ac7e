-- The operators' relations, and the tests on the order of two values.
use Rattle.std.proofs.Common.{◌≡◌, ◌<◌, ◌⊎◌, ℕ, true, List, [], ◌∷◌, ◌++◌, inl, inr, refl, sym, ap, ◌∙◌, subst}
use Rattle.std.specs.Prelude.{◌↔◌, ◌<ℤ◌}
use Rattle.std.specs.Cmp.{ranks, nat_cmp_is, int_ranks, int_chain}
use Rattle.std.specs.Cmp.Lexicographic.{slice_cmp}
use Rattle.std.specs.Int.Signed.{<ℤ_irrefl}
use Rattle.std.specs.Ordering.{MatchOrdering, int_cmp, nat_cmp, ordering_then}
use Rattle.std.specs.declared.cmp.Ordering.{Ordering}
use Rattle.std.specs.declared.cmp.Ordering.TheVariants as orders
use Rattle.dap_types.specs.declared.values.Value.TheVariants as values
use Rattle.constraint_parse.specs.declared.constraint.Op.{Op}
use Rattle.constraint_parse.specs.declared.constraint.Op.TheVariants as ops
use Rattle.sequence_select.specs.Laws.{OperatorsRelate}
use Rattle.sequence_select.specs.Operators.{IsBefore, Relates}
use Rattle.sequence_select.specs.Selections.{relation_of}

-- each operator, where of two values one is below the other, or they are equal
module _ {X : Type 0} (IsBelow : X → X → Type 0) (one_way : (a b : X) → IsBelow a b → IsBelow b a → ⊥) where
  not-self : (a b : X) → a ≡ b → IsBelow a b → ⊥
  not-self a b is below = one_way b b (subst (λ x. IsBelow x b) is below) (subst (λ x. IsBelow x b) is below)

  by-rank : (op : Op) (a b : X) (r : Ordering) → MatchOrdering r (IsBelow a b) (a ≡ b) (IsBelow b a) → (relation_of op r ≡ true) ↔ Relates IsBelow op a b
  by-rank ops.Equal a b orders.Less h = (λ e. cc e, λ is. absurd (not-self a b is h))
  by-rank ops.Equal a b orders.Equal h = (λ e. h, λ is. refl)
  by-rank ops.Equal a b orders.Greater h = (λ e. cc e, λ is. absurd (not-self b a (sym is) h))
  by-rank ops.NotEqual a b orders.Less h = (λ e is. not-self a b is h, λ other. refl)
  by-rank ops.NotEqual a b orders.Equal h = (λ e. cc e, λ other. absurd (other h))
  by-rank ops.NotEqual a b orders.Greater h = (λ e is. not-self b a (sym is) h, λ other. refl)
  by-rank ops.Less a b orders.Less h = (λ e. h, λ below. refl)
  by-rank ops.Less a b orders.Equal h = (λ e. cc e, λ below. absurd (not-self a b h below))
  by-rank ops.Less a b orders.Greater h = (λ e. cc e, λ below. absurd (one_way a b below h))
  by-rank ops.LessEqual a b orders.Less h = (λ e. inl h, λ below. refl)
  by-rank ops.LessEqual a b orders.Equal h = (λ e. inr h, λ below. refl)
  by-rank ops.LessEqual a b orders.Greater h = (λ e. cc e, λ below. absurd (not_below below))
    where
      not_below : IsBelow a b ⊎ (a ≡ b) → ⊥
      not_below (inl below) = one_way a b below h
      not_below (inr is) = not-self b a (sym is) h
  by-rank ops.Greater a b orders.Less h = (λ e. cc e, λ above. absurd (one_way a b h above))
  by-rank ops.Greater a b orders.Equal h = (λ e. cc e, λ above. absurd (not-self b a (sym h) above))
  by-rank ops.Greater a b orders.Greater h = (λ e. h, λ above. refl)
  by-rank ops.GreaterEqual a b orders.Less h = (λ e. cc e, λ above. absurd (not_above above))
    where
      not_above : IsBelow b a ⊎ (a ≡ b) → ⊥
      not_above (inl above) = one_way a b h above
      not_above (inr is) = not-self a b is h
  by-rank ops.GreaterEqual a b orders.Equal h = (λ e. inr h, λ above. refl)
  by-rank ops.GreaterEqual a b orders.Greater h = (λ e. inl h, λ above. refl)

-- ---- texts

behind : (x y : ℕ) (xs ys : List ℕ) → x ≡ y → IsBefore xs ys → IsBefore (x ∷ xs) (y ∷ ys)
behind x y xs ys same (inl f) = inl (record { next = f.next; rest = f.rest; parts = ap (λ l. y ∷ l) f.parts ∙ ap (λ z. z ∷ (xs ++ f.next ∷ f.rest)) (sym same) })
behind x y xs ys same (inr f) = inr (record {
  front = x ∷ f.front;
  lesser = f.lesser;
  greater = f.greater;
  rest = f.rest;
  other_rest = f.other_rest;
  parts = ap (λ l. x ∷ l) f.parts;
  other_parts = ap (λ l. y ∷ l) f.other_parts ∙ ap (λ z. z ∷ (f.front ++ f.greater ∷ f.other_rest)) (sym same);
  differ = f.differ;
})

at-first : (x y : ℕ) (xs ys : List ℕ) → x < y → IsBefore (x ∷ xs) (y ∷ ys)
at-first x y xs ys lt = inr (record { front = []; lesser = x; greater = y; rest = xs; other_rest = ys; parts = refl; other_parts = refl; differ = lt })

text-ranks : (a b : List ℕ) → MatchOrdering (slice_cmp nat_cmp a b) (IsBefore a b) (a ≡ b) (IsBefore b a)
text-ranks [] [] = refl
text-ranks [] (y ∷ ys) = inl (record { next = y; rest = ys; parts = refl })
text-ranks (x ∷ xs) [] = inl (record { next = x; rest = xs; parts = refl })
text-ranks (x ∷ xs) (y ∷ ys) = by (nat_cmp x y) (ranks x y) (slice_cmp nat_cmp xs ys) (text-ranks xs ys)
  where
    by : (o : Ordering) → MatchOrdering o (x < y) (x ≡ y) (y < x) → (r : Ordering) → MatchOrdering r (IsBefore xs ys) (xs ≡ ys) (IsBefore ys xs)
        → MatchOrdering (ordering_then o r) (IsBefore (x ∷ xs) (y ∷ ys)) ((x ∷ xs) ≡ (y ∷ ys)) (IsBefore (y ∷ ys) (x ∷ xs))
    by orders.Less lt r rest = at-first x y xs ys lt
    by orders.Equal same orders.Less rest = behind x y xs ys same rest
    by orders.Equal same orders.Equal rest = ap (λ l. x ∷ l) rest ∙ ap (λ z. z ∷ ys) same
    by orders.Equal same orders.Greater rest = behind y x ys xs (sym same) rest
    by orders.Greater lt r rest = at-first y x ys xs lt

same-byte : (x : ℕ) → nat_cmp x x ≡ orders.Equal
same-byte x = sym (nat_cmp_is x x orders.Equal refl)

front-less : (a : List ℕ) (y : ℕ) (rest : List ℕ) → slice_cmp nat_cmp a (a ++ y ∷ rest) ≡ orders.Less
front-less [] y rest = refl
front-less (x ∷ a) y rest = rw (same-byte x) (front-less a y rest)

front-greater : (a : List ℕ) (y : ℕ) (rest : List ℕ) → slice_cmp nat_cmp (a ++ y ∷ rest) a ≡ orders.Greater
front-greater [] y rest = refl
front-greater (x ∷ a) y rest = rw (same-byte x) (front-greater a y rest)

differ-less : (front : List ℕ) (x y : ℕ) (xs ys : List ℕ) → x < y → slice_cmp nat_cmp (front ++ x ∷ xs) (front ++ y ∷ ys) ≡ orders.Less
differ-less [] x y xs ys lt = ap (λ o. ordering_then o (slice_cmp nat_cmp xs ys)) (sym (nat_cmp_is x y orders.Less lt))
differ-less (z ∷ front) x y xs ys lt = rw (same-byte z) (differ-less front x y xs ys lt)

differ-greater : (front : List ℕ) (x y : ℕ) (xs ys : List ℕ) → x < y → slice_cmp nat_cmp (front ++ y ∷ ys) (front ++ x ∷ xs) ≡ orders.Greater
differ-greater [] x y xs ys lt = ap (λ o. ordering_then o (slice_cmp nat_cmp ys xs)) (sym (nat_cmp_is y x orders.Greater lt))
differ-greater (z ∷ front) x y xs ys lt = rw (same-byte z) (differ-greater front x y xs ys lt)

before-less : (a b : List ℕ) → IsBefore a b → slice_cmp nat_cmp a b ≡ orders.Less
before-less a b (inl f) = ap (slice_cmp nat_cmp a) f.parts ∙ front-less a f.next f.rest
before-less a b (inr f) = ap (slice_cmp nat_cmp a) f.other_parts ∙ ap (λ l. slice_cmp nat_cmp l (f.front ++ f.greater ∷ f.other_rest)) f.parts ∙ differ-less f.front f.lesser f.greater f.rest f.other_rest f.differ

before-greater : (a b : List ℕ) → IsBefore a b → slice_cmp nat_cmp b a ≡ orders.Greater
before-greater a b (inl f) = ap (λ l. slice_cmp nat_cmp l a) f.parts ∙ front-greater a f.next f.rest
before-greater a b (inr f) = ap (slice_cmp nat_cmp b) f.parts ∙ ap (λ l. slice_cmp nat_cmp l (f.front ++ f.lesser ∷ f.rest)) f.other_parts ∙ differ-greater f.front f.lesser f.greater f.rest f.other_rest f.differ

text-one-way : (a b : List ℕ) → IsBefore a b → IsBefore b a → ⊥
text-one-way a b one other = cc (before-less a b one, before-greater b a other)

-- ---- values

pub operators-relate : OperatorsRelate
operators-relate op (values.Whole a) (values.Whole b) = by-rank (λ x y. x <ℤ y) (λ x y one other. <ℤ_irrefl (int_chain x y x one other)) op a b (int_cmp a b) (int_ranks a b)
operators-relate op (values.Text a) (values.Text b) = by-rank IsBefore text-one-way op a b (slice_cmp nat_cmp a b) (text-ranks a b)
operators-relate op (values.Whole a) (values.Text b) = (λ e. cc e, λ none. absurd none)
operators-relate op (values.Whole a) (values.Bits32 b) = (λ e. cc e, λ none. absurd none)
operators-relate op (values.Whole a) (values.Bits64 b) = (λ e. cc e, λ none. absurd none)
operators-relate op (values.Text a) (values.Whole b) = (λ e. cc e, λ none. absurd none)
operators-relate op (values.Text a) (values.Bits32 b) = (λ e. cc e, λ none. absurd none)
operators-relate op (values.Text a) (values.Bits64 b) = (λ e. cc e, λ none. absurd none)
operators-relate op (values.Bits32 a) (values.Whole b) = (λ e. cc e, λ none. absurd none)
operators-relate op (values.Bits32 a) (values.Text b) = (λ e. cc e, λ none. absurd none)
operators-relate op (values.Bits32 a) (values.Bits32 b) = (λ e. cc e, λ none. absurd none)
operators-relate op (values.Bits32 a) (values.Bits64 b) = (λ e. cc e, λ none. absurd none)
operators-relate op (values.Bits64 a) (values.Whole b) = (λ e. cc e, λ none. absurd none)
operators-relate op (values.Bits64 a) (values.Text b) = (λ e. cc e, λ none. absurd none)
operators-relate op (values.Bits64 a) (values.Bits32 b) = (λ e. cc e, λ none. absurd none)
operators-relate op (values.Bits64 a) (values.Bits64 b) = (λ e. cc e, λ none. absurd none)
