-- Texts that go out for what is marked, and for what is not.
use Rattle.std.proofs.Common.{◌≡◌, ℕ, suc, ◌+◌, ◌-◌, ◌<◌, ◌≤◌, ◌^◌, ◌*◌, Bool, true, false, ◌||◌, List, [], ◌∷◌, ◌++◌, length, Option, Some, None, refl, sym, ap, ◌∙◌, subst, arith, append-nil, take}
use Rattle.std.specs.Prelude.{is_some, min, ◌==◌}
use Rattle.std.proofs.lemmas.Bool.Decides.{nat_tests}
use Rattle.std.specs.Option.{option_map_or}
use Rattle.dap_types.specs.Model.{Tree, product, sizes}
use Rattle.dap_types.specs.declared.declarations.ArrayDecl.{ArrayDecl}
use Rattle.dap_types.specs.declared.declarations.BaseType.{BaseType}
use Rattle.dap_types.specs.declared.slabs.Slab.{Slab}
use Rattle.dap_types.specs.declared.values.Value.{Value}
use Rattle.dap_model.proofs.Values.{length-values_in, values_of_fit}
use Rattle.dap_model.proofs.Whole.{cut_whole}
use Rattle.dap_model.specs.Cutting.{AreWithin, cut, whole_slabs}
use Rattle.dap_model.specs.Filter.{Marks, Suits, one_marked}
use Rattle.dap_model.specs.Fits.{values_in}
use Rattle.dap_model.specs.Xdr.{array_fields, bytes_of, value_fields}
use Rattle.dap_outside.proofs.Passing.{passes_kept}
use Rattle.dap_outside.specs.Buffered.{Passes}
use Rattle.hyperslab_plan.specs.Picked.{count_of}
use Rattle.xdr_decode.specs.inner.Taken.{elements_fields}
use Rattle.xdr_encode.specs.Leaves.{counts_of, filler_of}
use Rattle.xdr_values.proofs.ArrayParts.{array_parts, three_parts}
use Rattle.saved_source.proofs.ArrayParts.{count_few, cut_long}
use Rattle.xdr_values.proofs.ElementRuns.{StepsOver, no_bytes, front_is}
use Rattle.xdr_values.proofs.Values.{TellsRest}
use Rattle.xdr_values.specs.Walked.{StandElements, StandsArray}
use Rattle.saved_source.specs.Walked.{StandsNested, array_sent, value_sent}

pub nothing_put : (w : Option (List ℕ)) (held text : List ℕ) → text ≡ [] → Passes w held w held text
nothing_put w held text none = passes_kept w held held text (sym (ap (λ l. held ++ l) none ∙ append-nil held))

-- ---- a value
pub value_none : (marks : Marks) (n : ℕ) (base : BaseType) (v : Value) → is_some (marks n) ≡ false → bytes_of (value_sent marks n base v) ≡ []
value_none marks n base v none = go (marks n) none
  where
    go : (o : Option (List Slab)) → is_some o ≡ false → bytes_of (option_map_or (λ slabs. value_fields base v) o []) ≡ []
    go None none = no_bytes
    go (Some slabs) none = absurd (cc)

pub value_marked : (marks : Marks) (n : ℕ) (base : BaseType) (v : Value) → is_some (marks n) ≡ true → bytes_of (value_fields base v) ≡ bytes_of (value_sent marks n base v)
value_marked marks n base v some = go (marks n) some
  where
    go : (o : Option (List Slab)) → is_some o ≡ true → bytes_of (value_fields base v) ≡ bytes_of (option_map_or (λ slabs. value_fields base v) o [])
    go None some = absurd (cc)
    go (Some slabs) some = refl

-- ---- an array
pub array_none : (marks : Marks) (n : ℕ) (a : ArrayDecl) (t : Tree) → marks n ≡ None → bytes_of (array_sent marks n a t) ≡ []
array_none marks n a t none = ap (λ o. bytes_of (option_map_or (λ slabs. array_fields a.base (values_in (cut slabs t))) o [])) none ∙ no_bytes

pub array_marked : (marks : Marks) (n : ℕ) (a : ArrayDecl) (t : Tree) (slabs : List Slab) → marks n ≡ Some slabs → bytes_of (array_fields a.base (values_in (cut slabs t))) ≡ bytes_of (array_sent marks n a t)
array_marked marks n a t slabs some = ap (λ o. bytes_of (option_map_or (λ slabs. array_fields a.base (values_in (cut slabs t))) o [])) (sym some)

pub suits_within : (marks : Marks) (n : ℕ) (a : ArrayDecl) (slabs : List Slab) → marks n ≡ Some slabs → Suits (marks n) a → AreWithin slabs (sizes a)
suits_within marks n a slabs some suits = subst (λ o. Suits o a) some suits

pub none_picked : (base : BaseType) (vs : List Value) (count : ℕ) → count ≡ 0 → length vs ≡ count → bytes_of (elements_fields base vs) ≡ []
none_picked base [] count zero is = no_bytes
none_picked base (v ∷ vs) count zero is = absurd (omega (arith, is, zero))

-- so many elements are picked of an array that stands in bytes
pub picked_long : (a : ArrayDecl) (slabs : List Slab) (t : Tree) (bytes rest : List ℕ) (count : ℕ) → StandsArray a t bytes rest → AreWithin slabs (sizes a) → count ≡ min (count_of slabs) 4294967295 → length (values_in (cut slabs t)) ≡ count
picked_long a slabs t bytes rest count st within is =
    let p = array_parts a t bytes rest st in
    let few : count_of slabs ≤ product (sizes a) = count_few slabs (sizes a) within in
    let small : product (sizes a) < 2 ^ 32 = p.few in
    omega (arith, cut_long a slabs t within p.fit, few, small, is)

-- they go out in three parts
pub picked_parts : (base : BaseType) (vs : List Value) (count : ℕ) → length vs ≡ count → bytes_of (array_fields base vs) ≡ counts_of base count ++ (bytes_of (elements_fields base vs) ++ filler_of base count)
picked_parts base vs count is = subst (λ n. bytes_of (array_fields base vs) ≡ counts_of base n ++ (bytes_of (elements_fields base vs) ++ filler_of base n)) is (three_parts base vs)

-- ---- rows
pub none_more : (marks : Marks) (first k n : ℕ) → k < n → is_some (marks (first + k)) ≡ false → one_marked marks (first + k) (n - k) ≡ one_marked marks (first + (k + 1)) (n - (k + 1))
none_more marks first k n lt none =
    let m : n - k ≡ suc (n - (k + 1)) = omega arith in
    let at : (first + k) + 1 ≡ first + (k + 1) = omega arith in
    ap (λ j. one_marked marks (first + k) j) m
    ∙ ap (λ b. b || one_marked marks ((first + k) + 1) (n - (k + 1))) none
    ∙ ap (λ j. one_marked marks j (n - (k + 1))) at

pub here_marked : (marks : Marks) (first k n : ℕ) → k < n → is_some (marks (first + k)) ≡ true → one_marked marks (first + k) (n - k) ≡ true
here_marked marks first k n lt some =
    let m : n - k ≡ suc (n - (k + 1)) = omega arith in
    ap (λ j. one_marked marks (first + k) j) m ∙ ap (λ b. b || one_marked marks ((first + k) + 1) (n - (k + 1))) some

-- the elements of an array stand in their own bytes
pub nested_stands : (a : ArrayDecl) (slabs : List Slab) (t : Tree) (bytes rest own : List ℕ) → StandsArray a t bytes rest → AreWithin slabs (sizes a) → own ≡ bytes_of (elements_fields a.base (values_in t)) → StandsNested a.base (sizes a) slabs t own []
nested_stands a slabs t bytes rest own st within is =
    let p = array_parts a t bytes rest st in
    record { fit = p.fit; within = within; few = p.few; parts = is ∙ sym (append-nil (bytes_of (elements_fields a.base (values_in t)))) }

-- ---- hyperslabs that pick all
pub whole_picked : (base : BaseType) (ns : List ℕ) (slabs : List Slab) (t : Tree) (bytes rest : List ℕ) → slabs ≡ whole_slabs ns → StandsNested base ns slabs t bytes rest → bytes_of (elements_fields base (values_in t)) ≡ bytes_of (elements_fields base (values_in (cut slabs t)))
whole_picked base ns slabs t bytes rest is st = ap (λ u. bytes_of (elements_fields base (values_in u))) (sym (ap (λ ss. cut ss t) is ∙ cut_whole base ns t st.fit))

pub no_dims : (ns : List ℕ) (slabs : List Slab) → AreWithin slabs ns → length ns ≡ 0 → slabs ≡ whole_slabs ns
no_dims [] [] within none = refl
no_dims [] (s ∷ slabs) within none = absurd within
no_dims (n ∷ ns) slabs within none = absurd (cc)

pub no_slabs : (ns : List ℕ) (slabs : List Slab) → AreWithin slabs ns → length slabs ≡ 0 → slabs ≡ whole_slabs ns
no_slabs [] [] within none = refl
no_slabs (n ∷ ns) [] within none = absurd within
no_slabs ns (s ∷ slabs) within none = absurd (cc)

pub nested_elements : (base : BaseType) (ns : List ℕ) (slabs : List Slab) (t : Tree) (bytes rest : List ℕ) → StandsNested base ns slabs t bytes rest → StandElements base (values_in t) bytes rest
nested_elements base ns slabs t bytes rest st = record { are_of = values_of_fit base ns t st.fit; parts = st.parts }

-- the bytes before what stands behind them
pub elements_front : (base : BaseType) (vs : List Value) (bytes rest left : List ℕ) (count at : ℕ) → length vs ≡ count → count * 8 < 2 ^ 64 → StandElements base vs bytes rest → StepsOver base count bytes left → at ≡ length bytes - length left
    → take at bytes ≡ bytes_of (elements_fields base vs)
elements_front base vs bytes rest left count at long small st step at_is =
    ap (λ n. take n bytes) at_is ∙ sym (front_is bytes (bytes_of (elements_fields base vs)) rest left st.parts (step vs rest long small st))

pub nested_small : (base : BaseType) (ns : List ℕ) (slabs : List Slab) (t : Tree) (bytes rest : List ℕ) (count : ℕ) → StandsNested base ns slabs t bytes rest → count ≡ min (product ns) 4294967296 → (length (values_in t) ≡ count) × (count * 8 < 2 ^ 64)
nested_small base ns slabs t bytes rest count st is =
    let few : product ns < 2 ^ 32 = st.few in
    let same : product ns ≡ count = omega (arith, is) in
    (length-values_in base ns t st.fit ∙ same, omega arith)

pub none_of : {X : Type 0} (xs : List X) (b : Bool) → b ≡ true → b ≡ (length xs == 0) → length xs ≡ 0
none_of xs b holds is = grind (arith, nat_tests)
