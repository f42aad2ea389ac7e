-- The marked leaves of a file, gathered one member after the other.
use Rattle.std.proofs.Common.{◌≡◌, ℕ, zero, suc, ◌+◌, ◌*◌, ◌<◌, ◌≤◌, ◌^◌, Bool, true, false, cond, eqb, List, [], ◌∷◌, ◌++◌, length, map, drop, get_or, All, Option, Some, None, Result, Err, refl, sym, ap, ◌∙◌, subst, arith, append-nil, append_assoc, length-append, nat_lt, inl, inr}
use Rattle.std.proofs.lemmas.Bool.{ltb-true, ltb-false}
use Rattle.std.proofs.lemmas.Grind.{flat_map-append}
use Rattle.std.proofs.lemmas.List.{drop_more, length-map}
use Rattle.std.proofs.lemmas.List.Elements.{All-append, All-nil, All-cons}
use Rattle.std.proofs.lemmas.List.Sums.{sum_by-append, sum_by-cons}
use Rattle.std.proofs.lemmas.Slice.Zip.{AllZip-long}
use Rattle.std.specs.List.{sum_by, zip}
use Rattle.std.specs.Option.{option_map_or, option_to_list}
use Rattle.std.specs.Prelude.{MatchOption, option_map, option_and_then, slice_get}
use Rattle.dap_types.specs.Model.{product, sizes}
use Rattle.dap_types.specs.declared.declarations.BaseType.{BaseType}
use Rattle.dap_types.specs.declared.declarations.Dim.{Dim}
use Rattle.dap_types.specs.declared.slabs.Layout.{Layout}
use Rattle.dap_types.specs.declared.slabs.Slab.{Slab}
use Rattle.dap_model.specs.Cutting.{cut, counted, AreWithin, IsWithin}
use Rattle.dap_model.specs.Filter.{Marks}
use Rattle.dap_model.specs.Fits.{values_in}
use Rattle.dap_model.specs.Xdr.{Field, scalar_fields, array_fields, bytes_of}
use Rattle.hyperslab_plan.proofs.LawLemmas.{picked_are_below}
use Rattle.hyperslab_plan.specs.Laws.{AllWithin}
use Rattle.hyperslab_plan.specs.Numbers.{HasSize, is_number, number_size}
use Rattle.hyperslab_plan.specs.Picked.{picked, count_of, cost_of}
use Rattle.hyperslab_plan.specs.Plans.{base_in, places, size_in}
use Rattle.netcdf_source.specs.Laws.{HasHeader}
use Rattle.netcdf_source.specs.Layouts.{element_sizes, steps_of, layout_of, IsPlaced, IsShaped, LeafIsPlaced, LeafIsShaped}
use Rattle.netcdf_source.specs.Mapping.{base_of, dim_of, element_dimensions, element_size, size_at, is_char, is_empty, array_of, leaf_variable, leaves_from}
use Rattle.netcdf_source.specs.Types.{size_of}
use Rattle.netcdf_source.specs.Values.{tree_of}
use Rattle.netcdf_source.specs.declared.external_type.ExternalType.{ExternalType}
use Rattle.netcdf_source.specs.declared.external_type.ExternalType.TheVariants.{Byte, Char, Short, Int, Float, Double, UByte, UShort, UInt, Int64, UInt64}
use Rattle.netcdf_source.specs.declared.header.Contents.{Contents}
use Rattle.netcdf_source.specs.declared.header.Variable.{Variable}
use Rattle.xdr_encode.proofs.Asking.{marked-asks, parted, unknown-asks, unmarked-asks}
use Rattle.xdr_encode.proofs.Inside.{all_within, leaf_is_inside, slab_steps}
use Rattle.xdr_encode.proofs.LeafSent.{leaf_is_sent}
use Rattle.xdr_encode.proofs.Suiting.{leaf-at}
use Rattle.xdr_encode.specs.Asked.{LeafAsks, SlotAsks, SlotsAsk}
use Rattle.xdr_encode.specs.Begun.{HaveBegun}
use Rattle.xdr_encode.specs.CdfSent.{variable_sent, slot_sent, slots_sent}
use Rattle.xdr_encode.specs.Counts.{first_large, slots_counts, variable_counts}
use Rattle.xdr_encode.specs.Placed.{kind_of}
use Rattle.xdr_encode.specs.Sent.{IsInside, leaf_cost, leaf_xdr, leaves_cost, leaves_xdr}
use Rattle.xdr_encode.specs.Costs.{own_slabs, slots_cost, variable_cost}
use Rattle.xdr_encode.specs.Wanted.{Gathered, IsFound, IsLarge, IsMarkedLeaf, IsWanted, AreSuited}
use Rattle.xdr_encode.specs.declared.leaf.Leaf.{Leaf}
use Rattle.xdr_encode.specs.declared.refusal.BodyRefusal.{BodyRefusal}
use Rattle.xdr_encode.specs.declared.refusal.BodyRefusal.TheVariants.{TooLarge}

-- ---- what a plan asks of a marked leaf

number-size : (t : ExternalType) → is_number (base_of t) ≡ true → number_size (base_of t) ≡ size_of t
number-size Byte e = refl
number-size Char e = absurd cc
number-size Short e = refl
number-size Int e = refl
number-size Float e = refl
number-size Double e = refl
number-size UByte e = refl
number-size UShort e = refl
number-size UInt e = refl
number-size Int64 e = absurd cc
number-size UInt64 e = absurd cc

not-char : (v : Variable) → is_number (base_of v.external_type) ≡ true → is_char v ≡ false
not-char v e = go v.external_type e
  where
    go : (t : ExternalType) → is_number (base_of t) ≡ true → is_char (record v { external_type = t }) ≡ false
    go Byte e = refl
    go Char e = absurd cc
    go Short e = refl
    go Int e = refl
    go Float e = refl
    go Double e = refl
    go UByte e = refl
    go UShort e = refl
    go UInt e = refl
    go Int64 e = refl
    go UInt64 e = refl

strides : (slabs : List Slab) (ns : List ℕ) → AreWithin slabs ns → All (λ s. 0 < s.stride) slabs
strides [] ns h = All-nil (λ s. 0 < s.stride)
strides (s ∷ slabs) [] h = absurd h
strides (s ∷ slabs) (n ∷ ns) h = All-cons (λ s. 0 < s.stride) s slabs (omega (arith, h.0.0)) (strides slabs ns h.1)

pub record Ready (layout : Layout) (base : BaseType) (slabs : List Slab) : Type 0 where
  pub one_each : length slabs ≡ length layout.steps
  pub strided : All (λ s. 0 < s.stride) slabs
  pub below : All (λ place. place < 2 ^ 63) (picked slabs layout.steps layout.base)
  pub sized : 0 < layout.size
  pub small : layout.size ≤ 65536
  pub typed : HasSize base layout.size

pub wanted_within : (c : Contents) (file_len : ℕ) (marks : Marks) (n : ℕ) (layout : Layout) (base : BaseType) (slabs : List Slab) (w : IsWanted c file_len marks n layout base slabs) → AreSuited c marks
    → AreWithin (own_slabs c w.variable w.marked_by) (element_sizes c w.variable)
unfolding AreSuited
wanted_within c file_len marks n layout base slabs w suited = suited n w.variable w.marked_by w.is w.marked

-- hyperslabs within a variable, of a layout and type that are its own
pub ready : (c : Contents) (file_len : ℕ) (v : Variable) (layout : Layout) (base : BaseType) (slabs : List Slab) → layout ≡ layout_of c v → base ≡ base_of v.external_type → IsPlaced c file_len v layout → IsShaped c v layout
    → file_len < 2 ^ 63 → AreWithin slabs (element_sizes c v) → Ready layout base slabs
ready c file_len v layout base slabs layout_is base_is placed shaped short within =
    let one_each : length slabs ≡ length (steps_of c v) = slab_steps c v slabs within in
    let all : AllWithin (element_sizes c v) (steps_of c v) v.begin (element_size c v) file_len = all_within c file_len v (subst (IsPlaced c file_len v) layout_is placed) in
    let some : 0 < element_size c v = subst (λ l. 0 < l.size) layout_is shaped.some in
    let below : file_len ≤ 2 ^ 63 = omega (arith, short) in
    record {
      one_each = one_each ∙ sym (ap (λ l. length l.steps) layout_is);
      strided = strides slabs (element_sizes c v) within;
      below = subst (λ l. All (λ place. place < 2 ^ 63) (picked slabs l.steps l.base)) (sym layout_is)
          (picked_are_below slabs (element_sizes c v) (steps_of c v) v.begin (element_size c v) file_len within one_each all some below);
      sized = shaped.some;
      small = shaped.few;
      typed = λ e.
          let number : is_number (base_of v.external_type) ≡ true = sym (ap is_number base_is) ∙ e in
          shaped.typed (not-char v number) ∙ sym (number-size v.external_type number) ∙ ap number_size (sym base_is);
    }

pub wanted_ready : (c : Contents) (file_len : ℕ) (marks : Marks) (n : ℕ) (layout : Layout) (base : BaseType) (slabs : List Slab) → IsWanted c file_len marks n layout base slabs → AreSuited c marks → Ready layout base slabs
wanted_ready c file_len marks n layout base slabs w suited =
    ready c file_len w.variable layout base slabs w.layout_is w.base_is w.placed w.shaped w.below
    (subst (λ ss. AreWithin ss (element_sizes c w.variable)) (sym w.slabs_are) (wanted_within c file_len marks n layout base slabs w suited))

-- ---- a member that was asked for

pub wanted_is : (c : Contents) (file_len : ℕ) (marks : Marks) (n : ℕ) (layout : Layout) (base : BaseType) (marked_by slabs : List Slab) → marks n ≡ Some marked_by
    → ◌≡◌ {A = Option Layout} (Some layout) (option_map (layout_of c) (leaf_variable c n)) → file_len < 2 ^ 63 → LeafIsPlaced c file_len n (Some layout) → LeafIsShaped c n (Some layout)
    → ◌≡◌ {A = Option BaseType} (Some base) (option_map (λ v. base_of v.external_type) (leaf_variable c n)) → slabs ≡ cond (eqb (length layout.steps) 0) [] marked_by
    → IsWanted c file_len marks n layout base slabs
unfolding LeafIsPlaced LeafIsShaped
wanted_is c file_len marks n layout base marked_by slabs marked layout_found short placed shaped base_found cut = record {
  variable = placed.0;
  is = placed.1;
  marked_by = marked_by;
  marked = marked;
  layout_is = same_layout (layout_of c placed.0) (layout_found ∙ ap (option_map (layout_of c)) placed.1);
  base_is = same_base (base_of placed.0.external_type) (base_found ∙ ap (option_map (λ v. base_of v.external_type)) placed.1);
  slabs_are = cut ∙ ap (λ n. cond (eqb n 0) [] marked_by) own-shape.steps;
  placed = placed.2;
  shaped = own-shape;
  below = short;
}
  where
    same_layout : (l : Layout) → ◌≡◌ {A = Option Layout} (Some layout) (Some l) → layout ≡ l
    same_layout l e = cc

    same_base : (b : BaseType) → ◌≡◌ {A = Option BaseType} (Some base) (Some b) → base ≡ b
    same_base b e = cc

    same_variable : (x y : Variable) → Path (Option Variable) (Some x) (Some y) → x ≡ y
    same_variable x y e = cc

    own-shape : IsShaped c placed.0 layout
    own-shape = subst (λ v. IsShaped c v layout) (same_variable shaped.0 placed.0 (sym shaped.1 ∙ placed.1)) shaped.2

pub large_is : (c : Contents) (file_len : ℕ) (marks : Marks) (n : ℕ) (layout : Layout) (base : BaseType) (slabs : List Slab) → IsWanted c file_len marks n layout base slabs → AreSuited c marks
    → 2147483647 < count_of slabs → IsLarge c marks n
large_is c file_len marks n layout base slabs w suited many = record {
  variable = w.variable;
  is = w.is;
  marked_by = w.marked_by;
  marked = w.marked;
  within = wanted_within c file_len marks n layout base slabs w suited;
  many = subst (λ ss. 2147483647 < count_of ss) w.slabs_are many;
}

pub marked_is : (c : Contents) (file_len : ℕ) (marks : Marks) (n : ℕ) (layout : Layout) (base : BaseType) (slabs : List Slab) (leaf : Leaf) → IsWanted c file_len marks n layout base slabs → AreSuited c marks
    → count_of slabs ≤ 2147483647
    → base_in leaf.plan ≡ base → size_in leaf.plan ≡ layout.size → places leaf.plan ≡ picked slabs layout.steps layout.base → leaf.kind ≡ kind_of (length layout.steps) → leaf_cost leaf ≤ cost_of slabs layout.size
    → IsMarkedLeaf c file_len marks n leaf
marked_is c file_len marks n layout base slabs leaf w suited few base_is size_is places_are kind_is cost_is = record {
  variable = w.variable;
  is = w.is;
  marked_by = w.marked_by;
  marked = w.marked;
  within = wanted_within c file_len marks n layout base slabs w suited;
  of_variable = record {
    plan = record {
      base = base_is ∙ w.base_is;
      size = size_is ∙ ap (λ l. l.size) w.layout_is;
      places = places_are ∙ ap (λ l. picked slabs l.steps l.base) w.layout_is ∙ ap (λ ss. picked ss (steps_of c w.variable) w.variable.begin) w.slabs_are;
    };
    kind = kind_is ∙ ap kind_of w.shaped.steps;
  };
  placed = subst (IsPlaced c file_len w.variable) w.layout_is w.placed;
  cost = subst (λ ss. leaf_cost leaf ≤ cost_of ss (element_size c w.variable)) w.slabs_are (subst (λ l. leaf_cost leaf ≤ cost_of slabs l.size) w.layout_is cost_is);
  few = subst (λ ss. count_of ss ≤ 2147483647) w.slabs_are few;
}

-- ---- one member more

own-sent : (c : Contents) (file : List ℕ) (marks : Marks) (n : ℕ) (v : Variable) (slabs : List Slab) → marks n ≡ Some slabs → variable_sent c file (λ m. Some (own_slabs c v slabs)) n v ≡ variable_sent c file marks n v
own-sent c file marks n v slabs marked = by_rank (is_empty (element_dimensions c v)) ∙ sym (ap (λ o. option_map_or (λ ss. form (is_empty (element_dimensions c v)) ss) o []) marked)
  where
    form : Bool → List Slab → List Field
    form b ss = cond b (scalar_fields (base_of v.external_type) (tree_of c file v)) (array_fields (base_of v.external_type) (values_in (cut ss (tree_of c file v))))

    by_rank : (b : Bool) → form b (cond b [] slabs) ≡ form b slabs
    by_rank true = refl
    by_rank false = refl

sent-of : (c : Contents) (file_len : ℕ) (file : List ℕ) (marks : Marks) (n : ℕ) (found : Option Leaf) → HasHeader c file → IsFound c file_len marks n found
    → leaves_xdr (option_to_list found) file ≡ bytes_of (option_map_or (variable_sent c file marks n) (leaf_variable c n) [])
unfolding leaves_xdr bytes_of
sent-of c file_len file marks n None h found = elim found [
  | inl none ↦ sym (ap (λ o. bytes_of (option_map_or (variable_sent c file marks n) o [])) none)
  | inr none ↦ ap bytes_of (sym (unmarked (leaf_variable c n) none))
]
  where
    unmarked : (o : Option Variable) → marks n ≡ None → option_map_or (variable_sent c file marks n) o [] ≡ []
    unmarked None e = refl
    unmarked (Some v) e = ap (λ p. option_map_or (λ ss. cond (is_empty (element_dimensions c v)) (scalar_fields (base_of v.external_type) (tree_of c file v)) (array_fields (base_of v.external_type) (values_in (cut ss (tree_of c file v))))) p []) e
sent-of c file_len file marks n (Some leaf) h found =
    append-nil (leaf_xdr leaf file)
    ∙ leaf_is_sent c file (λ m. Some (own_slabs c found.variable found.marked_by)) n found.variable (own_slabs c found.variable found.marked_by) leaf h found.is refl found.within found.of_variable
    ∙ ap bytes_of (own-sent c file marks n found.variable found.marked_by found.marked)
    ∙ sym (ap (λ o. bytes_of (option_map_or (variable_sent c file marks n) o [])) found.is)

inside-of : (c : Contents) (file_len : ℕ) (marks : Marks) (n : ℕ) (found : Option Leaf) → IsFound c file_len marks n found → All (IsInside file_len) (option_to_list found)
inside-of c file_len marks n None found = All-nil (IsInside file_len)
inside-of c file_len marks n (Some leaf) found =
    All-cons (IsInside file_len) leaf [] (leaf_is_inside c file_len found.variable (own_slabs c found.variable found.marked_by) leaf found.placed found.within found.of_variable) (All-nil (IsInside file_len))

cost-of : (c : Contents) (file_len : ℕ) (marks : Marks) (n : ℕ) (found : Option Leaf) → IsFound c file_len marks n found → leaves_cost (option_to_list found) ≤ option_map_or (variable_cost c marks n) (leaf_variable c n) 0
unfolding leaves_cost
cost-of c file_len marks n None found = omega arith
cost-of c file_len marks n (Some leaf) found =
    let own : option_map_or (variable_cost c marks n) (leaf_variable c n) 0 ≡ cost_of (own_slabs c found.variable found.marked_by) (element_size c found.variable)
    = ap (λ o. option_map_or (variable_cost c marks n) o 0) found.is
    ∙ ap (λ o. option_map_or (λ ss. cost_of (own_slabs c found.variable ss) (element_size c found.variable)) o 0) found.marked in
    let one : sum_by leaf_cost (leaf ∷ []) ≡ leaf_cost leaf + 0 = sum_by-cons leaf_cost leaf [] in
    omega (arith, own, one, found.cost)

asks-of : (c : Contents) (file_len : ℕ) (file : List ℕ) (marks : Marks) (n at put asked : ℕ) (found : Option Leaf) → HasHeader c file → IsFound c file_len marks n found
    → HaveBegun (option_to_list found) file at put asked → MatchOption (leaf_variable c n) (asked ≡ 0) (λ v. LeafAsks c file marks n v at put asked)
asks-of c file_len file marks n at put asked None h found have = elim found [
  | inl none ↦ unknown-asks c file marks n at put asked none have
  | inr none ↦ unmarked-asks c file marks n at put asked none have
]
asks-of c file_len file marks n at put asked (Some leaf) h found have =
    marked-asks c file marks n found.variable found.marked_by leaf at put asked h found.is found.marked found.within found.of_variable found.cost have

-- ---- counts

counts-product : (dims : List Dim) (slabs : List Slab) → length slabs ≡ length dims → product (map (λ d. d.size) (map (λ p. record p.0 { size = p.1.count }) (zip dims slabs))) ≡ count_of slabs
counts-product [] [] e = refl
counts-product [] (s ∷ slabs) e = absurd (omega (arith, e))
counts-product (d ∷ dims) [] e = absurd (omega (arith, e))
counts-product (d ∷ dims) (s ∷ slabs) e = ap (λ n. s.count * n) (counts-product dims slabs (omega (arith, e)))

own-count : (c : Contents) (v : Variable) (slabs : List Slab) → AreWithin (own_slabs c v slabs) (element_sizes c v) → cond (is_empty (element_dimensions c v)) 1 (product (sizes (counted slabs (array_of c v)))) ≡ count_of (own_slabs c v slabs)
own-count c v slabs within = go (is_empty (element_dimensions c v)) within
  where
    go : (b : Bool) → AreWithin (cond b [] slabs) (element_sizes c v) → cond b 1 (product (sizes (counted slabs (array_of c v)))) ≡ count_of (cond b [] slabs)
    go true h = refl
    go false h =
        let deep : length (element_sizes c v) ≡ length slabs = AllZip-long IsWithin slabs (element_sizes c v) h in
        let long : length (element_sizes c v) ≡ length (element_dimensions c v) = length-map (element_dimensions c v) (size_at c) in
        let dims : length (map (dim_of c) (element_dimensions c v)) ≡ length (element_dimensions c v) = length-map (element_dimensions c v) (dim_of c) in
        counts-product (map (dim_of c) (element_dimensions c v)) slabs (omega arith)

pub counts-of : (c : Contents) (marks : Marks) (n : ℕ) (v : Variable) (slabs : List Slab) → leaf_variable c n ≡ Some v → marks n ≡ Some slabs → AreWithin (own_slabs c v slabs) (element_sizes c v)
    → option_map_or (variable_counts c marks n) (leaf_variable c n) [] ≡ count_of (own_slabs c v slabs) ∷ []
counts-of c marks n v slabs is marked within =
    ap (λ o. option_map_or (variable_counts c marks n) o []) is
    ∙ ap (λ o. option_map_or (λ ss. cond (is_empty (element_dimensions c v)) 1 (product (sizes (counted ss (array_of c v)))) ∷ []) o []) marked
    ∙ ap (λ x. x ∷ []) (own-count c v slabs within)

pub not-large : (n m : ℕ) (counts : List ℕ) → n ≤ 2147483647 → first_large m (n ∷ counts) ≡ first_large (m + 1) counts
not-large n m counts few = go (nat_lt 2147483647 n) refl
  where
    go : (b : Bool) → nat_lt 2147483647 n ≡ b → cond b (Some m) (first_large (m + 1) counts) ≡ first_large (m + 1) counts
    go true e = absurd (omega (arith, ltb-true 2147483647 n e))
    go false e = refl

pub large-first : (n m : ℕ) (counts : List ℕ) → 2147483647 < n → first_large m (n ∷ counts) ≡ Some m
large-first n m counts many = go (nat_lt 2147483647 n) refl
  where
    go : (b : Bool) → nat_lt 2147483647 n ≡ b → cond b (Some m) (first_large (m + 1) counts) ≡ Some m
    go true e = refl
    go false e = absurd (omega (arith, ltb-false 2147483647 n e))

large-of : (c : Contents) (file_len : ℕ) (marks : Marks) (n m : ℕ) (found : Option Leaf) (counts : List ℕ) → IsFound c file_len marks n found
    → first_large (m + 1) (option_map_or (variable_counts c marks n) (leaf_variable c n) [] ++ counts) ≡ first_large (m + length (option_to_list found) + 1) counts
large-of c file_len marks n m None counts found =
    ap (λ xs. first_large (m + 1) (xs ++ counts)) (elim found [
      | inl none ↦ ap (λ o. option_map_or (variable_counts c marks n) o []) none
      | inr none ↦ unmarked (leaf_variable c n) none
    ])
    ∙ ap (λ k. first_large k counts) (same m)
  where
    same : (m : ℕ) → m + 1 ≡ m + 0 + 1
    same m = omega arith

    unmarked : (o : Option Variable) → marks n ≡ None → option_map_or (variable_counts c marks n) o [] ≡ []
    unmarked None e = refl
    unmarked (Some v) e = ap (λ p. option_map_or (λ ss. cond (is_empty (element_dimensions c v)) 1 (product (sizes (counted ss (array_of c v)))) ∷ []) p []) e
large-of c file_len marks n m (Some leaf) counts found =
    ap (λ xs. first_large (m + 1) (xs ++ counts)) (counts-of c marks n found.variable found.marked_by found.is found.marked found.within)
    ∙ not-large (count_of (own_slabs c found.variable found.marked_by)) (m + 1) counts found.few

-- ---- all members

-- a refusal of one call handed on by another
pub same_err : {T U E : Type 0} (x y : E) → ◌≡◌ {A = Result T E} (Err x) (Err y) → ◌≡◌ {A = Result U E} (Err x) (Err y)
same_err {E = E} x y e = ap Err (go x y e)
  where
    go : {T : Type 0} (x y : E) → ◌≡◌ {A = Result T E} (Err x) (Err y) → x ≡ y
    go x y q = cc

-- the leaf that a refusal names
pub too_large_as : {T : Type 0} (refusal : BodyRefusal) (number leaf : ℕ) → refusal ≡ TooLarge number → ◌≡◌ {A = Result T BodyRefusal} (Err refusal) (Err (TooLarge leaf)) → leaf ≡ number
too_large_as refusal number leaf is e = cc

drop-all : {X : Type 0} (xs : List X) (k : ℕ) → length xs ≤ k → drop k xs ≡ []
drop-all [] zero le = refl
drop-all [] (suc k) le = refl
drop-all (x ∷ xs) zero le = absurd (omega (arith, le))
drop-all (x ∷ xs) (suc k) le = drop-all xs k (omega (arith, le))

pub nothing_yet : (c : Contents) (file_len : ℕ) (marks : Marks) → Gathered c file_len marks [] 0
unfolding leaves_xdr leaves_cost
nothing_yet c file_len marks = record {
  text = λ file h. refl;
  inside = All-nil (IsInside file_len);
  cost = omega arith;
  counts = refl;
  few = omega arith;
  asks = λ file h at put asked more none slots.
      let here : at + 0 ≡ at = omega arith in
      let same : more ≡ asked + more = omega (arith, none) in
      subst (λ x. SlotsAsk c file marks 1 (leaves_from c 0 c.variables) at put x) same (subst (λ x. SlotsAsk c file marks 1 (leaves_from c 0 c.variables) x put more) here slots);
}

module _ (c : Contents) (file_len : ℕ) (marks : Marks) (leaves : List Leaf) (k : ℕ) (lt : k < length (leaves_from c 0 c.variables)) (so_far : Gathered c file_len marks leaves k) where
  slot : Option ℕ
  slot = get_or (leaves_from c 0 c.variables) k None

  behind : List (Option ℕ)
  behind = drop (k + 1) (leaves_from c 0 c.variables)

  front : drop k (leaves_from c 0 c.variables) ≡ get_or (leaves_from c 0 c.variables) k None ∷ drop (k + 1) (leaves_from c 0 c.variables)
  front = drop_more (leaves_from c 0 c.variables) k None lt

  is-slot : leaf_variable c (k + 1) ≡ option_and_then (slice_get c.variables) (get_or (leaves_from c 0 c.variables) k None)
  is-slot = leaf-at c k lt

  counts-here : first_large (length leaves + 1) (option_map_or (variable_counts c marks (k + 1)) (leaf_variable c (k + 1)) [] ++ slots_counts c marks (k + 1 + 1) (drop (k + 1) (leaves_from c 0 c.variables))) ≡ first_large 1 (slots_counts c marks 1 (leaves_from c 0 c.variables))
  unfolding slots_counts
  counts-here =
      ap (λ o. first_large (length leaves + 1) (option_map_or (variable_counts c marks (k + 1)) o [] ++ slots_counts c marks (k + 1 + 1) (drop (k + 1) (leaves_from c 0 c.variables)))) is-slot
      ∙ sym (ap (λ slots. first_large (length leaves + 1) (slots_counts c marks (k + 1) slots)) front) ∙ so_far.counts

  more-long : (found : Option Leaf) → IsFound c file_len marks (k + 1) found → (file : List ℕ) → HasHeader c file
      → length (leaves_xdr (leaves ++ option_to_list found) file) ≡ length (leaves_xdr leaves file) + length (bytes_of (slot_sent c file marks (k + 1) (get_or (leaves_from c 0 c.variables) k None)))
  unfolding leaves_xdr
  more-long found is file h =
      ap length (flat_map-append (λ l. leaf_xdr l file) leaves (option_to_list found))
      ∙ length-append (leaves_xdr leaves file) (leaves_xdr (option_to_list found) file)
      ∙ ap (λ bs. length (leaves_xdr leaves file) + length bs) (sent-of c file_len file marks (k + 1) found h is ∙ ap (λ o. bytes_of (option_map_or (variable_sent c file marks (k + 1)) o [])) is-slot)

  asks-more : (found : Option Leaf) → IsFound c file_len marks (k + 1) found → (file : List ℕ) → HasHeader c file → (at put asked more : ℕ) → HaveBegun (leaves ++ option_to_list found) file at put asked
      → SlotsAsk c file marks (k + 1 + 1) (drop (k + 1) (leaves_from c 0 c.variables)) (at + length (leaves_xdr (leaves ++ option_to_list found) file)) put more → SlotsAsk c file marks 1 (leaves_from c 0 c.variables) at put (asked + more)
  asks-more found is file h at put asked more have slots =
      let apart = parted leaves (option_to_list found) file at put asked have in
      let from = at + length (leaves_xdr leaves file) in
      let here : SlotAsks c file marks (k + 1) (get_or (leaves_from c 0 c.variables) k None) from put apart.others
      = subst (λ o. MatchOption o (apart.others ≡ 0) (λ v. LeafAsks c file marks (k + 1) v from put apart.others)) is-slot (asks-of c file_len file marks (k + 1) from put apart.others found h is apart.back) in
      let next : at + length (leaves_xdr (leaves ++ option_to_list found) file) ≡ from + length (bytes_of (slot_sent c file marks (k + 1) (get_or (leaves_from c 0 c.variables) k None)))
      = ap (λ x. at + x) (more-long found is file h) ∙ along at (length (leaves_xdr leaves file)) (length (bytes_of (slot_sent c file marks (k + 1) (get_or (leaves_from c 0 c.variables) k None)))) in
      let all : SlotsAsk c file marks (k + 1) (get_or (leaves_from c 0 c.variables) k None ∷ drop (k + 1) (leaves_from c 0 c.variables)) from put (apart.others + more)
      = (apart.others, more, here, subst (λ x. SlotsAsk c file marks (k + 1 + 1) (drop (k + 1) (leaves_from c 0 c.variables)) x put more) next slots, refl) in
      let sum : apart.own + (apart.others + more) ≡ asked + more = omega (arith, apart.sum) in
      subst (λ x. SlotsAsk c file marks 1 (leaves_from c 0 c.variables) at put x) sum
      (so_far.asks file h at put apart.own (apart.others + more) apart.front (subst (λ xs. SlotsAsk c file marks (k + 1) xs from put (apart.others + more)) (sym front) all))
    where
      along : (a x y : ℕ) → a + (x + y) ≡ a + x + y
      along a x y = omega arith

  pub one_more_found : (found : Option Leaf) → IsFound c file_len marks (k + 1) found → Gathered c file_len marks (leaves ++ option_to_list found) (k + 1)
  unfolding leaves_xdr leaves_cost bytes_of slots_cost
  one_more_found found is = record {
    text = λ file h.
        ap (λ bs. bs ++ bytes_of (slots_sent c file marks (k + 1 + 1) (drop (k + 1) (leaves_from c 0 c.variables)))) (flat_map-append (λ l. leaf_xdr l file) leaves (option_to_list found))
        ∙ append_assoc (leaves_xdr leaves file) (leaves_xdr (option_to_list found) file) (bytes_of (slots_sent c file marks (k + 1 + 1) (drop (k + 1) (leaves_from c 0 c.variables))))
        ∙ ap (λ bs. leaves_xdr leaves file ++ (bs ++ bytes_of (slots_sent c file marks (k + 1 + 1) (drop (k + 1) (leaves_from c 0 c.variables)))))
        (sent-of c file_len file marks (k + 1) found h is ∙ ap (λ o. bytes_of (option_map_or (variable_sent c file marks (k + 1)) o [])) is-slot)
        ∙ ap (λ bs. leaves_xdr leaves file ++ bs)
        (sym (flat_map-append _ (slot_sent c file marks (k + 1) (get_or (leaves_from c 0 c.variables) k None)) (slots_sent c file marks (k + 1 + 1) (drop (k + 1) (leaves_from c 0 c.variables))))
        ∙ sym (ap (λ slots. bytes_of (slots_sent c file marks (k + 1) slots)) front))
        ∙ so_far.text file h;
    inside = All-append (IsInside file_len) leaves (option_to_list found) so_far.inside (inside-of c file_len marks (k + 1) found is);
    cost =
        let more : slots_cost c marks (k + 1) (drop k (leaves_from c 0 c.variables)) ≡ option_map_or (variable_cost c marks (k + 1)) (leaf_variable c (k + 1)) 0 + slots_cost c marks (k + 1 + 1) (drop (k + 1) (leaves_from c 0 c.variables))
        = ap (slots_cost c marks (k + 1)) front ∙ ap (λ o. option_map_or (variable_cost c marks (k + 1)) o 0 + slots_cost c marks (k + 1 + 1) (drop (k + 1) (leaves_from c 0 c.variables))) (sym is-slot) in
        let own : leaves_cost (option_to_list found) ≤ option_map_or (variable_cost c marks (k + 1)) (leaf_variable c (k + 1)) 0 = cost-of c file_len marks (k + 1) found is in
        let all : leaves_cost (leaves ++ option_to_list found) ≡ leaves_cost leaves + leaves_cost (option_to_list found) = sum_by-append leaf_cost leaves (option_to_list found) in
        omega (arith, more, own, all, so_far.cost);
    counts =
        ap (λ m. first_large (m + 1) (slots_counts c marks (k + 1 + 1) (drop (k + 1) (leaves_from c 0 c.variables)))) (length-append leaves (option_to_list found))
        ∙ sym (large-of c file_len marks (k + 1) (length leaves) found (slots_counts c marks (k + 1 + 1) (drop (k + 1) (leaves_from c 0 c.variables))) is)
        ∙ counts-here;
    few = omega (arith, so_far.few, length-append leaves (option_to_list found), at-most-one found);
    asks = λ file h at put asked more have slots. asks-more found is file h at put asked more have slots;
  }
    where
      at-most-one : (o : Option Leaf) → length (option_to_list o) ≤ 1
      at-most-one None = omega arith
      at-most-one (Some leaf) = omega arith

  pub is_too_large : IsLarge c marks (k + 1) → first_large 1 (slots_counts c marks 1 (leaves_from c 0 c.variables)) ≡ Some (length leaves + 1)
  is_too_large is =
      sym counts-here
      ∙ ap (λ xs. first_large (length leaves + 1) (xs ++ slots_counts c marks (k + 1 + 1) (drop (k + 1) (leaves_from c 0 c.variables)))) (counts-of c marks (k + 1) is.variable is.marked_by is.is is.marked is.within)
      ∙ large-first (count_of (own_slabs c is.variable is.marked_by)) (length leaves + 1) (slots_counts c marks (k + 1 + 1) (drop (k + 1) (leaves_from c 0 c.variables))) is.many

pub all_text : (c : Contents) (file_len : ℕ) (marks : Marks) (leaves : List Leaf) (k : ℕ) → length (leaves_from c 0 c.variables) ≤ k → Gathered c file_len marks leaves k →
    (file : List ℕ) → HasHeader c file → leaves_xdr leaves file ≡ bytes_of (slots_sent c file marks 1 (leaves_from c 0 c.variables))
unfolding bytes_of
all_text c file_len marks leaves k le so_far file h =
    sym (append-nil (leaves_xdr leaves file))
    ∙ sym (ap (λ slots. leaves_xdr leaves file ++ bytes_of (slots_sent c file marks (k + 1) slots)) (drop-all (leaves_from c 0 c.variables) k le))
    ∙ so_far.text file h

pub all_small : (c : Contents) (file_len : ℕ) (marks : Marks) (leaves : List Leaf) (k : ℕ) → length (leaves_from c 0 c.variables) ≤ k → Gathered c file_len marks leaves k →
    first_large 1 (slots_counts c marks 1 (leaves_from c 0 c.variables)) ≡ None
unfolding slots_counts
all_small c file_len marks leaves k le so_far =
    sym so_far.counts ∙ ap (λ slots. first_large (length leaves + 1) (slots_counts c marks (k + 1) slots)) (drop-all (leaves_from c 0 c.variables) k le)

pub all_asked : (c : Contents) (file_len : ℕ) (marks : Marks) (leaves : List Leaf) (k : ℕ) → length (leaves_from c 0 c.variables) ≤ k → Gathered c file_len marks leaves k →
    (file : List ℕ) → HasHeader c file → (at put asked : ℕ) → HaveBegun leaves file at put asked → SlotsAsk c file marks 1 (leaves_from c 0 c.variables) at put asked
all_asked c file_len marks leaves k le so_far file h at put asked have =
    let none : SlotsAsk c file marks (k + 1) (drop k (leaves_from c 0 c.variables)) (at + length (leaves_xdr leaves file)) put 0
    = subst (λ slots. SlotsAsk c file marks (k + 1) slots (at + length (leaves_xdr leaves file)) put 0) (sym (drop-all (leaves_from c 0 c.variables) k le)) refl in
    let same : asked + 0 ≡ asked = omega arith in
    subst (λ x. SlotsAsk c file marks 1 (leaves_from c 0 c.variables) at put x) same (so_far.asks file h at put asked 0 have none)
