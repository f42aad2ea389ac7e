-- The variable of a leaf of joined files, in one of them.
use Rattle.std.proofs.Common.{◌≡◌, ℕ, ◌≤◌, true, eqb, List, [], ◌∷◌, length, map, Option, Some, refl, sym, ap, ◌∙◌}
use Rattle.std.proofs.lemmas.List.FromFn.{length-map-range_with_len}
use Rattle.std.proofs.lemmas.List.{length-map}
use Rattle.std.specs.Option.{option_map_or}
use Rattle.std.specs.Prelude.{option_and_then, slice_get}
use Rattle.dap_types.proofs.Views.{items-trees_of}
use Rattle.dap_types.specs.Model.{many, no_trees, kids}
use Rattle.dap_types.specs.declared.slabs.Slab.{Slab}
use Rattle.dap_types.specs.declared.values.Value.{Value}
use Rattle.dap_model.specs.Cutting.{AreWithin, array_tree, cut}
use Rattle.dap_model.specs.Fits.{values_in}
use Rattle.dap_model.specs.Indexing.{by_index, indexed_tree}
use Rattle.dap_model.specs.Xdr.{bytes_of}
use Rattle.hyperslab_plan.proofs.PickedLemmas.{length-picked}
use Rattle.hyperslab_plan.specs.Picked.{count_of}
use Rattle.hyperslab_plan.specs.Plans.{place_of, places, total_of}
use Rattle.hyperslab_plan.specs.declared.plan.Plan.{Plan}
use Rattle.netcdf_source.proofs.Placed.{element_record}
use Rattle.netcdf_source.specs.Laws.{HasHeader}
use Rattle.netcdf_source.specs.Layouts.{element_at, element_sizes, steps_of}
use Rattle.netcdf_source.specs.Mapping.{base_of, element_dimensions, element_size, has_texts, is_empty, is_over_records, leaf_in, leaf_variable, leaves_from, size_at, HaveSameShape}
use Rattle.netcdf_source.specs.Parts.{begins_with_records, length_at, lengths}
use Rattle.netcdf_source.specs.Values.{tree_of, value_of}
use Rattle.netcdf_source.specs.declared.header.Contents.{Contents}
use Rattle.netcdf_source.specs.declared.header.Variable.{Variable}
use Rattle.slab_fill.specs.Elements.{element_fields}
use Rattle.std.specs.List.{flat_map}
use Rattle.xdr_encode.proofs.Inside.{slab_steps}
use Rattle.xdr_encode.proofs.Placing.{plans_cut}
use Rattle.xdr_encode.specs.Elements.{forms_from, value_in, values_from}
use Rattle.xdr_encode.specs.Placed.{IsPlanOf}
use Rattle.join_source.proofs.Leaves.{one-leaf, same-lengths}
use Rattle.join_source.proofs.Shapes.{bare, same-leaves}
use Rattle.join_source.specs.Trees.{tree_at}

-- it has the same number, type and dimensions
pub record Twin (d : Contents) (p : ℕ) (v w : Variable) : Type 0 where
  pub at : slice_get d.variables p ≡ Some w
  pub alike : bare v ≡ bare w

pub some-same : (v w : Variable) → ◌≡◌ {A = Option Variable} (Some v) (Some w) → v ≡ w
some-same v w e = cc

pub twin : (c d : Contents) (leaf p : ℕ) (v w : Variable) → HaveSameShape c d → c.records ≤ 2147483647 → d.records ≤ 2147483647 → leaf_variable c leaf ≡ Some v → leaf_in (leaves_from c 0 c.variables) leaf ≡ Some p → leaf_variable d leaf ≡ Some w → Twin d p v w
unfolding leaf_variable
twin c d leaf p v w same few small is place other =
    let found = one-leaf c d leaf v same few small is in
    let one : found.0 ≡ w = some-same found.0 w (sym found.1 ∙ other) in
    record {
      at = sym (ap (option_and_then (slice_get d.variables)) (ap (λ ls. leaf_in ls leaf) (sym (same-leaves c d same few small)) ∙ place)) ∙ other;
      alike = found.2 ∙ ap bare one;
    }

pub same-base : (v w : Variable) → bare v ≡ bare w → base_of v.external_type ≡ base_of w.external_type
same-base v w e = ap (λ x. base_of x.external_type) e

pub same-size : (c d : Contents) (v w : Variable) → HaveSameShape c d → bare v ≡ bare w → element_size c v ≡ element_size d w
unfolding element_size has_texts
same-size c d v w same e =
    ap (λ x. element_size c x) e
    ∙ ap (λ ds. element_size (record { records = 0; dimensions = ds; attributes = []; variables = [] }) (bare w)) same.dimensions

pub same-empty : (c d : Contents) (v w : Variable) → HaveSameShape c d → bare v ≡ bare w → is_empty (element_dimensions c v) ≡ is_empty (element_dimensions d w)
same-empty c d v w same e =
    ap (λ n. eqb n 0)
    (sym (length-map (element_dimensions c v) (length_at c.dimensions)) ∙ ap length (same-lengths c d v w same e) ∙ length-map (element_dimensions d w) (length_at d.dimensions))

pub tree-at : (d : Contents) (p : ℕ) (w : Variable) (file : List ℕ) → slice_get d.variables p ≡ Some w → tree_at p d file ≡ tree_of d file w
unfolding tree_at
tree-at d p w file at = ap (λ o. option_map_or (tree_of d file) o (many no_trees)) at

-- ---- as many values as records

pub sizes-first : (c : Contents) (ids : List ℕ) → begins_with_records (lengths c.dimensions ids) ≡ true → (ns : List ℕ) × (map (size_at c) ids ≡ c.records ∷ ns)
sizes-first c [] e = absurd cc
sizes-first c (i ∷ ids) e =
    let first : size_at c i ≡ c.records = rw e refl in
    (map (size_at c) ids, ap (λ n. n ∷ map (size_at c) ids) first)

kids-of : (n : ℕ) (ns : List ℕ) (at : List ℕ → Value) → length (kids (indexed_tree (n ∷ ns) at)) ≡ n
unfolding by_index
kids-of n ns at =
    ap length (items-trees_of (map (array_tree (length ns)) (by_index Value (n ∷ ns) at)))
    ∙ length-map (by_index Value (n ∷ ns) at) (array_tree (length ns))
    ∙ length-map-range_with_len (λ i. by_index Value ns (λ indexes. at (i ∷ indexes))) 0 n

pub record-kids : (c : Contents) (file : List ℕ) (v : Variable) → is_over_records c v ≡ true → length (kids (tree_of c file v)) ≡ c.records
unfolding tree_of
record-kids c file v over =
    let sizes = sizes-first c (element_dimensions c v) (element_record c v ∙ over) in
    ap (λ ns. length (kids (indexed_tree ns (λ indexes. value_of v.external_type (element_at c file v indexes))))) sizes.1
    ∙ kids-of c.records sizes.0 (λ indexes. value_of v.external_type (element_at c file v indexes))

-- ---- the elements of a plan

pub total-is : (c : Contents) (v : Variable) (slabs : List Slab) (plan : Plan) → IsPlanOf c v slabs plan → AreWithin slabs (element_sizes c v) → total_of plan ≡ count_of slabs
unfolding places
total-is c v slabs plan of-plan within =
    sym (length-map-range_with_len (place_of plan) 0 (total_of plan))
    ∙ ap length of-plan.places ∙ length-picked slabs (steps_of c v) v.begin (slab_steps c v slabs within)

pub values-are : (c : Contents) (file : List ℕ) (leaf : ℕ) (v : Variable) (slabs : List Slab) (plan : Plan) → HasHeader c file → leaf_variable c leaf ≡ Some v → AreWithin slabs (element_sizes c v) → IsPlanOf c v slabs plan
    → length (values_in (cut slabs (tree_of c file v))) ≡ count_of slabs
values-are c file leaf v slabs plan h is within of-plan =
    ap length (sym (plans_cut c file leaf v slabs plan h is within of-plan))
    ∙ length-map-range_with_len (value_in plan file) 0 (total_of plan)
    ∙ total-is c v slabs plan of-plan within

pub forms-are : (c : Contents) (file : List ℕ) (leaf : ℕ) (v : Variable) (slabs : List Slab) (plan : Plan) → HasHeader c file → leaf_variable c leaf ≡ Some v → AreWithin slabs (element_sizes c v) → IsPlanOf c v slabs plan
    → forms_from plan file 0 (total_of plan) ≡ bytes_of (flat_map (element_fields (base_of v.external_type)) (values_in (cut slabs (tree_of c file v))))
unfolding forms_from
forms-are c file leaf v slabs plan h is within of-plan =
    ap (λ b. bytes_of (flat_map (element_fields b) (values_from plan file 0 (total_of plan)))) of-plan.base
    ∙ ap (λ vs. bytes_of (flat_map (element_fields (base_of v.external_type)) vs)) (plans_cut c file leaf v slabs plan h is within of-plan)
