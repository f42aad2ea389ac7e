-- The first of some headers, and the hyperslabs of a leaf.
use Rattle.std.proofs.Common.{◌≡◌, ℕ, ◌≤◌, cond, eqb, List, [], ◌∷◌, length, Option, Some, None, refl, ap, ◌∙◌, arith, slice_index_or}
use Rattle.std.specs.Prelude.{option_map}
use Rattle.dap_types.specs.declared.slabs.Layout.{Layout}
use Rattle.dap_types.specs.declared.slabs.Slab.{Slab}
use Rattle.netcdf_source.proofs.Shaped.{has_steps}
use Rattle.netcdf_source.specs.File.{FileHeader}
use Rattle.netcdf_source.specs.Layouts.{layout_of}
use Rattle.netcdf_source.specs.Mapping.{leaf_variable}
use Rattle.netcdf_source.specs.declared.header.Contents.{Contents}
use Rattle.netcdf_source.specs.declared.header.Variable.{Variable}
use Rattle.xdr_encode.specs.Costs.{own_slabs}
use Rattle.join_source.specs.Members.{contents_of, first_of}

pub first-is : (headers : List FileHeader) (d : FileHeader) → 1 ≤ length headers → first_of (contents_of headers) ≡ (slice_index_or headers 0 d).contents
first-is [] d some = absurd (omega (arith, some))
first-is (h ∷ headers) d some = refl

layout-is : (c : Contents) (leaf : ℕ) (v : Variable) (layout : Layout) → ◌≡◌ {A = Option Layout} (Some layout) (option_map (layout_of c) (leaf_variable c leaf)) → leaf_variable c leaf ≡ Some v → layout ≡ layout_of c v
layout-is c leaf v layout found is = same (layout_of c v) (found ∙ ap (option_map (layout_of c)) is)
  where
    same : (l : Layout) → ◌≡◌ {A = Option Layout} (Some layout) (Some l) → layout ≡ l
    same l e = cc

pub no-layout : (c : Contents) (leaf : ℕ) (v : Variable) → ◌≡◌ {A = Option Layout} None (option_map (layout_of c) (leaf_variable c leaf)) → leaf_variable c leaf ≡ Some v → ⊥
no-layout c leaf v none is = differ (layout_of c v) (none ∙ ap (option_map (layout_of c)) is)
  where
    differ : (l : Layout) → ◌≡◌ {A = Option Layout} None (Some l) → ⊥
    differ l e = cc

pub own-slabs-of : (c : Contents) (leaf : ℕ) (v : Variable) (layout : Layout) (slabs own : List Slab) → ◌≡◌ {A = Option Layout} (Some layout) (option_map (layout_of c) (leaf_variable c leaf)) → leaf_variable c leaf ≡ Some v
    → own ≡ cond (eqb (length layout.steps) 0) [] slabs → own ≡ own_slabs c v slabs
own-slabs-of c leaf v layout slabs own found is cut =
    cut ∙ ap (λ l. cond (eqb (length l.steps) 0) [] slabs) (layout-is c leaf v layout found is) ∙ ap (λ n. cond (eqb n 0) [] slabs) (has_steps c v)
