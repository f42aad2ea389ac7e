-- A record variable in each of some files.
use Rattle.std.proofs.Common.{◌≡◌, ℕ, ◌≤◌, List, [], ◌∷◌, length, drop, Some, refl, sym, ◌∙◌, subst}
use Rattle.dap_types.specs.declared.slabs.Slab.{Slab}
use Rattle.dap_model.specs.Cutting.{AreWithin}
use Rattle.hyperslab_plan.specs.Picked.{count_of}
use Rattle.netcdf_source.specs.File.{FileHeader}
use Rattle.netcdf_source.specs.Layouts.{element_sizes, LeafHasSizes}
use Rattle.netcdf_source.specs.Mapping.{element_dimensions, has_texts, leaf_variable, with_records}
use Rattle.netcdf_source.specs.Parts.{inner, lengths}
use Rattle.netcdf_source.specs.declared.header.Contents.{Contents}
use Rattle.netcdf_source.specs.declared.header.Variable.{Variable}
use Rattle.std.proofs.lemmas.List.{drop_all}
use Rattle.join_source.specs.Wanted.{AreRecords, IsOverOwn}

pub own-sizes : (c : Contents) (v : Variable) → element_sizes (with_records c.records c) v ≡ element_sizes c v
unfolding element_dimensions has_texts
own-sizes c v = refl

pub own-asked : (h : FileHeader) (leaf : ℕ) (slabs : List Slab) → ((first : Slab) × (rest : List Slab) × (slabs ≡ first ∷ rest) × IsOverOwn h leaf first rest) → LeafHasSizes h.contents leaf
    → (v : Variable) × (leaf_variable h.contents leaf ≡ Some v) × AreWithin slabs (element_sizes h.contents v)
unfolding LeafHasSizes
own-asked h leaf slabs (first, rest, slabs-are, own) sizes =
    let same : element_sizes h.contents own.variable ≡ h.contents.records ∷ inner (lengths h.contents.dimensions (element_dimensions h.contents own.variable))
    = sym (own-sizes h.contents own.variable) ∙ (sizes own.variable own.is).over_records own.over_records h.contents.records in
    (own.variable, own.is, subst (λ ss. AreWithin ss (element_sizes h.contents own.variable)) (sym slabs-are) (subst (AreWithin (first ∷ rest)) (sym same) (own.within, own.rest_within)))

pub own-few : (h : FileHeader) (leaf : ℕ) (slabs : List Slab) → ((first : Slab) × (rest : List Slab) × (slabs ≡ first ∷ rest) × IsOverOwn h leaf first rest) → count_of slabs ≤ 2147483647
own-few h leaf slabs (first, rest, slabs-are, own) = subst (λ ss. count_of ss ≤ 2147483647) (sym slabs-are) own.few

pub records-end : (headers : List FileHeader) (k leaf : ℕ) (left : Slab) (rest : List Slab) → length headers ≤ k → AreRecords k (drop k headers) leaf left rest []
records-end headers k leaf left rest le = subst (λ hs. AreRecords k hs leaf left rest []) (sym (drop_all k headers le)) tt
