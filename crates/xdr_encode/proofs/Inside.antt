-- The elements of a cut variable stand within the file.
use Rattle.std.proofs.Common.{◌≡◌, ℕ, ◌+◌, ◌≤◌, List, length, replicate, sym, subst, arith}
use Rattle.std.proofs.lemmas.List.{length-map, length-replicate}
use Rattle.std.proofs.lemmas.Slice.Zip.{AllZip-long}
use Rattle.dap_types.specs.declared.slabs.Slab.{Slab}
use Rattle.dap_model.specs.Cutting.{AreWithin, IsWithin}
use Rattle.hyperslab_plan.proofs.LawLemmas.{plans_are_within}
use Rattle.hyperslab_plan.specs.Laws.{AllWithin}
use Rattle.hyperslab_plan.specs.Plans.{place_of}
use Rattle.netcdf_source.proofs.Shaped.{has_steps}
use Rattle.netcdf_source.specs.Layouts.{element_sizes, steps_of, layout_of, IsPlaced}
use Rattle.netcdf_source.specs.Mapping.{element_dimensions, element_size, size_at}
use Rattle.netcdf_source.specs.declared.header.Contents.{Contents}
use Rattle.netcdf_source.specs.declared.header.Variable.{Variable}
use Rattle.xdr_encode.specs.Elements.{AreInside}
use Rattle.xdr_encode.specs.Placed.{LeafIsInside}

-- a hyperslab for each step
pub slab_steps : (c : Contents) (v : Variable) (slabs : List Slab) → AreWithin slabs (element_sizes c v) → length slabs ≡ length (steps_of c v)
slab_steps c v slabs within =
    omega (arith, AllZip-long IsWithin slabs (element_sizes c v) within, length-map (element_dimensions c v) (size_at c), has_steps c v)

-- every element of a placed variable stands in the file
pub all_within : (c : Contents) (file_len : ℕ) (v : Variable) → IsPlaced c file_len v (layout_of c v) → AllWithin (element_sizes c v) (steps_of c v) v.begin (element_size c v) file_len
unfolding IsPlaced
all_within c file_len v placed indexes inside = (placed (replicate file_len 0) indexes (length-replicate file_len 0) inside).0

pub leaf_is_inside : LeafIsInside
unfolding AreInside
leaf_is_inside c file_len v slabs leaf placed within of_leaf p lt =
    subst (λ n. place_of leaf.plan p + n ≤ file_len) (sym of_leaf.plan.size)
    (plans_are_within leaf.plan slabs (element_sizes c v) (steps_of c v) v.begin (element_size c v) file_len within (slab_steps c v slabs within) (all_within c file_len v placed) of_leaf.plan.places p lt)
