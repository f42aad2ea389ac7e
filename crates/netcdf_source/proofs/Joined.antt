-- A sound header stays sound with another number of records, and has its sizes with any.
use Rattle.std.proofs.Common.{◌≡◌, ℕ, [], Option, Some, None, ◌∙◌, subst}
use Rattle.std.specs.Prelude.{option_and_then, slice_get}
use Rattle.netcdf_source.proofs.Placed.{element_record, plain_sizes, record_sizes, turn_positive}
use Rattle.netcdf_source.specs.Layouts.{HasSizes, LeafHasSizes}
use Rattle.netcdf_source.specs.Laws.{DatasetIsWellFormed}
use Rattle.netcdf_source.specs.Mapping.{element_dimensions, has_texts, leaf_in, leaf_variable, leaves_from, with_records}
use Rattle.netcdf_source.specs.declared.header.Variable.{Variable}
use Rattle.netcdf_source.specs.inner.Sound.{IsSound}
use Rattle.netcdf_source.specs.declared.header.Contents.{Contents}
use Rattle.netcdf_source.proofs.Good.{stands_sound}
use Rattle.netcdf_source.proofs.WellFormed.{dataset_well_formed}

pub joined_sound : (records : ℕ) (c : Contents) → IsSound c → IsSound (with_records records c)
joined_sound records c h = record { dimensions = h.dimensions; count = h.count; variables = h.variables; members = h.members }

pub dataset_is_well_formed : DatasetIsWellFormed
dataset_is_well_formed c front file_name file_len records short is =
    let sound = subst IsSound is.3 (stands_sound is.0 front is.1 short is.2) in
    (dataset_well_formed c file_name sound, dataset_well_formed (with_records records c) file_name (joined_sound records c sound))

pub has_sizes : (c : Contents) (k : ℕ) (v : Variable) → IsSound c → slice_get c.variables k ≡ Some v → HasSizes c v
unfolding element_dimensions has_texts
has_sizes c k v sound at =
    let positive = turn_positive c [] c.variables k v sound.variables at in
    record {
      over_records = λ e records. record_sizes (with_records records c) (element_dimensions c v) (element_record c v ∙ e) positive;
      fixed = λ e records. (plain_sizes (with_records records c) (element_dimensions c v) (element_record c v ∙ e) positive).0;
    }

pub leaf_has_sizes : (c : Contents) (leaf : ℕ) → IsSound c → LeafHasSizes c leaf
unfolding leaf_variable LeafHasSizes
leaf_has_sizes c leaf sound v is = go (leaf_in (leaves_from c 0 c.variables) leaf) is
  where
    go : (found : Option ℕ) → option_and_then (slice_get c.variables) found ≡ Some v → HasSizes c v
    go None e = absurd cc
    go (Some k) e = has_sizes c k v sound e
