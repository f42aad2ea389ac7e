-- The name of a dimension, by the table of all of them.
use Rattle.std.proofs.Common.{◌≡◌, ℕ, List, [], Option, Some, None, refl, ap, ◌∙◌}
use Rattle.std.specs.Prelude.{option_map, slice_get}
use Rattle.std.specs.Option.{option_map_or}
use Rattle.std.proofs.lemmas.Option.{slice_get-map}
use Rattle.dap_types.specs.Names.{file_id}
use Rattle.netcdf_source.specs.Mapping.{name_at, dimension_ids}
use Rattle.netcdf_source.specs.declared.header.Contents.{Contents}
use Rattle.netcdf_source.specs.declared.header.Dimension.{Dimension}

pub name_found : (c : Contents) (names : List (List ℕ)) (i : ℕ) → names ≡ dimension_ids c → option_map_or (λ name. name) (slice_get names i) [] ≡ file_id (name_at c i)
unfolding name_at
name_found c names i e =
    ap (λ ns. option_map_or (λ name. name) (slice_get ns i) []) e ∙ ap (λ o. option_map_or (λ name. name) o []) (slice_get-map (λ d. file_id d.name) c.dimensions i) ∙ go (slice_get c.dimensions i)
  where
    go : (o : Option Dimension) → option_map_or (λ name. name) (option_map (λ d. file_id d.name) o) [] ≡ file_id (option_map_or (λ d. d.name) o [])
    go None = refl
    go (Some d) = refl

pub ruleset dimension_names = (name_found)
