-- A dimension's coordinate variable has its name.
use Rattle.std.proofs.Common.{◌≡◌, ℕ, Bool, true, false, not, ◌&&◌, cond, List, [], ◌∷◌, Option, Some, None, refl, sym, ap, subst, ◌∙◌}
use Rattle.std.specs.Prelude.{slice_get, is_some, option_and_then}
use Rattle.std.specs.Option.{option_map_or}
use Rattle.std.specs.Str.{bytes_eq}
use Rattle.std.proofs.lemmas.Slice.Eq.{bytes_eq-Decides}
use Rattle.plain_lemmas.proofs.Truths.{both_true}
use Rattle.dap_types.specs.Names.{file_id}
use Rattle.netcdf_source.specs.Mapping.{is_char, is_offered, name_at, dimension_ids, has_dimension_name, own_dimension_in, own_dimension, coordinate_at, coordinate_variable}
use Rattle.netcdf_source.specs.declared.header.Contents.{Contents}
use Rattle.netcdf_source.specs.declared.header.Dimension.{Dimension}
use Rattle.netcdf_source.specs.declared.header.Variable.{Variable}
use Rattle.netcdf_source.proofs.DimensionNames.{name_found}
use Rattle.netcdf_source.proofs.GridMaps.{coordinate_found, own_offered}

own_name : (c : Contents) (w : Variable) (i : ℕ) → own_dimension c w ≡ Some i → name_at c i ≡ w.name
unfolding own_dimension name_at
own_name c w i e = go w.dimensions e
  where
    found : (o : Option Dimension) → option_map_or (λ d. is_offered c w && not (is_char w) && bytes_eq w.name d.name) o false ≡ true → option_map_or (λ d. d.name) o [] ≡ w.name
    found None q = absurd cc
    found (Some d) q = sym ((bytes_eq-Decides w.name d.name).0 (both_true (is_offered c w && not (is_char w)) (bytes_eq w.name d.name) q).1)

    named : (j : ℕ) (b : Bool) → has_dimension_name c j w ≡ b → cond b (Some j) None ≡ Some i → name_at c i ≡ w.name
    named j true is q =
        let same : j ≡ i = cc in
        subst (λ (k : ℕ). name_at c k ≡ w.name) same (found (slice_get c.dimensions j) is)
    named j false is q = absurd cc

    go : (ids : List ℕ) → own_dimension_in c w ids ≡ Some i → name_at c i ≡ w.name
    go [] q = absurd cc
    go (j ∷ []) q = named j (has_dimension_name c j w) refl q
    go (j ∷ k ∷ ids) q = absurd cc

some_same : {x y : Variable} → Some x ≡ Some y → x ≡ y
some_same e = cc

coordinate_name : (c : Contents) (i : ℕ) (w : Variable) → coordinate_variable c i ≡ Some w → name_at c i ≡ w.name
coordinate_name c i w e = go (coordinate_at c i) refl e
  where
    go : (o : Option ℕ) → coordinate_at c i ≡ o → option_and_then (slice_get c.variables) o ≡ Some w → name_at c i ≡ w.name
    go None at q = absurd cc
    go (Some k) at q =
        let f = coordinate_found c i (ap is_some at) in
        let same : f.0 ≡ w = some_same (sym f.1 ∙ e) in
        own_name c f.0 i f.2.1 ∙ ap (λ v. v.name) same

pub map_name : (c : Contents) (names : List (List ℕ)) (i : ℕ) (w : Variable) → names ≡ dimension_ids c → coordinate_variable c i ≡ Some w → option_map_or (λ name. name) (slice_get names i) [] ≡ file_id w.name
map_name c names i w all e = name_found c names i all ∙ ap file_id (coordinate_name c i w e)

-- and is offered
pub map_offered : (c : Contents) (i : ℕ) (w : Variable) → coordinate_variable c i ≡ Some w → is_offered c w ≡ true
map_offered c i w e = go (coordinate_at c i) refl e
  where
    go : (o : Option ℕ) → coordinate_at c i ≡ o → option_and_then (slice_get c.variables) o ≡ Some w → is_offered c w ≡ true
    go None at q = absurd cc
    go (Some k) at q =
        let f = coordinate_found c i (ap is_some at) in
        let same : f.0 ≡ w = some_same (sym f.1 ∙ e) in
        subst (λ v. is_offered c v ≡ true) same (own_offered c f.0 i f.2.1)

pub ruleset map_names = (map_name)
