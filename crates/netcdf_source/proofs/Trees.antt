-- Dimensions, attributes, variables and headers: what is read is a tree, and each tree is read.
use Rattle.std.proofs.Common.{◌≡◌, ℕ, ◌*◌, List, [], ◌∷◌, ◌++◌, length, map, eqb, Ok, refl, ap, subst}
use Rattle.std.specs.List.{list_any}
use Rattle.netcdf_source.specs.Fields.{Judged, judged, fine, run}
use Rattle.netcdf_source.specs.Grammar.{Listed, AttributeTree, attribute, external_type, in_turn, list_fields, name_fields, new_name_fields, dimension_fields, attribute_fields, id_fields, length_fault, type_fault, rank_fault, dimension_fault, no_fault, is_record_dimension}
use Rattle.netcdf_source.specs.inner.Reading.{◌>>=◌, run_at, judged_at, type_at, list_at, name_at, new_name_at, dimension_at, next_dimension, attribute_at, next_attribute, next_id, ids_at, times}
use Rattle.netcdf_source.specs.Types.{size_of}
use Rattle.netcdf_source.specs.Versions.{bytes_in, number_width}
use Rattle.netcdf_source.specs.declared.version.Version.{Version}
use Rattle.netcdf_source.specs.declared.version.Width.{Width}
use Rattle.netcdf_source.specs.declared.version.Width.TheVariants.{Four}
use Rattle.netcdf_source.specs.Attribute.{Attribute}
use Rattle.netcdf_source.specs.declared.header.Dimension.{Dimension}
use Rattle.netcdf_source.proofs.Ends.{Again, Sound, again_done, again_then, sound_done, sound_then, sound_as}
use Rattle.netcdf_source.proofs.Singles.{again_single, sound_single, number_reader, type_reader, values_reader}
use Rattle.netcdf_source.proofs.Items.{list_again, list_sound, sized_again, sized_sound, times_again, times_found, name_again, name_sound, new_name_again, new_name_sound}
use Rattle.dap_model.specs.Xdr.{padded}

pub map-same : {X : Type 0} (xs : List X) → map (λ x. x) xs ≡ xs
map-same [] = refl
map-same (x ∷ xs) = ap (λ ys. x ∷ ys) (map-same xs)

-- ---- dimensions

pub dimension_again : (width : Width) (before : List Dimension) (d : Dimension) → Again (dimension_fields width before d) d (next_dimension width before)
unfolding dimension_fields dimension_at
dimension_again width before d =
    let earlier = map (λ b. b.name) before in
    let fault = length_fault width (list_any is_record_dimension before) in
    again_then (new_name_fields width earlier d.name) ((judged width fault d.length ∷ []) ++ []) d.name d (new_name_at width earlier) (λ name. judged_at width fault name.1 >>= λ n. Ok (record { name = name.0; length = n.0 }, n.1)) (new_name_again width earlier d.name)
    (again_then (judged width fault d.length ∷ []) [] d.length d (judged_at width fault) (λ n. Ok (record { name = d.name; length = n.0 }, n.1)) (again_single (judged width fault) (λ n. n) (bytes_in width) (judged_at width fault) (number_reader width fault) d.length)
    (again_done d))

abbrev dimension_of : List ℕ × (ℕ × Unit {0}) → Dimension
dimension_of p = record { name = p.0; length = p.1.0 }

pub dimension_sound : (width : Width) (before : List Dimension) → Sound (dimension_fields width before) (λ d. d) (next_dimension width before)
unfolding dimension_fields dimension_at
dimension_sound width before =
    let earlier = map (λ b. b.name) before in
    let fault = length_fault width (list_any is_record_dimension before) in
    sound_as {T = List ℕ × (ℕ × Unit {0})} (λ p. new_name_fields width earlier p.0 ++ ((judged width fault p.1.0 ∷ []) ++ [])) dimension_of (dimension_fields width before) (λ d. d) (next_dimension width before) dimension_of (λ p. refl) (λ p. refl)
    (sound_then (new_name_fields width earlier) (λ x. x) (new_name_at width earlier) (λ name p. (judged width fault p.0 ∷ []) ++ []) (λ name p. dimension_of (name, p)) (λ name. judged_at width fault name.1 >>= λ n. Ok (record { name = name.0; length = n.0 }, n.1)) (new_name_sound width earlier)
    (λ name. sound_then (λ n. judged width fault n ∷ []) (λ n. n) (judged_at width fault) (λ n u. []) (λ n u. dimension_of (name, (n, u))) (λ n. Ok (record { name = name; length = n.0 }, n.1)) (sound_single (judged width fault) (λ n. n) (bytes_in width) (judged_at width fault) (number_reader width fault))
    (λ n. sound_done (record { name = name; length = n }))))

-- ---- attributes

pub attribute_again : (version : Version) (before : List Attribute) (a : AttributeTree) → Again (attribute_fields version before a) (attribute a) (next_attribute version before)
unfolding attribute_fields attribute_at
attribute_again version before a =
    let width = number_width version in
    let kind = external_type a.number in
    let size = a.count * size_of kind in
    again_then (name_fields width a.name) ((judged Four (type_fault version) a.number ∷ []) ++ ((judged width no_fault a.count ∷ []) ++ ((fine (run size a.values) ∷ []) ++ []))) a.name (attribute a) (name_at width)
    (λ name. type_at version name.1 >>= λ kind. judged_at width no_fault kind.1 >>= λ count. run_at (count.0 * size_of kind.0) count.1 >>= λ values. Ok (record { name = name.0; external_type = kind.0; values = values.0 }, values.1)) (name_again width a.name)
    (again_then (judged Four (type_fault version) a.number ∷ []) ((judged width no_fault a.count ∷ []) ++ ((fine (run size a.values) ∷ []) ++ [])) kind (attribute a) (type_at version)
    (λ kind. judged_at width no_fault kind.1 >>= λ count. run_at (count.0 * size_of kind.0) count.1 >>= λ values. Ok (record { name = a.name; external_type = kind.0; values = values.0 }, values.1)) (again_single (judged Four (type_fault version)) external_type 4 (type_at version) (type_reader version) a.number)
    (again_then (judged width no_fault a.count ∷ []) ((fine (run size a.values) ∷ []) ++ []) a.count (attribute a) (judged_at width no_fault)
    (λ count. run_at (count.0 * size_of kind) count.1 >>= λ values. Ok (record { name = a.name; external_type = kind; values = values.0 }, values.1)) (again_single (judged width no_fault) (λ n. n) (bytes_in width) (judged_at width no_fault) (number_reader width no_fault) a.count)
    (again_then (fine (run size a.values) ∷ []) [] a.values (attribute a) (run_at size)
    (λ values. Ok (record { name = a.name; external_type = kind; values = values.0 }, values.1)) (again_single (λ x. fine (run size x)) (λ x. x) (padded size) (run_at size) (values_reader size) a.values)
    (again_done (attribute a)))))

abbrev attribute_of : List ℕ × (ℕ × (ℕ × (List ℕ × Unit {0}))) → AttributeTree
attribute_of p = record { name = p.0; number = p.1.0; count = p.1.1.0; values = p.1.1.1.0 }

abbrev attribute_rest : Version → ℕ → ℕ × (List ℕ × Unit {0}) → List Judged
attribute_rest version number p = (judged (number_width version) no_fault p.0 ∷ []) ++ ((fine (run (p.0 * size_of (external_type number)) p.1.0) ∷ []) ++ [])

pub attribute_sound : (version : Version) (before : List Attribute) → Sound (attribute_fields version before) attribute (next_attribute version before)
unfolding attribute_fields attribute_at
attribute_sound version before =
    let width = number_width version in
    sound_as {T = List ℕ × (ℕ × (ℕ × (List ℕ × Unit {0})))} (λ p. name_fields width p.0 ++ ((judged Four (type_fault version) p.1.0 ∷ []) ++ attribute_rest version p.1.0 p.1.1)) (λ p. attribute (attribute_of p)) (attribute_fields version before) attribute (next_attribute version before) attribute_of (λ p. refl) (λ p. refl)
    (sound_then (name_fields width) (λ x. x) (name_at width) (λ name p. (judged Four (type_fault version) p.0 ∷ []) ++ attribute_rest version p.0 p.1) (λ name p. attribute (attribute_of (name, p)))
    (λ name. type_at version name.1 >>= λ kind. judged_at width no_fault kind.1 >>= λ count. run_at (count.0 * size_of kind.0) count.1 >>= λ values. Ok (record { name = name.0; external_type = kind.0; values = values.0 }, values.1)) (name_sound width)
    (λ name. sound_then (λ n. judged Four (type_fault version) n ∷ []) external_type (type_at version) (λ n p. attribute_rest version n p) (λ n p. attribute (attribute_of (name, (n, p))))
    (λ kind. judged_at width no_fault kind.1 >>= λ count. run_at (count.0 * size_of kind.0) count.1 >>= λ values. Ok (record { name = name; external_type = kind.0; values = values.0 }, values.1)) (sound_single (judged Four (type_fault version)) external_type 4 (type_at version) (type_reader version))
    (λ n. sound_then (λ count. judged width no_fault count ∷ []) (λ count. count) (judged_at width no_fault) (λ count p. (fine (run (count * size_of (external_type n)) p.0) ∷ []) ++ []) (λ count p. attribute (attribute_of (name, (n, (count, p)))))
    (λ count. run_at (count.0 * size_of (external_type n)) count.1 >>= λ values. Ok (record { name = name; external_type = external_type n; values = values.0 }, values.1)) (sound_single (judged width no_fault) (λ k. k) (bytes_in width) (judged_at width no_fault) (number_reader width no_fault))
    (λ count. sound_then (λ x. fine (run (count * size_of (external_type n)) x) ∷ []) (λ x. x) (run_at (count * size_of (external_type n))) (λ x u. []) (λ x u. attribute (attribute_of (name, (n, (count, (x, u))))))
    (λ values. Ok (record { name = name; external_type = external_type n; values = values.0 }, values.1)) (sound_single (λ x. fine (run (count * size_of (external_type n)) x)) (λ x. x) (padded (count * size_of (external_type n))) (run_at (count * size_of (external_type n))) (values_reader (count * size_of (external_type n))))
    (λ x. sound_done (record { name = name; external_type = external_type n; values = x }))))))

pub attributes_again : (version : Version) (l : Listed AttributeTree) → Again (list_fields (number_width version) 12 (attribute_fields version) attribute l) (map attribute l.items) (list_at (number_width version) 12 (next_attribute version))
attributes_again version l = list_again (number_width version) 12 (attribute_fields version) attribute (next_attribute version) (attribute_again version) l

pub attributes_sound : (version : Version) → Sound (list_fields (number_width version) 12 (attribute_fields version) attribute) (λ l. map attribute l.items) (list_at (number_width version) 12 (next_attribute version))
attributes_sound version = list_sound (number_width version) 12 (attribute_fields version) attribute (next_attribute version) (attribute_sound version)

-- ---- the dimensions of a variable

abbrev pub ids_fields : Width → List Dimension → List ℕ → List Judged
ids_fields width dims ids = judged width rank_fault (length ids) ∷ in_turn (id_fields width dims) (λ n. n) [] ids

id_again : (width : Width) (dims : List Dimension) (before : List ℕ) (n : ℕ) → Again (id_fields width dims before n) n (next_id width dims before)
unfolding id_fields
id_again width dims before n = let fault = dimension_fault dims (eqb (length before) 0) in again_single (judged width fault) (λ k. k) (bytes_in width) (judged_at width fault) (number_reader width fault) n

id_sound : (width : Width) (dims : List Dimension) (before : List ℕ) → Sound (id_fields width dims before) (λ n. n) (next_id width dims before)
unfolding id_fields
id_sound width dims before = let fault = dimension_fault dims (eqb (length before) 0) in sound_single (judged width fault) (λ k. k) (bytes_in width) (judged_at width fault) (number_reader width fault)

pub ids_again : (width : Width) (dims : List Dimension) (ids : List ℕ) → Again (ids_fields width dims ids) ids (ids_at width dims)
unfolding ids_at
ids_again width dims ids =
    subst (λ x. Again (ids_fields width dims ids) x (ids_at width dims)) (map-same ids)
    (sized_again width rank_fault length (in_turn (id_fields width dims) (λ n. n) []) (map (λ n. n)) (λ n. times (next_id width dims) n []) ids (times_again (id_fields width dims) (λ n. n) (next_id width dims) (id_again width dims) [] ids))

pub ids_sound : (width : Width) (dims : List Dimension) → Sound (ids_fields width dims) (λ ids. ids) (ids_at width dims)
unfolding ids_at
ids_sound width dims =
    sound_as (ids_fields width dims) (map (λ n. n)) (ids_fields width dims) (λ ids. ids) (ids_at width dims) (λ ids. ids) (λ ids. refl) map-same
    (sized_sound width rank_fault length (in_turn (id_fields width dims) (λ n. n) []) (map (λ n. n)) (λ n. times (next_id width dims) n []) (λ n bytes fits. times_found (id_fields width dims) (λ k. k) (next_id width dims) (id_sound width dims) n [] bytes fits))
