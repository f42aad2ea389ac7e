-- Variables and headers: what is read is a tree, and each tree is read.
use Rattle.std.proofs.Common.{ℕ, List, [], ◌∷◌, ◌++◌, map, Result, Ok, refl, subst}
use Rattle.netcdf_source.specs.Fields.{Judged, judged}
use Rattle.netcdf_source.specs.Grammar.{Listed, AttributeTree, VariableTree, HeaderTree, attribute, variable, contents, external_type, list_fields, new_name_fields, dimension_fields, attribute_fields, variable_fields, header_fields, type_fault, size_fault, records_fault, begin_fault}
use Rattle.netcdf_source.specs.Parts.{shares}
use Rattle.netcdf_source.specs.Versions.{bytes_in, number_width, place_width}
use Rattle.netcdf_source.specs.declared.version.Version.{Version}
use Rattle.netcdf_source.specs.declared.version.Width.{Width}
use Rattle.netcdf_source.specs.declared.version.Width.TheVariants.{Four}
use Rattle.netcdf_source.specs.inner.Reading.{◌>>=◌, judged_at, type_at, list_at, new_name_at, next_dimension, next_attribute, ids_at, variable_at, next_variable, contents_at}
use Rattle.netcdf_source.specs.declared.external_type.ExternalType.{ExternalType}
use Rattle.netcdf_source.specs.Attribute.{Attribute}
use Rattle.netcdf_source.specs.declared.header.Contents.{Contents}
use Rattle.netcdf_source.specs.declared.header.Dimension.{Dimension}
use Rattle.netcdf_source.specs.declared.header.Variable.{Variable}
use Rattle.netcdf_source.specs.declared.failure.Failure.{Failure}
use Rattle.netcdf_source.proofs.Ends.{Again, Sound, again_done, again_then, sound_done, sound_then, sound_as}
use Rattle.netcdf_source.proofs.Singles.{again_single, sound_single, number_reader, type_reader}
use Rattle.netcdf_source.proofs.Items.{list_again, list_sound, new_name_again, new_name_sound}
use Rattle.netcdf_source.proofs.Trees.{map-same, dimension_again, dimension_sound, attributes_again, attributes_sound, ids_fields, ids_again, ids_sound}

-- what stands behind a part of a variable, and what is read there
abbrev pub rest5 : Version → ℕ → List Judged
rest5 version begin = (judged (place_width version) begin_fault begin ∷ []) ++ []

abbrev pub rest4 : Version → List Dimension → ℕ → List ℕ → ℕ → ℕ → ℕ → List Judged
rest4 version dims sum ids number size begin = (judged (number_width version) (size_fault dims sum ids (external_type number)) size ∷ []) ++ rest5 version begin

abbrev pub rest3 : Version → List Dimension → ℕ → List ℕ → ℕ → ℕ → ℕ → List Judged
rest3 version dims sum ids number size begin = (judged Four (type_fault version) number ∷ []) ++ rest4 version dims sum ids number size begin

abbrev pub rest2 : Version → List Dimension → ℕ → List ℕ → Listed AttributeTree → ℕ → ℕ → ℕ → List Judged
rest2 version dims sum ids attrs number size begin = list_fields (number_width version) 12 (attribute_fields version) attribute attrs ++ rest3 version dims sum ids number size begin

abbrev pub rest1 : Version → List Dimension → ℕ → List ℕ → Listed AttributeTree → ℕ → ℕ → ℕ → List Judged
rest1 version dims sum ids attrs number size begin = ids_fields (number_width version) dims ids ++ rest2 version dims sum ids attrs number size begin

abbrev read5 : List ℕ → List ℕ → List Attribute → ExternalType → ℕ × List ℕ → Result (Variable × List ℕ) Failure
read5 name ids attrs kind begin = Ok (record { name = name; dimensions = ids; attributes = attrs; external_type = kind; begin = begin.0 }, begin.1)

abbrev read4 : Version → List ℕ → List ℕ → List Attribute → ExternalType → ℕ × List ℕ → Result (Variable × List ℕ) Failure
read4 version name ids attrs kind size = judged_at (place_width version) begin_fault size.1 >>= read5 name ids attrs kind

abbrev read3 : Version → List Dimension → ℕ → List ℕ → List ℕ → List Attribute → ExternalType × List ℕ → Result (Variable × List ℕ) Failure
read3 version dims sum name ids attrs kind = judged_at (number_width version) (size_fault dims sum ids kind.0) kind.1 >>= read4 version name ids attrs kind.0

abbrev read2 : Version → List Dimension → ℕ → List ℕ → List ℕ → List Attribute × List ℕ → Result (Variable × List ℕ) Failure
read2 version dims sum name ids attrs = type_at version attrs.1 >>= read3 version dims sum name ids attrs.0

abbrev read1 : Version → List Dimension → ℕ → List ℕ → List ℕ × List ℕ → Result (Variable × List ℕ) Failure
read1 version dims sum name ids = list_at (number_width version) 12 (next_attribute version) ids.1 >>= read2 version dims sum name ids.0

abbrev read0 : Version → List Dimension → ℕ → List ℕ × List ℕ → Result (Variable × List ℕ) Failure
read0 version dims sum name = ids_at (number_width version) dims name.1 >>= read1 version dims sum name.0

variable_again : (version : Version) (dims : List Dimension) (before : List Variable) (v : VariableTree) → Again (variable_fields version dims before v) (variable v) (next_variable version dims before)
unfolding variable_fields variable_at
variable_again version dims before v =
    let width = number_width version in
    let places = place_width version in
    let earlier = map (λ b. b.name) before in
    let sum = shares dims before in
    let kind = external_type v.number in
    let attrs = map attribute v.attributes.items in
    let fault = size_fault dims sum v.dimensions kind in
    again_then (new_name_fields width earlier v.name) (rest1 version dims sum v.dimensions v.attributes v.number v.size v.begin) v.name (variable v) (new_name_at width earlier) (read0 version dims sum) (new_name_again width earlier v.name)
    (again_then (ids_fields width dims v.dimensions) (rest2 version dims sum v.dimensions v.attributes v.number v.size v.begin) v.dimensions (variable v) (ids_at width dims) (read1 version dims sum v.name) (ids_again width dims v.dimensions)
    (again_then (list_fields width 12 (attribute_fields version) attribute v.attributes) (rest3 version dims sum v.dimensions v.number v.size v.begin) attrs (variable v) (list_at width 12 (next_attribute version)) (read2 version dims sum v.name v.dimensions) (attributes_again version v.attributes)
    (again_then (judged Four (type_fault version) v.number ∷ []) (rest4 version dims sum v.dimensions v.number v.size v.begin) kind (variable v) (type_at version) (read3 version dims sum v.name v.dimensions attrs) (again_single (judged Four (type_fault version)) external_type 4 (type_at version) (type_reader version) v.number)
    (again_then (judged width fault v.size ∷ []) (rest5 version v.begin) v.size (variable v) (judged_at width fault) (read4 version v.name v.dimensions attrs kind) (again_single (judged width fault) (λ n. n) (bytes_in width) (judged_at width fault) (number_reader width fault) v.size)
    (again_then (judged places begin_fault v.begin ∷ []) [] v.begin (variable v) (judged_at places begin_fault) (read5 v.name v.dimensions attrs kind) (again_single (judged places begin_fault) (λ n. n) (bytes_in places) (judged_at places begin_fault) (number_reader places begin_fault) v.begin)
    (again_done (variable v)))))))

abbrev Flat : Type 0
Flat = List ℕ × (List ℕ × (Listed AttributeTree × (ℕ × (ℕ × (ℕ × Unit {0})))))

abbrev variable_of : Flat → VariableTree
variable_of p = record { name = p.0; dimensions = p.1.0; attributes = p.1.1.0; number = p.1.1.1.0; size = p.1.1.1.1.0; begin = p.1.1.1.1.1.0 }

variable_sound : (version : Version) (dims : List Dimension) (before : List Variable) → Sound (variable_fields version dims before) variable (next_variable version dims before)
unfolding variable_fields variable_at
variable_sound version dims before =
    let width = number_width version in
    let places = place_width version in
    let earlier = map (λ b. b.name) before in
    let sum = shares dims before in
    sound_as {T = Flat} (λ p. new_name_fields width earlier p.0 ++ rest1 version dims sum p.1.0 p.1.1.0 p.1.1.1.0 p.1.1.1.1.0 p.1.1.1.1.1.0) (λ p. variable (variable_of p)) (variable_fields version dims before) variable (next_variable version dims before) variable_of (λ p. refl) (λ p. refl)
    (sound_then (new_name_fields width earlier) (λ x. x) (new_name_at width earlier) (λ name p. rest1 version dims sum p.0 p.1.0 p.1.1.0 p.1.1.1.0 p.1.1.1.1.0) (λ name p. variable (variable_of (name, p))) (read0 version dims sum) (new_name_sound width earlier)
    (λ name. sound_then (ids_fields width dims) (λ x. x) (ids_at width dims) (λ ids p. rest2 version dims sum ids p.0 p.1.0 p.1.1.0 p.1.1.1.0) (λ ids p. variable (variable_of (name, (ids, p)))) (read1 version dims sum name) (ids_sound width dims)
    (λ ids. sound_then (list_fields width 12 (attribute_fields version) attribute) (λ l. map attribute l.items) (list_at width 12 (next_attribute version)) (λ l p. rest3 version dims sum ids p.0 p.1.0 p.1.1.0) (λ l p. variable (variable_of (name, (ids, (l, p))))) (read2 version dims sum name ids) (attributes_sound version)
    (λ l. sound_then (λ n. judged Four (type_fault version) n ∷ []) external_type (type_at version) (λ n p. rest4 version dims sum ids n p.0 p.1.0) (λ n p. variable (variable_of (name, (ids, (l, (n, p)))))) (read3 version dims sum name ids (map attribute l.items)) (sound_single (judged Four (type_fault version)) external_type 4 (type_at version) (type_reader version))
    (λ n. sound_then (λ z. judged width (size_fault dims sum ids (external_type n)) z ∷ []) (λ z. z) (judged_at width (size_fault dims sum ids (external_type n))) (λ z p. rest5 version p.0) (λ z p. variable (variable_of (name, (ids, (l, (n, (z, p))))))) (read4 version name ids (map attribute l.items) (external_type n)) (sound_single (judged width (size_fault dims sum ids (external_type n))) (λ z. z) (bytes_in width) (judged_at width (size_fault dims sum ids (external_type n))) (number_reader width (size_fault dims sum ids (external_type n))))
    (λ z. sound_then (λ b. judged places begin_fault b ∷ []) (λ b. b) (judged_at places begin_fault) (λ b w. []) (λ b w. variable (variable_of (name, (ids, (l, (n, (z, (b, w)))))))) (read5 name ids (map attribute l.items) (external_type n)) (sound_single (judged places begin_fault) (λ b. b) (bytes_in places) (judged_at places begin_fault) (number_reader places begin_fault))
    (λ b. sound_done (variable (variable_of (name, (ids, (l, (n, (z, (b, tt)))))))))))))))

-- ---- the header

abbrev pub more3 : Version → List Dimension → Listed VariableTree → List Judged
more3 version dims vars = list_fields (number_width version) 11 (variable_fields version dims) variable vars ++ []

abbrev pub more2 : Version → List Dimension → Listed AttributeTree → Listed VariableTree → List Judged
more2 version dims attrs vars = list_fields (number_width version) 12 (attribute_fields version) attribute attrs ++ more3 version dims vars

abbrev pub more1 : Version → Listed Dimension → Listed AttributeTree → Listed VariableTree → List Judged
more1 version dims attrs vars = list_fields (number_width version) 10 (dimension_fields (number_width version)) (λ d. d) dims ++ more2 version dims.items attrs vars

abbrev next3 : ℕ → List Dimension → List Attribute → List Variable × List ℕ → Result (Contents × List ℕ) Failure
next3 records dims attrs vars = Ok (record { records = records; dimensions = dims; attributes = attrs; variables = vars.0 }, vars.1)

abbrev next2 : Version → ℕ → List Dimension → List Attribute × List ℕ → Result (Contents × List ℕ) Failure
next2 version records dims attrs = list_at (number_width version) 11 (next_variable version dims) attrs.1 >>= next3 records dims attrs.0

abbrev next1 : Version → ℕ → List Dimension × List ℕ → Result (Contents × List ℕ) Failure
next1 version records dims = list_at (number_width version) 12 (next_attribute version) dims.1 >>= next2 version records dims.0

abbrev next0 : Version → ℕ × List ℕ → Result (Contents × List ℕ) Failure
next0 version records = list_at (number_width version) 10 (next_dimension (number_width version)) records.1 >>= next1 version records.0

dimensions_again : (width : Width) (l : Listed Dimension) → Again (list_fields width 10 (dimension_fields width) (λ d. d) l) l.items (list_at width 10 (next_dimension width))
dimensions_again width l = subst (λ x. Again (list_fields width 10 (dimension_fields width) (λ d. d) l) x (list_at width 10 (next_dimension width))) (map-same l.items) (list_again width 10 (dimension_fields width) (λ d. d) (next_dimension width) (dimension_again width) l)

dimensions_sound : (width : Width) → Sound (list_fields width 10 (dimension_fields width) (λ d. d)) (λ l. l.items) (list_at width 10 (next_dimension width))
dimensions_sound width =
    sound_as (list_fields width 10 (dimension_fields width) (λ d. d)) (λ l. map (λ d. d) l.items) (list_fields width 10 (dimension_fields width) (λ d. d)) (λ l. l.items) (list_at width 10 (next_dimension width)) (λ l. l) (λ l. refl) (λ l. map-same l.items)
    (list_sound width 10 (dimension_fields width) (λ d. d) (next_dimension width) (dimension_sound width))

pub header_again : (h : HeaderTree) → Again (header_fields h) (contents h) (contents_at h.version)
unfolding header_fields contents_at
header_again h =
    let width = number_width h.version in
    let fault = records_fault width in
    let dims = h.dimensions.items in
    let attrs = map attribute h.attributes.items in
    let vars = map variable h.variables.items in
    again_then (judged width fault h.records ∷ []) (more1 h.version h.dimensions h.attributes h.variables) h.records (contents h) (judged_at width fault) (next0 h.version) (again_single (judged width fault) (λ n. n) (bytes_in width) (judged_at width fault) (number_reader width fault) h.records)
    (again_then (list_fields width 10 (dimension_fields width) (λ d. d) h.dimensions) (more2 h.version dims h.attributes h.variables) dims (contents h) (list_at width 10 (next_dimension width)) (next1 h.version h.records) (dimensions_again width h.dimensions)
    (again_then (list_fields width 12 (attribute_fields h.version) attribute h.attributes) (more3 h.version dims h.variables) attrs (contents h) (list_at width 12 (next_attribute h.version)) (next2 h.version h.records dims) (attributes_again h.version h.attributes)
    (again_then (list_fields width 11 (variable_fields h.version dims) variable h.variables) [] vars (contents h) (list_at width 11 (next_variable h.version dims)) (next3 h.records dims attrs) (list_again width 11 (variable_fields h.version dims) variable (next_variable h.version dims) (variable_again h.version dims) h.variables)
    (again_done (contents h)))))

abbrev pub FlatHeader : Type 0
FlatHeader = ℕ × (Listed Dimension × (Listed AttributeTree × (Listed VariableTree × Unit {0})))

abbrev pub header_of : Version → FlatHeader → HeaderTree
header_of version p = record { version = version; records = p.0; dimensions = p.1.0; attributes = p.1.1.0; variables = p.1.1.1.0 }

pub header_sound : (version : Version) → Sound {T = FlatHeader} (λ p. header_fields (header_of version p)) (λ p. contents (header_of version p)) (contents_at version)
unfolding header_fields contents_at
header_sound version =
    let width = number_width version in
    let fault = records_fault width in
    sound_then (λ n. judged width fault n ∷ []) (λ n. n) (judged_at width fault) (λ n p. more1 version p.0 p.1.0 p.1.1.0) (λ n p. contents (header_of version (n, p))) (next0 version) (sound_single (judged width fault) (λ n. n) (bytes_in width) (judged_at width fault) (number_reader width fault))
    (λ n. sound_then (list_fields width 10 (dimension_fields width) (λ d. d)) (λ l. l.items) (list_at width 10 (next_dimension width)) (λ l p. more2 version l.items p.0 p.1.0) (λ l p. contents (header_of version (n, (l, p)))) (next1 version n) (dimensions_sound width)
    (λ l. sound_then (list_fields width 12 (attribute_fields version) attribute) (λ a. map attribute a.items) (list_at width 12 (next_attribute version)) (λ a p. more3 version l.items p.0) (λ a p. contents (header_of version (n, (l, (a, p))))) (next2 version n l.items) (attributes_sound version)
    (λ a. sound_then (list_fields width 11 (variable_fields version l.items) variable) (λ v. map variable v.items) (list_at width 11 (next_variable version l.items)) (λ v u. []) (λ v u. contents (header_of version (n, (l, (a, (v, u)))))) (next3 n l.items (map attribute a.items))
    (list_sound width 11 (variable_fields version l.items) variable (next_variable version l.items) (variable_sound version l.items))
    (λ v. sound_done (contents (header_of version (n, (l, (a, (v, tt))))))))))
