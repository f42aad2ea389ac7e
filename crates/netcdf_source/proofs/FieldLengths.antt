-- The bytes that fields take, and how few members the variables of a short header become.
use Rattle.std.proofs.Common.{◌≡◌, ℕ, ◌+◌, ◌*◌, ◌≤◌, inl, inr, List, [], ◌∷◌, ◌++◌, length, map, sum_by, Option, Some, None, Result, Ok, Err, MatchOption, ap, arith, length-append}
use Rattle.std.proofs.lemmas.List.Sums.{sum_by-cons}
use Rattle.netcdf_source.specs.Fields.{Field, number, run, field_len, Spells, Fault, failure, Judged, Ends}
use Rattle.netcdf_source.specs.Grammar.{VariableTree, HeaderTree, attribute, variable, contents, in_turn, list_fields, attribute_fields, id_fields, variable_fields, header_fields, dimension_fields}
use Rattle.netcdf_source.specs.Parts.{shares}
use Rattle.netcdf_source.specs.Versions.{bytes_in, number_width, place_width}
use Rattle.netcdf_source.specs.declared.version.Version.{Version}
use Rattle.netcdf_source.specs.declared.version.Width.{Width}
use Rattle.netcdf_source.specs.declared.version.Width.TheVariants.{Four, Eight}
use Rattle.netcdf_source.specs.inner.Sound.{grid_members}
use Rattle.netcdf_source.specs.declared.header.Dimension.{Dimension}
use Rattle.netcdf_source.specs.declared.header.Variable.{Variable}
use Rattle.netcdf_source.specs.declared.failure.Failure.{Failure}
use Rattle.netcdf_source.specs.declared.failure.Failure.TheVariants.{Cut}
use Rattle.netcdf_source.proofs.Headers.{rest2, more2, more3}

-- the bytes of some fields
abbrev pub fields_len : List Judged → ℕ
fields_len [] = 0
fields_len (j ∷ js) = field_len j.field + fields_len js

fields_len-append : (xs ys : List Judged) → fields_len (xs ++ ys) ≡ fields_len xs + fields_len ys
fields_len-append [] ys = omega arith
fields_len-append (x ∷ xs) ys = omega (arith, fields_len-append xs ys)

spelled_len : (field : Field) (bs : List ℕ) → Spells field bs → length bs ≡ field_len field
spelled_len (number Four n) bs s = ap length s.1
spelled_len (number Eight n) bs s = ap length s.1
spelled_len (run n xs) bs s = s.2

past_fault : (o : Option Fault) (left : ℕ) (js : List Judged) (rest r : List ℕ) → MatchOption o (Ends js rest (Ok r)) (λ f. Path (Result (List ℕ) Failure) (Ok r) (Err (failure f left))) → Ends js rest (Ok r)
past_fault None left js rest r h = h
past_fault (Some f) left js rest r h = absurd cc

-- fields that all stand in some bytes are no longer than these
pub ends_len : (js : List Judged) (bytes rest : List ℕ) → Ends js bytes (Ok rest) → fields_len js ≤ length bytes
unfolding Ends
ends_len [] bytes rest h = omega arith
ends_len (j ∷ js) bytes rest (inl cut) = absurd (not_cut cut.1)
  where
    not_cut : Path (Result (List ℕ) Failure) (Ok rest) (Err Cut) → ⊥
    not_cut e = cc
ends_len (j ∷ js) bytes rest (inr m) =
    omega (arith, ap length m.2, length-append m.0 m.1, spelled_len j.field m.0 m.3, ends_len js m.1 rest (past_fault j.fault (length bytes) js m.1 rest m.4))

-- ---- variables

some_bytes : (width : Width) → 4 ≤ bytes_in width
some_bytes Four = omega arith
some_bytes Eight = omega arith

ids_len : (width : Width) (dims : List Dimension) (before ids : List ℕ) → 4 * length ids ≤ fields_len (in_turn (id_fields width dims) (λ n. n) before ids)
unfolding in_turn id_fields
ids_len width dims before [] = omega arith
ids_len width dims before (n ∷ ids) = omega (arith, some_bytes width, ids_len width dims (before ++ n ∷ []) ids)

variable_len : (version : Version) (dims : List Dimension) (before : List Variable) (v : VariableTree) → 4 * grid_members (variable v) ≤ fields_len (variable_fields version dims before v)
unfolding variable_fields
variable_len version dims before v =
    let width = number_width version in
    let ids = in_turn (id_fields width dims) (λ n. n) [] v.dimensions in
    omega (arith, some_bytes width, some_bytes (place_width version), ids_len width dims [] v.dimensions, fields_len-append ids (rest2 version dims (shares dims before) v.dimensions v.attributes v.number v.size v.begin))

variables_len : (version : Version) (dims : List Dimension) (before : List Variable) (vs : List VariableTree) → 4 * sum_by grid_members (map variable vs) ≤ fields_len (in_turn (variable_fields version dims) variable before vs)
unfolding in_turn
variables_len version dims before [] = omega arith
variables_len version dims before (v ∷ vs) =
    omega (
      arith,
      sum_by-cons grid_members (variable v) (map variable vs),
      variable_len version dims before v,
      fields_len-append (variable_fields version dims before v) (in_turn (variable_fields version dims) variable (before ++ variable v ∷ []) vs),
      variables_len version dims (before ++ variable v ∷ []) vs,
    )

pub header_len : (h : HeaderTree) → 4 * sum_by grid_members (contents h).variables ≤ fields_len (header_fields h)
unfolding header_fields
header_len h =
    let width = number_width h.version in
    let dims = h.dimensions.items in
    let d = list_fields width 10 (dimension_fields width) (λ x. x) h.dimensions in
    let a = list_fields width 12 (attribute_fields h.version) attribute h.attributes in
    let v = list_fields width 11 (variable_fields h.version dims) variable h.variables in
    omega (
      arith,
      variables_len h.version dims [] h.variables.items,
      fields_len-append d (more2 h.version dims h.attributes h.variables),
      fields_len-append a (more3 h.version dims h.variables),
      fields_len-append v [],
    )
