-- Reading a header from the front. Each step gives a value and the bytes that are left, or what fails.
use Rattle.std.specs.Prelude.{◌≡◌, ℕ, zero, suc, ◌*◌, Bool, List, [], ◌∷◌, ◌++◌, length, map, take, drop, Option, Some, None, Result, Ok, Err, nat_lt, ◌==◌, if◌then◌else◌}
use Rattle.std.specs.Int.{w32, w64, from_be_bytes}
use Rattle.std.specs.List.{list_any}
use Rattle.std.specs.Option.{option_map_or}
use Rattle.netcdf_source.specs.Fields.{Fault, failure}
use Rattle.netcdf_source.specs.Grammar.{records_fault, tag_fault, count_fault, name_fault, repeat_fault, length_fault, rank_fault, dimension_fault, size_fault, begin_fault, no_fault, is_record_dimension}
use Rattle.netcdf_source.specs.Parts.{shares}
use Rattle.netcdf_source.specs.Types.{size_of, type_of}
use Rattle.netcdf_source.specs.Versions.{number_width, place_width}
use Rattle.netcdf_source.specs.declared.external_type.ExternalType.{ExternalType}
use Rattle.netcdf_source.specs.Attribute.{Attribute}
use Rattle.netcdf_source.specs.declared.header.Contents.{Contents}
use Rattle.netcdf_source.specs.declared.header.Dimension.{Dimension}
use Rattle.netcdf_source.specs.declared.header.Variable.{Variable}
use Rattle.netcdf_source.specs.declared.version.Version.{Version}
use Rattle.netcdf_source.specs.declared.version.Width.{Width}
use Rattle.netcdf_source.specs.declared.version.Width.TheVariants.{Four, Eight}
use Rattle.netcdf_source.specs.declared.failure.Failure.{Failure}
use Rattle.netcdf_source.specs.declared.failure.Failure.TheVariants.{Cut, Bad}
use Rattle.netcdf_source.specs.declared.failure.Stop.{Stop}
use Rattle.netcdf_source.specs.declared.failure.Stop.TheVariants as stops
use Rattle.dap_model.specs.Xdr.{padded}

infixl 10 ◌>>=◌
abbrev pub ◌>>=◌ : {A B : Type 0} → Result A Failure → (A → Result B Failure) → Result B Failure
(Ok x) >>= f = f x
(Err e) >>= f = Err e

-- What a function returned, seen by view, is what reading gives, unless memory was wanted.
abbrev pub Fails : {Y : Type 0} → Stop → Result Y Failure → Type 0
Fails stops.Memory read = Unit {0}
Fails (stops.Failed f) read = read ≡ Err f

abbrev pub Gives : {X Y : Type 0} → (X → Y) → Result X Stop → Result Y Failure → Type 0
Gives view (Ok x) read = read ≡ Ok (view x)
Gives view (Err e) read = Fails e read

-- the same of a function that takes no memory
abbrev pub Reads : {X Y : Type 0} → (X → Y) → Result X Failure → Result Y Failure → Type 0
Reads view (Ok x) read = read ≡ Ok (view x)
Reads view (Err f) read = read ≡ Err f

-- the value, unless its field has a fault; the field stood at so many bytes from the end
abbrev pub passed : {X : Type 0} → Option Fault → ℕ → X → Result X Failure
passed None left x = Ok x
passed (Some f) left x = Err (failure f left)

-- ---- fields

unfoldable pub word_at : List ℕ → Result (ℕ × List ℕ) Failure
word_at bytes = if nat_lt (length bytes) 4 then Err Cut else Ok (from_be_bytes w32 (take 4 bytes), drop 4 bytes)

unfoldable pub long_at : List ℕ → Result (ℕ × List ℕ) Failure
long_at bytes = if nat_lt (length bytes) 8 then Err Cut else Ok (from_be_bytes w64 (take 8 bytes), drop 8 bytes)

-- a number of a width
abbrev pub number_at : Width → List ℕ → Result (ℕ × List ℕ) Failure
number_at Four bytes = word_at bytes
number_at Eight bytes = long_at bytes

unfoldable pub run_at : ℕ → List ℕ → Result (List ℕ × List ℕ) Failure
run_at n bytes = if nat_lt (length bytes) (padded n) then Err Cut else Ok (take n bytes, drop (padded n) bytes)

unfoldable pub judged_at : Width → (ℕ → Option Fault) → List ℕ → Result (ℕ × List ℕ) Failure
judged_at width fault bytes = do
  n ← number_at width bytes
  passed (fault n.0) (length bytes) n

unfoldable pub type_at : Version → List ℕ → Result (ExternalType × List ℕ) Failure
type_at version bytes = do
  n ← word_at bytes
  option_map_or (λ t. Ok (t, n.1)) (type_of version n.0) (Err (Bad (length bytes)))

-- ---- lists

unfoldable pub times : {X : Type 0} → (List X → List ℕ → Result (X × List ℕ) Failure) → ℕ → List X → List ℕ → Result (List X × List ℕ) Failure
times read zero before bytes = Ok (before, bytes)
times read (suc n) before bytes = do
  x ← read before bytes
  times read n (before ++ x.0 ∷ []) x.1

-- the number of items
unfoldable pub head_at : Width → ℕ → List ℕ → Result (ℕ × List ℕ) Failure
head_at width tag bytes = do
  t ← judged_at Four (tag_fault tag) bytes
  judged_at width (count_fault t.0) t.1

unfoldable pub list_at : {X : Type 0} → Width → ℕ → (List X → List ℕ → Result (X × List ℕ) Failure) → List ℕ → Result (List X × List ℕ) Failure
list_at width tag read bytes = do
  n ← head_at width tag bytes
  times read n.0 [] n.1

-- ---- names, dimensions, attributes, variables

unfoldable pub name_at : Width → List ℕ → Result (List ℕ × List ℕ) Failure
name_at width bytes = do
  n ← judged_at width name_fault bytes
  run_at n.0 n.1

unfoldable pub new_name_at : Width → List (List ℕ) → List ℕ → Result (List ℕ × List ℕ) Failure
new_name_at width earlier bytes = do
  n ← judged_at width name_fault bytes
  name ← run_at n.0 n.1
  passed (repeat_fault width earlier name.0) (length n.1) name

unfoldable pub dimension_at : Width → List (List ℕ) → Bool → List ℕ → Result (Dimension × List ℕ) Failure
dimension_at width earlier has_records bytes = do
  name ← new_name_at width earlier bytes
  n ← judged_at width (length_fault width has_records) name.1
  Ok (record { name = name.0; length = n.0 }, n.1)

abbrev pub next_dimension : Width → List Dimension → List ℕ → Result (Dimension × List ℕ) Failure
next_dimension width before bytes = dimension_at width (map (λ b. b.name) before) (list_any is_record_dimension before) bytes

unfoldable pub attribute_at : Version → List ℕ → Result (Attribute × List ℕ) Failure
attribute_at version bytes = do
  name ← name_at (number_width version) bytes
  kind ← type_at version name.1
  count ← judged_at (number_width version) no_fault kind.1
  values ← run_at (count.0 * size_of kind.0) count.1
  Ok (record { name = name.0; external_type = kind.0; values = values.0 }, values.1)

abbrev pub next_attribute : Version → List Attribute → List ℕ → Result (Attribute × List ℕ) Failure
next_attribute version before bytes = attribute_at version bytes

abbrev pub next_id : Width → List Dimension → List ℕ → List ℕ → Result (ℕ × List ℕ) Failure
next_id width dims before bytes = judged_at width (dimension_fault dims (length before == 0)) bytes

unfoldable pub ids_at : Width → List Dimension → List ℕ → Result (List ℕ × List ℕ) Failure
ids_at width dims bytes = do
  rank ← judged_at width rank_fault bytes
  times (next_id width dims) rank.0 [] rank.1

unfoldable pub variable_at : Version → List Dimension → List (List ℕ) → ℕ → List ℕ → Result (Variable × List ℕ) Failure
variable_at version dims earlier sum bytes = do
  name ← new_name_at (number_width version) earlier bytes
  ids ← ids_at (number_width version) dims name.1
  attributes ← list_at (number_width version) 12 (next_attribute version) ids.1
  kind ← type_at version attributes.1
  size ← judged_at (number_width version) (size_fault dims sum ids.0 kind.0) kind.1
  begin ← judged_at (place_width version) begin_fault size.1
  Ok (record { name = name.0; dimensions = ids.0; attributes = attributes.0; external_type = kind.0; begin = begin.0 }, begin.1)

abbrev pub next_variable : Version → List Dimension → List Variable → List ℕ → Result (Variable × List ℕ) Failure
next_variable version dims before bytes = variable_at version dims (map (λ b. b.name) before) (shares dims before) bytes

-- all that stands behind the magic
unfoldable pub contents_at : Version → List ℕ → Result (Contents × List ℕ) Failure
contents_at version bytes = do
  records ← judged_at (number_width version) (records_fault (number_width version)) bytes
  dims ← list_at (number_width version) 10 (next_dimension (number_width version)) records.1
  attributes ← list_at (number_width version) 12 (next_attribute version) dims.1
  variables ← list_at (number_width version) 11 (next_variable version dims.0) attributes.1
  Ok (record { records = records.0; dimensions = dims.0; attributes = attributes.0; variables = variables.0 }, variables.1)
