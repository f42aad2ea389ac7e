-- The names in the dataset of a file are words: a name of a header is not empty and of bytes, and its
-- escape is made of plain bytes.
use Rattle.std.proofs.Common.{◌≡◌, ℕ, zero, suc, ◌+◌, ◌-◌, ◌<◌, inl, inr, Bool, true, false, cond, ◌&&◌, eqb, ltb, IsTrue, List, [], ◌∷◌, ◌++◌, length, map, take, drop, filter, All, Option, Some, None, Result, Ok, Err, MatchOption, refl, sym, ap, subst, ◌∙◌, arith, length-append}
use Rattle.std.specs.Prelude.{option_map, option_and_then, slice_get, not}
use Rattle.std.specs.List.{list_all, flat_map, cons_option, suffix_len}
use Rattle.std.specs.Option.{option_map_or}
use Rattle.std.proofs.lemmas.Bool.{cases_lt, and_from}
use Rattle.std.proofs.lemmas.Bool.Decides.{nat_tests}
use Rattle.std.proofs.lemmas.List.{length-take, take-append-drop}
use Rattle.std.proofs.lemmas.List.Elements.{All-nil, All-cons, All-append}
use Rattle.std.proofs.lemmas.List.Folds.{list_all-append}
use Rattle.plain_lemmas.proofs.Truths.{both_true}
use Rattle.plain_lemmas.proofs.Lists.{some_length}
use Rattle.dap_types.specs.Model.{Member, scalar, array, grid, members_of, name_of}
use Rattle.dap_types.specs.Names.{escaped_byte, file_id}
use Rattle.dap_types.specs.WellFormed.{Place, place, places, part_places, leaf_places}
use Rattle.dap_types.specs.declared.declarations.ArrayDecl.{ArrayDecl}
use Rattle.dap_types.specs.declared.declarations.Dim.{Dim}
use Rattle.dap_model.specs.Grammar.{are_words}
use Rattle.dap_model.specs.Tokens.{is_word, is_plain}
use Rattle.file_names.specs.Names.{segment, dataset_name_byte}
use Rattle.netcdf_source.specs.Fields.{Field, number, run, Fault, failure, Judged, Spells, Ends}
use Rattle.netcdf_source.specs.Grammar.{VariableTree, HeaderTree, attribute, variable, contents, in_turn, list_fields, dimension_fields, attribute_fields, variable_fields, header_fields, name_fault}
use Rattle.netcdf_source.specs.Header.{magic}
use Rattle.netcdf_source.specs.Laws.{DatasetHasWords}
use Rattle.netcdf_source.specs.Mapping.{has_texts, element_dimensions, is_offered, coordinate_at, is_empty, is_grid, name_at, dim_of, column_of, array_of, maps_of, member_of}
use Rattle.netcdf_source.specs.inner.Sound.{InTurn, IsId, IsVariable, IsSound}
use Rattle.netcdf_source.specs.Versions.{number_width}
use Rattle.netcdf_source.specs.declared.version.Version.{Version}
use Rattle.netcdf_source.specs.declared.version.Width.{Width}
use Rattle.netcdf_source.specs.declared.header.Contents.{Contents}
use Rattle.netcdf_source.specs.declared.header.Dimension.{Dimension}
use Rattle.netcdf_source.specs.declared.header.Variable.{Variable}
use Rattle.netcdf_source.specs.declared.failure.Failure.{Failure}
use Rattle.netcdf_source.specs.declared.failure.Failure.TheVariants.{Cut}
use Rattle.netcdf_source.proofs.Ends.{IsBytes, later_bytes}
use Rattle.netcdf_source.proofs.Fitting.{file_bytes}
use Rattle.netcdf_source.proofs.Good.{bad_if-none, stands_sound}
use Rattle.netcdf_source.proofs.Headers.{more2, more3}
use Rattle.netcdf_source.proofs.Singles.{bytes-take}
use Rattle.file_names.proofs.Words.{Spelled, dataset_spelled, escaped_spelled, word_length}

-- ---- bytes of words

-- a name that is not empty and of bytes
abbrev pub IsName : List ℕ → Type 0
IsName name = (0 < length name) × IsBytes name

plain_name : (f : ℕ → List ℕ) (name : List ℕ) → Spelled f → IsBytes name → list_all is_plain (flat_map f name) ≡ true
plain_name f [] spelled bytes = refl
plain_name f (b ∷ name) spelled bytes =
    list_all-append is_plain (f b) (flat_map f name)
    ∙ and_from (list_all is_plain (f b)) (list_all is_plain (flat_map f name)) (both_true (ltb 0 (length (f b))) (list_all is_plain (f b)) (spelled b (bytes 0))).1 (plain_name f name spelled (λ i. bytes (suc i)))

word_name : (f : ℕ → List ℕ) (name : List ℕ) → Spelled f → IsName name → is_word (flat_map f name) ≡ true
word_name f [] spelled is = absurd (omega (arith, is.0))
word_name f (b ∷ name) spelled is =
    let some : 0 < length (f b) = word_length (f b) (spelled b (is.1 0)) in
    let long : 0 < length (f b ++ flat_map f name) = omega (arith, length-append (f b) (flat_map f name)) in
    and_from (ltb 0 (length (f b ++ flat_map f name))) (list_all is_plain (f b ++ flat_map f name)) (grind (arith, nat_tests, long)) (plain_name f (b ∷ name) spelled is.1)

pub file_word : (name : List ℕ) → IsName name → is_word (file_id name) ≡ true
file_word name is = word_name escaped_byte name escaped_spelled is

-- ---- names of a header

abbrev HasBytes : Field → Type 0
HasBytes (run n xs) = IsBytes xs
HasBytes field = Unit {0}

-- no field has a fault, and names and values are bytes
abbrev AreWhole : List Judged → Type 0
AreWhole [] = Unit {0}
AreWhole (j ∷ js) = (j.fault ≡ None) × HasBytes j.field × AreWhole js

whole_front : (xs ys : List Judged) → AreWhole (xs ++ ys) → AreWhole xs
whole_front [] ys h = tt
whole_front (j ∷ js) ys h = (h.0, h.1, whole_front js ys h.2)

whole_back : (xs ys : List Judged) → AreWhole (xs ++ ys) → AreWhole ys
whole_back [] ys h = h
whole_back (j ∷ js) ys h = whole_back js ys h.2

no_fault : (o : Option Fault) (left : ℕ) (js : List Judged) (rest r : List ℕ) → MatchOption o (Ends js rest (Ok r)) (λ f. Path (Result (List ℕ) Failure) (Ok r) (Err (failure f left))) → (o ≡ None) × Ends js rest (Ok r)
no_fault None left js rest r h = (refl, h)
no_fault (Some f) left js rest r h = absurd cc

front_bytes : (front rest : List ℕ) → IsBytes (front ++ rest) → IsBytes front
front_bytes [] rest h i = omega arith
front_bytes (b ∷ front) rest h zero = h 0
front_bytes (b ∷ front) rest h (suc i) = front_bytes front rest (λ k. h (suc k)) i

spelled_bytes : (field : Field) (bs : List ℕ) → IsBytes bs → Spells field bs → HasBytes field
spelled_bytes (number width n) bs fits s = tt
spelled_bytes (run n xs) bs fits s = front_bytes xs s.0 (subst IsBytes s.3 fits)

whole_ends : (js : List Judged) (bytes rest : List ℕ) → IsBytes bytes → Ends js bytes (Ok rest) → AreWhole js
unfolding Ends
whole_ends [] bytes rest fits h = tt
whole_ends (j ∷ js) bytes rest fits (inl cut) = absurd (not_cut cut.1)
  where
    not_cut : Path (Result (List ℕ) Failure) (Ok rest) (Err Cut) → ⊥
    not_cut e = cc
whole_ends (j ∷ js) bytes rest fits (inr m) =
    let parts : IsBytes (m.0 ++ m.1) = subst IsBytes m.2 fits in
    let n = no_fault j.fault (length bytes) js m.1 rest m.4 in
    (n.0, spelled_bytes j.field m.0 (front_bytes m.0 m.1 parts) m.3, whole_ends js m.1 rest (later_bytes m.0 m.1 parts) n.1)

-- each item of a list
abbrev Each : {X : Type 0} → (X → Type 0) → List X → Type 0
Each P [] = Unit {0}
Each P (x ∷ xs) = P x × Each P xs

each_at : {X : Type 0} (P : X → Type 0) (xs : List X) (k : ℕ) (x : X) → Each P xs → slice_get xs k ≡ Some x → P x
each_at P [] k x h at = absurd cc
each_at {X} P (y ∷ xs) zero x h at = subst P (some_is y x at) h.0
  where
    some_is : (a b : X) → Path (Option X) (Some a) (Some b) → a ≡ b
    some_is a b q = cc
each_at P (y ∷ xs) (suc k) x h at = each_at P xs k x h.1 at

each_item : {T X : Type 0} (fields : List X → T → List Judged) (says : T → X) (P : X → Type 0)
    → ((before : List X) (t : T) → AreWhole (fields before t) → P (says t)) → (before : List X) (ts : List T) → AreWhole (in_turn fields says before ts) → Each P (map says ts)
unfolding in_turn
each_item fields says P item before [] h = tt
each_item fields says P item before (t ∷ ts) h = (
  item before t (whole_front (fields before t) (in_turn fields says (before ++ says t ∷ []) ts) h),
  each_item fields says P item (before ++ says t ∷ []) ts (whole_back (fields before t) (in_turn fields says (before ++ says t ∷ []) ts) h),
)

name_good : (name : List ℕ) → name_fault (length name) ≡ None → IsBytes name → IsName name
unfolding name_fault
name_good [] e bytes = absurd (no (bad_if-none true 0 e))
  where
    no : Path Bool true false → ⊥
    no q = cc
name_good (b ∷ name) e bytes = (omega arith, bytes)

dimension_named : (width : Width) (before : List Dimension) (d : Dimension) → AreWhole (dimension_fields width before d) → IsName d.name
unfolding dimension_fields
dimension_named width before d h = name_good d.name h.0 h.2.1

variable_named : (version : Version) (dims : List Dimension) (before : List Variable) (v : VariableTree) → AreWhole (variable_fields version dims before v) → IsName v.name
unfolding variable_fields
variable_named version dims before v h = name_good v.name h.0 h.2.1

-- the names of dimensions and of variables
record AreNamed (c : Contents) : Type 0 where
  dimensions : Each (λ d. IsName d.name) c.dimensions
  variables : Each (λ v. IsName v.name) c.variables

each_same : (ds : List Dimension) → Each (λ d. IsName d.name) (map (λ d. d) ds) → Each (λ d. IsName d.name) ds
each_same [] h = tt
each_same (d ∷ ds) h = (h.0, each_same ds h.1)

header_named : (h : HeaderTree) → AreWhole (header_fields h) → AreNamed (contents h)
unfolding header_fields
header_named h whole =
    let width = number_width h.version in
    let dims = h.dimensions.items in
    let d = list_fields width 10 (dimension_fields width) (λ x. x) h.dimensions in
    let a = list_fields width 12 (attribute_fields h.version) attribute h.attributes in
    let v = list_fields width 11 (variable_fields h.version dims) variable h.variables in
    let after_dims = whole_back d (more2 h.version dims h.attributes h.variables) whole.2 in
    let after_attributes = whole_back a (more3 h.version dims h.variables) after_dims in
    let of_dims = whole_front d (more2 h.version dims h.attributes h.variables) whole.2 in
    let of_variables = whole_front v [] after_attributes in
    record {
      dimensions = each_same dims (each_item (dimension_fields width) (λ x. x) (λ x. IsName x.name) (dimension_named width) [] dims of_dims.2.2);
      variables = each_item (variable_fields h.version dims) variable (λ x. IsName x.name) (variable_named h.version dims) [] h.variables.items of_variables.2.2;
    }

-- ---- the members

-- a variable of the file
abbrev IsOne : Contents → Variable → Type 0
IsOne c v = IsName v.name × Each (λ i. i < length c.dimensions) v.dimensions

each_id : (c : Contents) (before ids : List ℕ) → InTurn (IsId c.dimensions) before ids → Each (λ i. i < length c.dimensions) ids
unfolding InTurn
each_id c before [] h = tt
each_id c before (i ∷ ids) h = (h.0.within, each_id c (before ++ i ∷ []) ids h.1)

each_one : (c : Contents) (before vs : List Variable) → Each (λ v. IsName v.name) vs → InTurn (IsVariable c.dimensions) before vs → Each (IsOne c) vs
unfolding InTurn
each_one c before [] named sound = tt
each_one c before (v ∷ vs) named sound = ((named.0, each_id c [] v.dimensions sound.0.ids), each_one c (before ++ v ∷ []) vs named.1 sound.1)

each_take : (P : ℕ → Type 0) (n : ℕ) (ids : List ℕ) → Each P ids → Each P (take n ids)
each_take P zero ids h = tt
each_take P (suc n) [] h = tt
each_take P (suc n) (i ∷ ids) h = (h.0, each_take P n ids h.1)

dimension_word : (c : Contents) (i : ℕ) → AreNamed c → i < length c.dimensions → is_word (file_id (name_at c i)) ≡ true
unfolding name_at
dimension_word c i named lt = go c.dimensions i named.dimensions lt
  where
    go : (ds : List Dimension) (k : ℕ) → Each (λ d. IsName d.name) ds → k < length ds → is_word (file_id (option_map_or (λ d. d.name) (slice_get ds k) [])) ≡ true
    go [] k h lt = absurd (omega arith)
    go (d ∷ ds) zero h lt = file_word d.name h.0
    go (d ∷ ds) (suc k) h lt = go ds k h.1 (omega arith)

abbrev is_word_dim : Dim → Bool
is_word_dim d = option_map_or is_word d.name true

dims_words : (c : Contents) (ids : List ℕ) → AreNamed c → Each (λ i. i < length c.dimensions) ids → list_all is_word_dim (map (dim_of c) ids) ≡ true
dims_words c [] named h = refl
dims_words c (i ∷ ids) named h = and_from (is_word_dim (dim_of c i)) (list_all is_word_dim (map (dim_of c) ids)) (dimension_word c i named h.0) (dims_words c ids named h.1)

element_ids : (c : Contents) (v : Variable) → Each (λ i. i < length c.dimensions) v.dimensions → Each (λ i. i < length c.dimensions) (element_dimensions c v)
unfolding element_dimensions
element_ids c v h = go (has_texts c v)
  where
    go : (b : Bool) → Each (λ i. i < length c.dimensions) (cond b (take (length v.dimensions - 1) v.dimensions) v.dimensions)
    go true = each_take (λ i. i < length c.dimensions) (length v.dimensions - 1) v.dimensions h
    go false = h

array_words : (c : Contents) (v : Variable) → AreNamed c → IsOne c v → IsTrue (are_words (array (array_of c v)))
array_words c v named one =
    and_from (is_word (file_id v.name)) (list_all is_word_dim (map (dim_of c) (element_dimensions c v))) (file_word v.name one.0) (dims_words c (element_dimensions c v) named (element_ids c v one.1))

abbrev OfWords : Place → Type 0
OfWords p = IsTrue (are_words p.variable)

arrays_words : (depth : ℕ) (earlier : List (List ℕ)) (xs : List ArrayDecl) → Each (λ a. IsTrue (are_words (array a))) xs → All OfWords (leaf_places depth earlier (map array xs))
arrays_words depth earlier [] h = All-nil OfWords
arrays_words depth earlier (x ∷ xs) h = All-cons OfWords (place depth earlier (array x)) (leaf_places depth (x.name ∷ earlier) (map array xs)) h.0 (arrays_words depth (x.name ∷ earlier) xs h.1)

maps_words : (c : Contents) (ids : List ℕ) → AreNamed c → Each (IsOne c) c.variables → Each (λ a. IsTrue (are_words (array a))) (maps_of c ids)
maps_words c [] named ones = tt
maps_words c (i ∷ ids) named ones = go (coordinate_at c i) (maps_words c ids named ones)
  where
    found : (o : Option Variable) → ((w : Variable) → o ≡ Some w → IsOne c w) → Each (λ a. IsTrue (are_words (array a))) (maps_of c ids)
        → Each (λ a. IsTrue (are_words (array a))) (cons_option (option_map (array_of c) o) (maps_of c ids))
    found None is more = more
    found (Some w) is more = (array_words c w named (is w refl), more)

    go : (o : Option ℕ) → Each (λ a. IsTrue (are_words (array a))) (maps_of c ids)
        → Each (λ a. IsTrue (are_words (array a))) (cons_option (option_map (array_of c) (option_and_then (slice_get c.variables) o)) (maps_of c ids))
    go None more = more
    go (Some k) more = found (slice_get c.variables k) (λ w at. each_at (IsOne c) c.variables k w ones at) more

member_words : (c : Contents) (depth : ℕ) (earlier : List (List ℕ)) (v : Variable) → AreNamed c → Each (IsOne c) c.variables → IsOne c v
    → All OfWords (place depth earlier (member_of c v) ∷ part_places (depth + 1) (member_of c v))
unfolding member_of
member_words c depth earlier v named ones one = go (is_empty (element_dimensions c v)) (is_grid c v)
  where
    alone : (m : Member) → IsTrue (are_words m) → All OfWords (place depth earlier m ∷ [])
    alone m is = All-cons OfWords (place depth earlier m) [] is (All-nil OfWords)

    go : (e g : Bool) → All OfWords (place depth earlier (cond e (scalar (column_of v)) (cond g (grid (file_id v.name) (array_of c v) (maps_of c v.dimensions)) (array (array_of c v))))
        ∷ part_places (depth + 1) (cond e (scalar (column_of v)) (cond g (grid (file_id v.name) (array_of c v) (maps_of c v.dimensions)) (array (array_of c v)))))
    go true g = alone (scalar (column_of v)) (file_word v.name one.0)
    go false true =
        let m : Member = grid (file_id v.name) (array_of c v) (maps_of c v.dimensions) in
        All-cons OfWords (place depth earlier m) (part_places (depth + 1) m) (file_word v.name one.0)
        (arrays_words (depth + 1) [] (array_of c v ∷ maps_of c v.dimensions) (array_words c v named one, maps_words c v.dimensions named ones))
    go false false = alone (array (array_of c v)) (array_words c v named one)

members_words : (c : Contents) (earlier : List (List ℕ)) (vs : List Variable) → AreNamed c → Each (IsOne c) c.variables → Each (IsOne c) vs → All OfWords (places 1 earlier (members_of (map (member_of c) (filter (is_offered c) vs))))
members_words c earlier [] named ones each = All-nil OfWords
members_words c earlier (v ∷ vs) named ones each =
    go (is_offered c v) (members_words c (name_of (member_of c v) ∷ earlier) vs named ones each.1) (members_words c earlier vs named ones each.1)
  where
    go : (b : Bool) → All OfWords (places 1 (name_of (member_of c v) ∷ earlier) (members_of (map (member_of c) (filter (is_offered c) vs))))
        → All OfWords (places 1 earlier (members_of (map (member_of c) (filter (is_offered c) vs))))
        → All OfWords (places 1 earlier (members_of (map (member_of c) (cond b (v ∷ filter (is_offered c) vs) (filter (is_offered c) vs)))))
    go true behind same =
        All-append OfWords (place 1 earlier (member_of c v) ∷ part_places 2 (member_of c v)) (places 1 (name_of (member_of c v) ∷ earlier) (members_of (map (member_of c) (filter (is_offered c) vs))))
        (member_words c 1 earlier v named ones each.0) behind
    go false behind same = same

-- ---- the dataset

segment_bytes : (file_name : List ℕ) → IsBytes file_name → IsBytes (segment file_name)
unfolding segment
segment_bytes file_name h =
    let n = length file_name - suffix_len (λ b. not (eqb b 47)) file_name in
    later_bytes (take n file_name) (drop n file_name) (subst IsBytes (sym (take-append-drop n file_name)) h)

pub dataset_has_words : DatasetHasWords
dataset_has_words c file_name file (bytes, (h, rest, stands, says, past)) name_bytes some =
    let front : List ℕ = take 1048576 file in
    let fits : IsBytes front = bytes-take 1048576 file (file_bytes file bytes) in
    let body : IsBytes stands.body = later_bytes (magic h.version) stands.body (subst IsBytes stands.begins fits) in
    let named : AreNamed c = subst AreNamed says (header_named h (whole_ends (header_fields h) stands.body rest body stands.ends)) in
    let sound : IsSound c = subst IsSound says (stands_sound h front rest (omega (arith, length-take 1048576 file)) stands) in
    let ones : Each (IsOne c) c.variables = each_one c [] c.variables named.variables sound.variables in
    record {
      own = word_name dataset_name_byte (segment file_name) dataset_spelled (some_length (segment file_name) some, segment_bytes file_name (file_bytes file_name name_bytes));
      inside = members_words c [] c.variables named ones ones;
    }
