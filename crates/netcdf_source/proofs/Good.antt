-- Fields that all stand without a fault, and what their trees then are.
use Rattle.std.proofs.Common.{◌≡◌, ◌≢◌, ℕ, ◌+◌, ◌^◌, ◌≤◌, inl, inr, Bool, true, false, not, ◌&&◌, List, [], ◌∷◌, ◌++◌, length, map, sum_by, eqb, ltb, leb, Option, Some, None, Result, Ok, Err, MatchOption, refl, sym, ap, subst, ◌∙◌, arith}
use Rattle.std.specs.List.{list_any}
use Rattle.std.proofs.lemmas.Bool.Decides.{nat_tests}
use Rattle.std.proofs.lemmas.Bool.{ltb-false, leb-false, eqb-false, or_parts}
use Rattle.std.proofs.lemmas.List.Sums.{sum_by-cons}
use Rattle.netcdf_source.specs.Fields.{Fault, bad_if, failure, Judged, Ends}
use Rattle.netcdf_source.specs.Grammar.{VariableTree, HeaderTree, attribute, variable, contents, external_type, in_turn, list_fields, dimension_fields, attribute_fields, id_fields, variable_fields, header_fields, repeat_fault, length_fault, rank_fault, dimension_fault, size_fault, part_fault, begin_fault, is_record_dimension}
use Rattle.netcdf_source.specs.Header.{Stands}
use Rattle.netcdf_source.specs.Versions.{number_width, largest}
use Rattle.netcdf_source.specs.declared.version.Version.{Version}
use Rattle.netcdf_source.specs.declared.version.Width.{Width}
use Rattle.netcdf_source.specs.Parts.{length_at, is_record, part, share, shares}
use Rattle.netcdf_source.specs.inner.Sound.{InTurn, IsDimension, IsId, IsVariable, IsSound, grid_members}
use Rattle.netcdf_source.specs.declared.header.Contents.{Contents}
use Rattle.netcdf_source.specs.declared.header.Dimension.{Dimension}
use Rattle.netcdf_source.specs.declared.header.Variable.{Variable}
use Rattle.netcdf_source.specs.declared.failure.Failure.{Failure}
use Rattle.netcdf_source.specs.declared.failure.Failure.TheVariants.{Cut}
use Rattle.netcdf_source.specs.inner.Reading.{contents_at}
use Rattle.netcdf_source.proofs.Ends.{IsBytes, with_value}
use Rattle.netcdf_source.proofs.FieldLengths.{ends_len, header_len}
use Rattle.netcdf_source.proofs.Trees.{map-same}
use Rattle.netcdf_source.proofs.Headers.{rest2, rest3, more2, more3, FlatHeader, header_of, header_sound}

abbrev pub AreGood : List Judged → Type 0
AreGood [] = Unit {0}
AreGood (j ∷ js) = (j.fault ≡ None) × AreGood js

pub good_front : (xs ys : List Judged) → AreGood (xs ++ ys) → AreGood xs
good_front [] ys h = tt
good_front (j ∷ js) ys h = (h.0, good_front js ys h.1)

pub good_back : (xs ys : List Judged) → AreGood (xs ++ ys) → AreGood ys
good_back [] ys h = h
good_back (j ∷ js) ys h = good_back js ys h.1

no_fault : (o : Option Fault) (left : ℕ) (js : List Judged) (rest r : List ℕ) → MatchOption o (Ends js rest (Ok r)) (λ f. Path (Result (List ℕ) Failure) (Ok r) (Err (failure f left))) → (o ≡ None) × Ends js rest (Ok r)
no_fault None left js rest r h = (refl, h)
no_fault (Some f) left js rest r h = absurd cc

pub good_ends : (js : List Judged) (bytes rest : List ℕ) → Ends js bytes (Ok rest) → AreGood js
unfolding Ends
good_ends [] bytes rest h = tt
good_ends (j ∷ js) bytes rest (inl cut) = absurd (not_cut cut.1)
  where
    not_cut : Path (Result (List ℕ) Failure) (Ok rest) (Err Cut) → ⊥
    not_cut e = cc
good_ends (j ∷ js) bytes rest (inr m) =
    let n = no_fault j.fault (length bytes) js m.1 rest m.4 in
    (n.0, good_ends js m.1 rest n.1)

-- ---- no fault of a kind

pub bad_if-none : (b : Bool) (k : ℕ) → bad_if b k ≡ None → b ≡ false
bad_if-none true k e = absurd cc
bad_if-none false k e = refl

pub and_no : (a b : Bool) → (a && b) ≡ false → a ≡ true → b ≡ false
and_no true b e h = e
and_no false b e h = absurd cc

-- ---- items

pub in_turn_good : {T X : Type 0} (fields : List X → T → List Judged) (says : T → X) (P : List X → X → Type 0)
    → ((before : List X) (t : T) → AreGood (fields before t) → P before (says t)) → (before : List X) (ts : List T) → AreGood (in_turn fields says before ts) → InTurn P before (map says ts)
unfolding in_turn InTurn
in_turn_good fields says P item before [] h = tt
in_turn_good fields says P item before (t ∷ ts) h = (
  item before t (good_front (fields before t) (in_turn fields says (before ++ says t ∷ []) ts) h),
  in_turn_good fields says P item (before ++ says t ∷ []) ts (good_back (fields before t) (in_turn fields says (before ++ says t ∷ []) ts) h),
)

dimension_good : (width : Width) (before : List Dimension) (d : Dimension) → AreGood (dimension_fields width before d) → IsDimension before d
unfolding dimension_fields repeat_fault length_fault
dimension_good width before d h =
    let n = or_parts (ltb (largest width) d.length) (eqb d.length 0 && list_any is_record_dimension before) (bad_if-none _ _ h.1.1.0) in
    record {
      is_new = bad_if-none _ _ h.1.0;
      one_record = λ has e. absurd (false_true (sym (and_no (eqb d.length 0) (list_any is_record_dimension before) n.1 (is_zero d.length e)) ∙ has));
    }
  where
    false_true : false ≡ true → ⊥
    false_true e = cc

    is_zero : (k : ℕ) → k ≡ 0 → eqb k 0 ≡ true
    is_zero k e = rw e refl

id_good : (width : Width) (dims : List Dimension) (before : List ℕ) (n : ℕ) → AreGood (id_fields width dims before n) → IsId dims before n
unfolding id_fields dimension_fault
id_good width dims before n h =
    let p = or_parts (leb (length dims) n) (not (eqb (length before) 0) && eqb (length_at dims n) 0) (bad_if-none _ _ h.0) in
    record {
      within = leb-false _ _ p.0;
      inner = λ some. eqb-false _ _ (and_no (not (eqb (length before) 0)) (eqb (length_at dims n) 0) p.1 (is_some (length before) some));
    }
  where
    is_some : (k : ℕ) → k ≢ 0 → not (eqb k 0) ≡ true
    is_some k ne = grind (arith, nat_tests)

ids_good : (width : Width) (dims : List Dimension) (ids : List ℕ) → AreGood (in_turn (id_fields width dims) (λ n. n) [] ids) → InTurn (IsId dims) [] ids
ids_good width dims ids h = subst (InTurn (IsId dims) []) (map-same ids) (in_turn_good (id_fields width dims) (λ n. n) (IsId dims) (id_good width dims) [] ids h)

variable_good : (version : Version) (dims : List Dimension) (before : List Variable) (v : VariableTree) → AreGood (variable_fields version dims before v) → IsVariable dims before (variable v)
unfolding variable_fields repeat_fault rank_fault size_fault part_fault begin_fault
variable_good version dims before v h =
    let width = number_width version in
    let sum = shares dims before in
    let ids = in_turn (id_fields width dims) (λ n. n) [] v.dimensions in
    let kind = external_type v.number in
    let after_ids = good_back ids (rest2 version dims sum v.dimensions v.attributes v.number v.size v.begin) h.1.1.1 in
    let after_attributes = good_back (list_fields width 12 (attribute_fields version) attribute v.attributes) (rest3 version dims sum v.dimensions v.number v.size v.begin) after_ids in
    let bytes = or_parts (ltb (2 ^ 62) (part dims v.dimensions kind)) (is_record dims v.dimensions && ltb (2 ^ 62) (sum + share dims v.dimensions kind)) (bad_if-none _ _ after_attributes.1.0) in
    record {
      is_new = bad_if-none _ _ h.1.0;
      rank = ltb-false _ _ (bad_if-none _ _ h.1.1.0);
      ids = ids_good width dims v.dimensions (good_front ids (rest2 version dims sum v.dimensions v.attributes v.number v.size v.begin) h.1.1.1);
      bytes = ltb-false _ _ bytes.0;
      record_bytes = λ is. ltb-false _ _ (and_no _ _ bytes.1 is);
      place = leb-false _ _ (bad_if-none _ _ after_attributes.1.1.0);
    }

few_variables : (vs : List Variable) → length vs ≤ sum_by grid_members vs
few_variables [] = omega arith
few_variables (v ∷ vs) = omega (arith, sum_by-cons grid_members v vs, few_variables vs)

header_good : (h : HeaderTree) → AreGood (header_fields h) → sum_by grid_members (contents h).variables ≤ 1000000 → IsSound (contents h)
unfolding header_fields
header_good h good few =
    let width = number_width h.version in
    let dims = h.dimensions.items in
    let d = list_fields width 10 (dimension_fields width) (λ x. x) h.dimensions in
    let a = list_fields width 12 (attribute_fields h.version) attribute h.attributes in
    let v = list_fields width 11 (variable_fields h.version dims) variable h.variables in
    let after_dims = good_back d (more2 h.version dims h.attributes h.variables) good.1 in
    let after_attributes = good_back a (more3 h.version dims h.variables) after_dims in
    let of_variables = good_front v [] after_attributes in
    record {
      dimensions = subst (InTurn IsDimension []) (map-same dims) (in_turn_good (dimension_fields width) (λ x. x) IsDimension (dimension_good width) [] dims (good_front d (more2 h.version dims h.attributes h.variables) good.1).1.1);
      count = omega (arith, few, few_variables (contents h).variables);
      variables = in_turn_good (variable_fields h.version dims) variable (IsVariable dims) (variable_good h.version dims) [] h.variables.items of_variables.1.1;
      members = few;
    }

-- what is read whole has no fault
pub read_sound : (version : Version) (bytes : List ℕ) (c : Contents) (rest : List ℕ) → IsBytes bytes → length bytes ≤ 1048576 → contents_at version bytes ≡ Ok (c, rest) → IsSound c
read_sound version bytes c rest fits short e =
    let a = (header_sound version).found bytes fits in
    go a.0 a.1 a.2 (sym a.3 ∙ e)
  where
    go : (p : FlatHeader) (end : Result (List ℕ) Failure) → Ends (header_fields (header_of version p)) bytes end → with_value (contents (header_of version p)) end ≡ Ok (c, rest) → IsSound c
    go p (Ok r) h same =
        let is : contents (header_of version p) ≡ c = ap (λ (x : Contents × List ℕ). x.0) (ok_is (contents (header_of version p), r) (c, rest) same) in
        let few : sum_by grid_members (contents (header_of version p)).variables ≤ 1000000 = omega (arith, short, header_len (header_of version p), ends_len (header_fields (header_of version p)) bytes r h) in
        subst IsSound is (header_good (header_of version p) (good_ends (header_fields (header_of version p)) bytes r h) few)
      where
        ok_is : (x y : Contents × List ℕ) → Path (Result (Contents × List ℕ) Failure) (Ok x) (Ok y) → x ≡ y
        ok_is x y q = cc
    go p (Err f) h same = absurd cc

-- the header that some bytes begin with is sound
pub stands_sound : (h : HeaderTree) (front rest : List ℕ) → length front ≤ 1048576 → Stands h front (Ok rest) → IsSound (contents h)
stands_sound h front rest short s =
    let few : sum_by grid_members (contents h).variables ≤ 1000000 = omega (arith, short, header_len h, ends_len (header_fields h) s.body rest s.ends, ap length s.begins) in
    header_good h (good_ends (header_fields h) s.body rest s.ends) few
