-- What holds of the variables of a dataset that can be stored.
use Rattle.std.proofs.Common.{◌≡◌, ℕ, ◌+◌, ◌<◌, ◌≤◌, ◌^◌, Bool, true, false, not, List, [], ◌∷◌, ◌++◌, length, map, filter, drop, All, Option, Some, None, is_none, refl, ap, sym, ◌∙◌, append-nil, append_assoc, arith, if◌then◌else◌}
use Rattle.std.specs.Bool.{⊤}
use Rattle.std.proofs.lemmas.Bool.Decides.{nat_tests}
use Rattle.std.proofs.lemmas.Grind.{flat_map-append}
use Rattle.std.proofs.lemmas.List.Sums.{sum_by-append, sum_by_push}
use Rattle.std.specs.List.{AllByRecursion, AllZip, list_any}
use Rattle.std.specs.Option.{option_map_or}
use Rattle.std.proofs.lemmas.Bool.{or_parts, or_from, not-false}
use Rattle.dap_types.specs.Model.{Member, scalar, array, structure, grid, sequence, Members, no_members, member, Dataset, Tree, kids, name_of, sizes}
use Rattle.dap_types.specs.WellFormed.{IsSized, Place, leaf_places, part_places, places, places_of}
use Rattle.dap_types.specs.declared.declarations.ArrayDecl.{ArrayDecl}
use Rattle.dap_types.specs.declared.declarations.Dim.{Dim}
use Rattle.dap_model.proofs.Values.{all_first, all_rest}
use Rattle.dap_model.specs.Fits.{Fits, FitsAll, FitsArray}
use Rattle.dap_model.specs.Laws.{is_number}
use Rattle.netcdf_writer.proofs.Apart.{AreNew, NoCauses, all_join, all_kept, all_left, all_of, all_right, are_new, has_none, no_causes, variables_apart}
use Rattle.netcdf_writer.proofs.DimsBack.{IsGoodDim, IsLocated, IsSingle, dims_located, single}
use Rattle.netcdf_writer.proofs.Dimensions.{dims_clash_more}
use Rattle.netcdf_writer.proofs.Fitting.{stored_filled}
use Rattle.netcdf_writer.proofs.Headers.{room_within}
use Rattle.netcdf_writer.proofs.Planning.{stored_none, stored_one}
use Rattle.netcdf_writer.proofs.Records.{clash_more}
use Rattle.netcdf_writer.specs.Causes.{clashes, dims_clash, has_bad_name, has_bad_zero, is_misnamed, is_other_kind, lacks_name, most_record, records_clash}
use Rattle.netcdf_writer.specs.File.{header_length, is_header_too_long}
use Rattle.netcdf_writer.specs.Names.{is_file_name}
use Rattle.netcdf_writer.specs.Saved.{IsSavable, IsSmall}
use Rattle.netcdf_writer.specs.Variables.{Variable, Top, all_dims, array_variable, array_variables, dim_name, dims_of, fixed_bytes, has_name, is_new, is_record, maps_of, own, record_bytes, room, room_by_itself, room_in_record, sizes_of, stored, stored_from, tops_of, variables}
use Rattle.netcdf_writer.specs.inner.Parts.{AreFilled}

-- a variable with its names, its type and its values
pub record IsGoodVariable (v : Variable) : Type 0 where
  pub number : is_number v.base ≡ true
  pub file : is_file_name v.name ≡ true
  pub dims : AllByRecursion IsGoodDim v.dims
  pub rank : length v.dims ≤ 32
  pub fits : FitsArray v.base (sizes_of v) v.tree

named_is : (o : Option (List ℕ)) → is_none o ≡ false → o ≡ Some (option_map_or (λ n. n) o [])
named_is None e = cc e
named_is (Some n) e = refl

good_dims : (dims : List Dim) → list_any (λ d. is_none d.name) dims ≡ false → list_any (λ d. not (is_file_name (dim_name d))) dims ≡ false → All (λ n. n ≤ 2147483647) (map (λ d. d.size) dims) → AllByRecursion IsGoodDim dims
good_dims [] named valid few = tt
good_dims (d ∷ dims) named valid few =
    let n = or_parts (is_none d.name) _ named in
    let v = or_parts (not (is_file_name (dim_name d))) _ valid in (
      record { named = named_is d.name n.0; file = not-false (is_file_name (dim_name d)) v.0; few = all_first (λ k. k ≤ 2147483647) d.size (map (λ e. e.size) dims) few },
      good_dims dims n.1 v.1 (all_rest (λ k. k ≤ 2147483647) d.size (map (λ e. e.size) dims) few),
    )

good_array : (a : ArrayDecl) (t : Tree) → is_number a.base ≡ true → list_any (λ d. is_none d.name) a.dims ≡ false → is_misnamed a ≡ false → IsSized (array a) → FitsArray a.base (sizes a) t → IsGoodVariable (array_variable a t)
unfolding is_misnamed
good_array a t number named valid sized fit =
    let v = or_parts (not (is_file_name a.name)) _ valid in
    record { number = number; file = not-false (is_file_name a.name) v.0; dims = good_dims a.dims named v.1 sized.2; rank = sized.1; fits = fit }

abbrev SizedArray : ArrayDecl → Type 0
SizedArray a = IsSized (array a)

good_arrays : (arrays : List ArrayDecl) (ts : List Tree) → list_any (λ b. not (is_number b.base)) arrays ≡ false → list_any (λ a. list_any (λ d. is_none d.name) a.dims) arrays ≡ false → list_any is_misnamed arrays ≡ false
    → AllByRecursion SizedArray arrays → AllZip (λ b u. FitsArray b.base (sizes b) u) arrays ts → AllByRecursion IsGoodVariable (array_variables arrays ts)
good_arrays [] ts number named valid sized fit = tt
good_arrays (a ∷ arrays) [] number named valid sized fit = absurd fit
good_arrays (a ∷ arrays) (t ∷ ts) number named valid sized fit =
    let k = or_parts (not (is_number a.base)) _ number in
    let n = or_parts (list_any (λ d. is_none d.name) a.dims) _ named in
    let v = or_parts (is_misnamed a) _ valid in
    (good_array a t (not-false (is_number a.base) k.0) n.0 v.0 sized.0 fit.0, good_arrays arrays ts k.1 n.1 v.1 sized.1 fit.1)

abbrev IsSizedPlace : Place → Type 0
IsSizedPlace p = IsSized p.variable

parts_sized : (depth : ℕ) (earlier : List (List ℕ)) (arrays : List ArrayDecl) → AllByRecursion IsSizedPlace (leaf_places depth earlier (map array arrays)) → AllByRecursion SizedArray arrays
parts_sized depth earlier [] all = tt
parts_sized depth earlier (a ∷ arrays) all = (all.0, parts_sized depth (a.name ∷ earlier) arrays all.1)

top_good : (depth : ℕ) (m : Member) (t : Tree) → is_other_kind m ≡ false → lacks_name m ≡ false → has_bad_name m ≡ false → IsSized m → AllByRecursion IsSizedPlace (part_places depth m) → Fits m t
    → AllByRecursion IsGoodVariable (own (m, t)) × AllByRecursion IsGoodVariable (maps_of (m, t))
unfolding is_other_kind lacks_name has_bad_name own maps_of
top_good depth (scalar c) t number named valid sized parts fit =
    ((record { number = not-false (is_number c.base) number; file = not-false (is_file_name c.name) valid; dims = tt; rank = omega arith; fits = fit }, tt), tt)
top_good depth (array a) t number named valid sized parts fit =
    ((good_array a t (not-false (is_number a.base) number) (or_parts (list_any (λ d. is_none d.name) a.dims) _ named).0 (or_parts (is_misnamed a) _ valid).0 sized fit, tt), tt)
top_good depth (structure name _) t number named valid sized parts fit = cc number
top_good depth (sequence name columns) t number named valid sized parts fit = cc number
top_good depth (grid name a maps) t number named valid sized parts fit = of_kids (kids t) fit.1
  where
    of_kids : (ts : List Tree) → AllZip (λ b u. FitsArray b.base (sizes b) u) (a ∷ maps) ts → AllByRecursion IsGoodVariable (array_variables (a ∷ []) ts) × AllByRecursion IsGoodVariable (array_variables maps (drop 1 ts))
    of_kids [] zip = absurd zip
    of_kids (u ∷ us) zip = let all = good_arrays (a ∷ maps) (u ∷ us) number named valid (parts_sized depth [] (a ∷ maps) parts) zip in ((all.0, tt), all.1)

tops_good : (all earlier : List Top) (names : List (List ℕ)) (ms : Members) (ts : List Tree) → NoCauses all earlier (tops_of ms ts) → AllByRecursion IsSizedPlace (places 1 names ms) → FitsAll ms ts
    → AllByRecursion IsGoodVariable (stored_from all earlier (tops_of ms ts))
unfolding stored_from stored
tops_good all earlier names no_members ts none sized fit = tt
tops_good all earlier names (member m ms) [] none sized fit = absurd fit
tops_good all earlier names (member m ms) (t ∷ ts) none sized fit =
    let facts = has_none all earlier (m, t) none.0 in
    let both = top_good (1 + 1) m t facts.kind facts.no_name facts.bad_name sized.0 (all_left IsSizedPlace (part_places (1 + 1) m) (places 1 (name_of m ∷ names) ms) sized.1) fit.0 in
    all_join IsGoodVariable (filter (is_new all earlier) (maps_of (m, t)) ++ own (m, t)) (stored_from all (earlier ++ (m, t) ∷ []) (tops_of ms ts))
    (all_join IsGoodVariable (filter (is_new all earlier) (maps_of (m, t))) (own (m, t)) (all_kept IsGoodVariable (is_new all earlier) (maps_of (m, t)) both.1) both.0)
    (tops_good all (earlier ++ (m, t) ∷ []) (name_of m ∷ names) ms ts none.1 (all_right IsSizedPlace (part_places (1 + 1) m) (places 1 (name_of m ∷ names) ms) sized.1) fit.1)

-- ---- nothing clashes

no_dims_clash_in : (all earlier : List Top) (top : Top) → clashes all earlier top ≡ false → dims_clash (all_dims (stored_from all [] earlier)) (all_dims (stored all earlier top)) ≡ false
unfolding clashes
no_dims_clash_in all earlier top none = (or_parts _ (dims_clash (all_dims (stored_from all [] earlier)) (all_dims (stored all earlier top))) none).1

no_records_clash_in : (all earlier : List Top) (top : Top) → has_bad_zero all earlier top ≡ false → records_clash (stored_from all [] earlier) (stored all earlier top) ≡ false
unfolding has_bad_zero
no_records_clash_in all earlier top none = none

unclashed : (all earlier tops : List Top) → NoCauses all earlier tops → dims_clash [] (all_dims (stored_from all [] earlier)) ≡ false → dims_clash [] (all_dims (stored_from all [] (earlier ++ tops))) ≡ false
unclashed all earlier [] none so = ap (λ l. dims_clash [] (all_dims (stored_from all [] l))) (append-nil earlier) ∙ so
unclashed all earlier (top ∷ tops) none so =
    let before = stored_from all [] earlier in
    let own_ones = stored all earlier top in
    let facts = has_none all earlier top none.0 in
    let parts : all_dims (stored_from all [] (earlier ++ top ∷ [])) ≡ all_dims before ++ all_dims own_ones = ap all_dims (stored_one all earlier top) ∙ flat_map-append (λ w. w.dims) before own_ones in
    ap (λ l. dims_clash [] (all_dims (stored_from all [] l))) (sym (append_assoc earlier (top ∷ []) tops))
    ∙ unclashed all (earlier ++ top ∷ []) tops none.1
    (ap (dims_clash []) parts ∙ dims_clash_more [] (all_dims before) (all_dims own_ones) ∙ or_from (dims_clash [] (all_dims before)) (dims_clash (all_dims before) (all_dims own_ones)) so (no_dims_clash_in all earlier top facts.clash))

unmixed : (all earlier tops : List Top) → NoCauses all earlier tops → records_clash [] (stored_from all [] earlier) ≡ false → records_clash [] (stored_from all [] (earlier ++ tops)) ≡ false
unmixed all earlier [] none so = ap (λ l. records_clash [] (stored_from all [] l)) (append-nil earlier) ∙ so
unmixed all earlier (top ∷ tops) none so =
    let before = stored_from all [] earlier in
    let own_ones = stored all earlier top in
    let facts = has_none all earlier top none.0 in
    ap (λ l. records_clash [] (stored_from all [] l)) (sym (append_assoc earlier (top ∷ []) tops))
    ∙ unmixed all (earlier ++ top ∷ []) tops none.1
    (ap (records_clash []) (stored_one all earlier top) ∙ clash_more [] before own_ones ∙ or_from (records_clash [] before) (records_clash before own_ones) so (no_records_clash_in all earlier top facts.zero))

no_dims : (all : List Top) → dims_clash [] (all_dims (stored_from all [] [])) ≡ false
unfolding dims_clash
no_dims all = ap (λ l. dims_clash [] (all_dims l)) (stored_none all)

no_records : (all : List Top) → records_clash [] (stored_from all [] []) ≡ false
unfolding records_clash
no_records all = ap (records_clash []) (stored_none all)

-- ---- all of it

pub record IsStorable (vs : List Variable) : Type 0 where
  pub good : AllByRecursion IsGoodVariable vs
  pub new : AreNew [] vs
  pub dims : dims_clash [] (all_dims vs) ≡ false
  pub records : records_clash [] vs ≡ false
  pub filled : AreFilled vs
  pub few : fixed_bytes vs ≤ 16777216
  pub short : header_length vs ≤ 1048576

short_header : (vs : List Variable) → is_header_too_long vs ≡ false → header_length vs ≤ 1048576
unfolding is_header_too_long
short_header vs e = grind (arith, nat_tests, e)

pub storable : (d : Dataset) (ts : List Tree) → IsSmall d ts → IsSavable d ts → IsStorable (variables d ts)
storable d ts small savable =
    let all = tops_of d.members ts in
    let none = no_causes all [] 1 all savable.0 in
    let both = stored_filled d ts all (stored_from all [] all) refl refl savable.0 small.fits small.few in
    record {
      good = tops_good all [] [] d.members ts none (all_of IsSizedPlace (places_of d) small.well_formed.sized) small.fits;
      new = are_new [] (stored_from all [] all) (variables_apart d ts small.well_formed savable.0) tt;
      dims = unclashed all [] all none (no_dims all);
      records = unmixed all [] all none (no_records all);
      filled = both.0;
      few = both.1;
      short = short_header (stored_from all [] all) savable.1;
    }

-- ---- one variable behind others

pub record IsSetIn (all earlier : List Variable) (v : Variable) : Type 0 where
  pub good : IsGoodVariable v
  pub new : list_any (has_name v.name) earlier ≡ false
  pub single : IsSingle earlier v
  pub located : AllByRecursion (IsLocated (dims_of all)) v.dims
  pub fixed : fixed_bytes (earlier ++ v ∷ []) ≤ fixed_bytes all
  pub records : record_bytes (earlier ++ v ∷ []) ≤ most_record

abbrev pub AllSet : List Variable → List Variable → List Variable → Type 0
AllSet all earlier [] = ⊤
AllSet all earlier (v ∷ vs) = IsSetIn all earlier v × AllSet all (earlier ++ v ∷ []) vs

in_record : (b : Bool) (r : ℕ) → b ≡ false → (if b then r else 0) ≡ 0
in_record true r e = cc e
in_record false r e = refl

more_records : (earlier : List Variable) (v : Variable) → IsSingle earlier v → record_bytes earlier ≤ most_record → record_bytes (earlier ++ v ∷ []) ≤ most_record
more_records earlier v lone few = chosen (is_record v) refl
  where
    chosen : (b : Bool) → is_record v ≡ b → record_bytes (earlier ++ v ∷ []) ≤ most_record
    chosen true e = lone.few e
    chosen false e = let sum = sum_by_push room_in_record earlier v in let none = in_record (is_record v) (room v) e in omega (arith, sum, none, few)

pub all_set_from : (all earlier vs : List Variable) → all ≡ earlier ++ vs → AllByRecursion IsGoodVariable vs → AreNew earlier vs → records_clash earlier vs ≡ false → AllByRecursion (IsLocated (dims_of all)) (all_dims vs) → record_bytes earlier ≤ most_record
    → AllSet all earlier vs
all_set_from all earlier [] is good new records located few = tt
all_set_from all earlier (v ∷ vs) is good new records located few =
    let both = single earlier vs v records in
    let split : all ≡ (earlier ++ v ∷ []) ++ vs = is ∙ sym (append_assoc earlier (v ∷ []) vs) in
    let sum : fixed_bytes all ≡ fixed_bytes (earlier ++ v ∷ []) + fixed_bytes vs = ap fixed_bytes split ∙ sum_by-append room_by_itself (earlier ++ v ∷ []) vs in
    let more = more_records earlier v both.0 few in (
      record {
        good = good.0;
        new = new.0;
        single = both.0;
        located = all_left (IsLocated (dims_of all)) v.dims (all_dims vs) located;
        fixed = omega (arith, sum);
        records = more;
      },
      all_set_from all (earlier ++ v ∷ []) vs split good.1 new.1 both.1 (all_right (IsLocated (dims_of all)) v.dims (all_dims vs) located) more,
    )

pub all_set : (vs : List Variable) → IsStorable vs → AllSet vs [] vs
all_set vs so = all_set_from vs [] vs refl so.good so.new so.records (dims_located (all_dims vs) so.dims) (omega arith)

pub room_few : (all earlier : List Variable) (v : Variable) → IsSetIn all earlier v → fixed_bytes all ≤ 16777216 → room v < 2 ^ 32
room_few all earlier v so few =
    let fixed = sum_by_push room_by_itself earlier v in
    let records = sum_by_push room_in_record earlier v in
    let a = so.fixed in
    let b = so.records in
    room_within v (omega (arith, fixed, a, few)) (omega (arith, records, b))
