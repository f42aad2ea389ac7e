-- The variables of a file: their fields in the header, none of which has a fault.
use Rattle.std.proofs.Common.{◌≡◌, ℕ, ◌+◌, ◌*◌, ◌<◌, ◌≤◌, ◌^◌, Bool, true, false, not, ◌&&◌, ◌||◌, ◌==◌, List, [], ◌∷◌, ◌++◌, length, map, drop, flat_map, Option, None, option_map, refl, ap, sym, subst, ◌∙◌, append-nil, append_assoc, arith, nat_lt, nat_le, if◌then◌else◌}
use Rattle.std.proofs.lemmas.Bool.Decides.{nat_tests}
use Rattle.std.proofs.lemmas.List.{length-map, map-append}
use Rattle.std.proofs.lemmas.List.Sums.{sum_by_push}
use Rattle.std.specs.List.{AllByRecursion, list_any}
use Rattle.std.specs.Option.{option_map_or}
use Rattle.std.specs.Str.{bytes_eq}
use Rattle.std.proofs.lemmas.Bool.{or_parts, or_from, and_right}
use Rattle.std.proofs.lemmas.Option.{slice_get-map}
use Rattle.plain_lemmas.proofs.Lists.{any-map}
use Rattle.dap_types.specs.Limits.{most_dimensions}
use Rattle.dap_types.specs.Model.{product}
use Rattle.dap_types.specs.declared.declarations.BaseType.{BaseType}
use Rattle.dap_types.specs.declared.declarations.BaseType.TheVariants.{Byte, Int16, UInt16, Int32, UInt32, Float32, Float64, Text, Url}
use Rattle.dap_types.specs.declared.declarations.Dim.{Dim}
use Rattle.dap_model.specs.Laws.{is_number}
use Rattle.dap_model.specs.Xdr.{padded, word}
use Rattle.netcdf_source.proofs.Lists.{shares-push}
use Rattle.netcdf_source.specs.Fields.{Judged, bad_if, judged}
use Rattle.netcdf_source.specs.Grammar.{attribute, attribute_fields, begin_fault, dimension_fault, external_type, id_fields, in_turn, list_fields, new_name_fields, part_fault, rank_fault, size_fault, tag_fault, type_fault, variable, variable_fields}
use Rattle.netcdf_source.specs.Mapping.{base_of}
use Rattle.netcdf_source.specs.Parts.{begins_with_records, inner, is_record as is_record_in, length_at, lengths, part as part_in, share, shares}
use Rattle.netcdf_source.specs.Types.{size_of}
use Rattle.netcdf_source.specs.Versions.{number_bytes, number_width, place_width}
use Rattle.netcdf_source.specs.declared.external_type.ExternalType.{ExternalType}
use Rattle.netcdf_source.specs.declared.header.Dimension.{Dimension}
use Rattle.netcdf_source.specs.declared.header.Variable as source
use Rattle.netcdf_source.specs.declared.version.Version.{Version}
use Rattle.netcdf_source.specs.declared.version.Width.{Width}
use Rattle.netcdf_source.specs.declared.version.Width.TheVariants.{Four}
use Rattle.netcdf_writer.proofs.DimsBack.{IsLocated, fits_width, new_name_prints}
use Rattle.netcdf_writer.proofs.FileNames.{name_fits, name_good, none_named}
use Rattle.netcdf_writer.proofs.Prints.{AllTurn, Prints, prints_both, prints_list, prints_none, prints_number, prints_turn}
use Rattle.netcdf_writer.proofs.Storable.{AllSet, IsSetIn, room_few}
use Rattle.netcdf_writer.specs.Causes.{is_inner_record, most_record}
use Rattle.netcdf_writer.specs.File.{absent, begin, dimension, id_of, is_five, is_unsigned, listed, type_number, variable_tree, variable_trees, version_if, version_of}
use Rattle.netcdf_writer.specs.Names.{file_name, is_file_name}
use Rattle.netcdf_writer.specs.Printer.{attribute_bytes, ids_bytes, list_bytes, name_bytes, variable_bytes}
use Rattle.netcdf_writer.specs.Variables.{Variable, dims_of, fixed_bytes, is_empty_dim, is_record, part, record_bytes, room, room_in_record, sizes_of, width_of}

abbrev pub ids_of : List Variable → Variable → List ℕ
ids_of all v = map (id_of (dims_of all)) v.dims

abbrev pub dims_in : List Variable → List Dimension
dims_in all = map dimension (dims_of all)

abbrev pub kind_of : Variable → ExternalType
kind_of v = external_type (type_number v.base)

-- ---- what a variable says of itself there

pub length_is : (ds : List Dim) (d : Dim) → IsLocated ds d → length_at (map dimension ds) (id_of ds d) ≡ d.size
unfolding length_at
length_is ds d so = ap (λ (o : Option Dimension). option_map_or (λ e. e.length) o 1) (slice_get-map dimension ds (id_of ds d) ∙ ap (option_map dimension) so.get) ∙ so.size

lengths_from : (ds dims : List Dim) → AllByRecursion (IsLocated ds) dims → lengths (map dimension ds) (map (id_of ds) dims) ≡ map (λ d. d.size) dims
lengths_from ds [] all = refl
lengths_from ds (d ∷ dims) all = ap (λ n. n ∷ lengths (map dimension ds) (map (id_of ds) dims)) (length_is ds d all.0) ∙ ap (λ l. d.size ∷ l) (lengths_from ds dims all.1)

pub lengths_are : (all : List Variable) (v : Variable) → AllByRecursion (IsLocated (dims_of all)) v.dims → lengths (dims_in all) (ids_of all v) ≡ sizes_of v
lengths_are all v so = lengths_from (dims_of all) v.dims so

pub size_is : (base : BaseType) → is_number base ≡ true → size_of (external_type (type_number base)) ≡ width_of base
size_is Byte e = refl
size_is Int16 e = refl
size_is UInt16 e = refl
size_is Int32 e = refl
size_is UInt32 e = refl
size_is Float32 e = refl
size_is Float64 e = refl
size_is Text e = cc
size_is Url e = cc

pub base_is : (base : BaseType) → is_number base ≡ true → base_of (external_type (type_number base)) ≡ base
base_is Byte e = refl
base_is Int16 e = refl
base_is UInt16 e = refl
base_is Int32 e = refl
base_is UInt32 e = refl
base_is Float32 e = refl
base_is Float64 e = refl
base_is Text e = cc
base_is Url e = cc

type_small : (base : BaseType) → type_number base < 2 ^ 32
type_small Byte = omega arith
type_small Int16 = omega arith
type_small UInt16 = omega arith
type_small Int32 = omega arith
type_small UInt32 = omega arith
type_small Float32 = omega arith
type_small Float64 = omega arith
type_small Text = omega arith
type_small Url = omega arith

type_good : (five : Bool) (base : BaseType) → is_number base ≡ true → (is_unsigned base ≡ true → five ≡ true) → type_fault (version_if five) (type_number base) ≡ None
unfolding type_fault
type_good true Byte e u = refl
type_good true Int16 e u = refl
type_good true UInt16 e u = refl
type_good true Int32 e u = refl
type_good true UInt32 e u = refl
type_good true Float32 e u = refl
type_good true Float64 e u = refl
type_good false Byte e u = refl
type_good false Int16 e u = refl
type_good false UInt16 e u = cc (u refl)
type_good false Int32 e u = refl
type_good false UInt32 e u = cc (u refl)
type_good false Float32 e u = refl
type_good false Float64 e u = refl
type_good five Text e u = cc
type_good five Url e u = cc

any_here : (p : Variable → Bool) (us : List Variable) (v : Variable) (vs : List Variable) → p v ≡ true → list_any p (us ++ v ∷ vs) ≡ true
any_here p [] v vs e = ap (λ b. b || list_any p vs) e
any_here p (u ∷ us) v vs e = yes (p u) (list_any p (us ++ v ∷ vs)) (any_here p us v vs e)
  where
    yes : (b c : Bool) → c ≡ true → (b || c) ≡ true
    yes true c e = refl
    yes false c e = e

five_here : (all us vs : List Variable) (v : Variable) → all ≡ us ++ v ∷ vs → is_unsigned v.base ≡ true → is_five all ≡ true
unfolding is_five
five_here all us vs v is e = ap (list_any (λ w. is_unsigned w.base)) is ∙ any_here (λ w. is_unsigned w.base) us v vs e

pub begins_is : (v : Variable) → is_inner_record v ≡ false → begins_with_records (sizes_of v) ≡ is_record v
begins_is v single = by v.dims single
  where
    or_right : (b c : Bool) → c ≡ false → b ≡ (b || c)
    or_right true c e = refl
    or_right false c e = sym e

    by : (dims : List Dim) → list_any is_empty_dim (drop 1 dims) ≡ false → begins_with_records (map (λ d. d.size) dims) ≡ list_any is_empty_dim dims
    by [] e = refl
    by (d ∷ dims) e = or_right (d.size == 0) (list_any is_empty_dim dims) e

-- a variable in the file has its part, and is over the record dimension where it was over one of size 0
pub record IsLaidOut (all : List Variable) (v : Variable) : Type 0 where
  pub own_sizes : lengths (dims_in all) (ids_of all v) ≡ sizes_of v
  pub over_records : is_record_in (dims_in all) (ids_of all v) ≡ is_record v
  pub own_part : part_in (dims_in all) (ids_of all v) (kind_of v) ≡ part v
  pub own_share : share (dims_in all) (ids_of all v) (kind_of v) ≡ room_in_record v

part_same : (all : List Variable) (v : Variable) → lengths (dims_in all) (ids_of all v) ≡ sizes_of v → size_of (kind_of v) ≡ width_of v.base → part_in (dims_in all) (ids_of all v) (kind_of v) ≡ part v
unfolding part_in part
part_same all v lens size = ap (λ ns. product (inner ns) * size_of (kind_of v)) lens ∙ ap (λ w. product (inner (sizes_of v)) * w) size

pub laid_out : (all earlier : List Variable) (v : Variable) → IsSetIn all earlier v → IsLaidOut all v
laid_out all earlier v so =
    let lens = lengths_are all v so.located in
    let over : is_record_in (dims_in all) (ids_of all v) ≡ is_record v = ap begins_with_records lens ∙ begins_is v so.single.first in
    let own = part_same all v lens (size_is v.base so.good.number) in
    record {
      own_sizes = lens;
      over_records = over;
      own_part = own;
      own_share = ap (λ b. if b then padded (part_in (dims_in all) (ids_of all v) (kind_of v)) else 0) over ∙ ap (λ n. if is_record v then padded n else 0) own;
    }

-- ---- its fields

id_good : (ds : List Dim) (d : Dim) (first : Bool) → IsLocated ds d → (first ≡ false → (d.size == 0) ≡ false) → dimension_fault (map dimension ds) first (id_of ds d) ≡ None
unfolding dimension_fault
id_good ds d first so later =
    let long : length (map dimension ds) ≡ length ds = length-map ds dimension in
    let few = so.within in
    let low : nat_le (length (map dimension ds)) (id_of ds d) ≡ false = below (length (map dimension ds)) (id_of ds d) (omega (arith, long, few)) in
    let inner_is = ap (λ n. n == 0) (length_is ds d so) in
    ap (λ b. bad_if (b || not first && length_at (map dimension ds) (id_of ds d) == 0) 0) low ∙ ap (λ b. bad_if (not first && b) 0) inner_is ∙ ap (λ b. bad_if b 0) (either first later)
  where
    below : (n m : ℕ) → m < n → nat_le n m ≡ false
    below n m few = grind (arith, nat_tests, few)

    either : (b : Bool) → (b ≡ false → (d.size == 0) ≡ false) → (not b && d.size == 0) ≡ false
    either true f = refl
    either false f = f refl

ids_turn : (w : Width) (ds : List Dim) (before : List ℕ) (dims : List Dim) → length ds < 2 ^ 32 → AllByRecursion (IsLocated ds) dims → list_any is_empty_dim (drop 1 dims) ≡ false → ((length before == 0) ≡ false → list_any is_empty_dim dims ≡ false)
    → AllTurn (λ b n. Prints (id_fields w (map dimension ds) b n) (number_bytes w n)) (λ n. n) before (map (id_of ds) dims)
unfolding id_fields
ids_turn w ds before [] many all single later = tt
ids_turn w ds before (d ∷ dims) many all single later =
    let few = all.0.within in (
      prints_number w (dimension_fault (map dimension ds) (length before == 0)) (id_of ds d) (id_good ds d (length before == 0) all.0 (λ e. (or_parts (d.size == 0) _ (later e)).0)) (fits_width w (id_of ds d) (omega (arith, few, many))),
      ids_turn w ds (before ++ id_of ds d ∷ []) dims many all.1 (tail_single dims single) (λ _. single),
    )
  where
    tail_single : (ds : List Dim) → list_any is_empty_dim ds ≡ false → list_any is_empty_dim (drop 1 ds) ≡ false
    tail_single [] e = refl
    tail_single (x ∷ ds) e = (or_parts (x.size == 0) _ e).1

ids_print : (w : Width) (all : List Variable) (v : Variable) → length (dims_of all) < 2 ^ 32 → AllByRecursion (IsLocated (dims_of all)) v.dims → is_inner_record v ≡ false → length v.dims ≤ 32
    → Prints (judged w rank_fault (length (ids_of all v)) ∷ in_turn (id_fields w (dims_in all)) (λ n. n) [] (ids_of all v)) (ids_bytes w (ids_of all v))
unfolding ids_bytes rank_fault
ids_print w all v many so single rank =
    let long : length (ids_of all v) ≡ length v.dims = length-map v.dims (id_of (dims_of all)) in
    prints_both (judged w rank_fault (length (ids_of all v)) ∷ []) (in_turn (id_fields w (dims_in all)) (λ n. n) [] (ids_of all v)) (number_bytes w (length (ids_of all v))) (flat_map (number_bytes w) (ids_of all v))
    (prints_number w rank_fault (length (ids_of all v)) (ap (λ b. bad_if b 0) (low (length (ids_of all v)) (omega (arith, long, rank)))) (fits_width w (length (ids_of all v)) (omega (arith, long, rank))))
    (prints_turn (id_fields w (dims_in all)) (λ n. n) (number_bytes w) [] (ids_of all v) (ids_turn w (dims_of all) [] v.dims many so single (λ e. cc e)))
  where
    low : (n : ℕ) → n ≤ 32 → nat_lt most_dimensions n ≡ false
    low n few = grind (arith, nat_tests, few)

pub none_print : (version : Version) → Prints (list_fields (number_width version) 12 (attribute_fields version) attribute absent) (list_bytes (number_width version) (attribute_bytes (number_width version)) absent)
unfolding tag_fault listed
none_print version =
    prints_list (number_width version) 12 (attribute_fields version) attribute (attribute_bytes (number_width version)) [] refl refl (omega arith) (fits_width (number_width version) 0 (omega arith)) (nothing version)
  where
    nothing : (version : Version) → Prints (in_turn (attribute_fields version) attribute [] []) (flat_map (attribute_bytes (number_width version)) [])
    nothing version = prints_turn (attribute_fields version) attribute (attribute_bytes (number_width version)) [] [] tt

size_good : (dims : List Dimension) (sum : ℕ) (ids : List ℕ) (kind : ExternalType) (n p s : ℕ) → part_in dims ids kind ≡ p → share dims ids kind ≡ s → p < 2 ^ 32 → sum + s < 2 ^ 33 → size_fault dims sum ids kind n ≡ None
unfolding size_fault part_fault
size_good dims sum ids kind n p s own shared few all =
    ap (λ b. bad_if b 0) (or_from (nat_lt (2 ^ 62) (part_in dims ids kind)) (is_record_in dims ids && nat_lt (2 ^ 62) (sum + share dims ids kind))
    (ap (nat_lt (2 ^ 62)) own ∙ low p (omega (arith, few)))
    (and_right (is_record_in dims ids) (nat_lt (2 ^ 62) (sum + share dims ids kind)) (ap (λ k. nat_lt (2 ^ 62) (sum + k)) shared ∙ low (sum + s) (omega (arith, all)))))
  where
    low : (k : ℕ) → k < 2 ^ 62 → nat_lt (2 ^ 62) k ≡ false
    low k few = grind (arith, nat_tests, few)

begin_few : (front : ℕ) (all earlier : List Variable) (v : Variable) → front ≤ 1048576 → fixed_bytes all ≤ 16777216 → fixed_bytes earlier ≤ fixed_bytes all → record_bytes earlier ≤ most_record → begin front all earlier v < 2 ^ 32
unfolding begin
begin_few front all earlier v f few within records = chosen (is_record v)
  where
    chosen : (b : Bool) → (if b then front + fixed_bytes all + record_bytes earlier else front + fixed_bytes earlier) < 2 ^ 32
    chosen true = omega (arith, f, few, records)
    chosen false = omega (arith, f, few, within)

begin_good : (n : ℕ) → n < 2 ^ 32 → begin_fault n ≡ None
unfolding begin_fault
begin_good n few = ap (λ b. bad_if b 0) (low n few)
  where
    low : (k : ℕ) → k < 2 ^ 32 → nat_le (2 ^ 63) k ≡ false
    low k few = grind (arith, nat_tests, few)

regroup : (a b c d e f : List ℕ) → ((((a ++ b) ++ c) ++ d) ++ e) ++ f ≡ a ++ (b ++ (c ++ (d ++ (e ++ (f ++ [])))))
regroup a b c d e f =
    append_assoc (((a ++ b) ++ c) ++ d) e f ∙ append_assoc ((a ++ b) ++ c) d (e ++ f) ∙ append_assoc (a ++ b) c (d ++ (e ++ f)) ∙ append_assoc a b (c ++ (d ++ (e ++ f)))
    ∙ ap (λ l. a ++ (b ++ (c ++ (d ++ (e ++ l))))) (sym (append-nil f))

prints_last : (js : List Judged) (bs : List ℕ) → Prints js bs → Prints (js ++ []) (bs ++ [])
prints_last js bs p = prints_both js [] bs [] p prints_none

-- what the reader knows of the variables before it
pub record IsBehind (all earlier : List Variable) (before : List source.Variable) : Type 0 where
  pub names : map (λ b. b.name) before ≡ map file_name (map (λ (v : Variable). v.name) earlier)
  pub valid : AllByRecursion (λ b. is_file_name b ≡ true) (map (λ (v : Variable). v.name) earlier)
  pub bytes : shares (dims_in all) before ≡ record_bytes earlier
  pub records : record_bytes earlier ≤ most_record
  pub fixed : fixed_bytes earlier ≤ fixed_bytes all

variable_prints : (front : ℕ) (all earlier vs : List Variable) (v : Variable) (before : List source.Variable) → all ≡ earlier ++ v ∷ vs → IsSetIn all earlier v → IsBehind all earlier before
    → length (dims_of all) < 2 ^ 32 → fixed_bytes all ≤ 16777216 → front ≤ 1048576
    → Prints (variable_fields (version_of all) (dims_in all) before (variable_tree front all earlier v)) (variable_bytes (version_of all) (variable_tree front all earlier v))
unfolding variable_fields variable_bytes variable_tree
variable_prints front all earlier vs v before is so behind many few short =
    let version = version_of all in
    let w = number_width version in
    let name = file_name v.name in
    let ids = ids_of all v in
    let at = begin front all earlier v in
    let out = laid_out all earlier v so in
    let room_is = room_few all earlier v so few in
    let part_is : part v < 2 ^ 32 = omega (arith, room_is) in
    let record_is : room_in_record v ≤ room v = in_room (is_record v) (room v) in
    let behind_few = behind.records in
    let sum_few : shares (dims_in all) before + room_in_record v < 2 ^ 33 = let s = behind.bytes in omega (arith, s, behind_few, record_is, room_is) in
    let start = begin_few front all earlier v short few behind.fixed behind.records in
    let none = none_named v.name (map (λ (u : Variable). u.name) earlier) so.good.file behind.valid (any-map (bytes_eq v.name) (λ (u : Variable). u.name) earlier ∙ so.new) in
    let six =
    prints_both (new_name_fields w (map (λ b. b.name) before) name) _ (name_bytes w name) _
    (new_name_prints w (map (λ b. b.name) before) name (name_good v.name so.good.file) (name_fits v.name so.good.file).1 (ap (list_any (bytes_eq name)) behind.names ∙ none))
    (prints_both (judged w rank_fault (length ids) ∷ in_turn (id_fields w (dims_in all)) (λ n. n) [] ids) _ (ids_bytes w ids) _ (ids_print w all v many so.located so.single.first so.good.rank)
    (prints_both (list_fields w 12 (attribute_fields version) attribute absent) _ (list_bytes w (attribute_bytes w) absent) _ (none_print version)
    (prints_both (judged Four (type_fault version) (type_number v.base) ∷ []) _ (word (type_number v.base)) _
    (prints_number Four (type_fault version) (type_number v.base) (type_good (is_five all) v.base so.good.number (λ u. five_here all earlier vs v is u)) (type_small v.base))
    (prints_both (judged w (size_fault (dims_in all) (shares (dims_in all) before) ids (kind_of v)) (room v) ∷ []) _ (number_bytes w (room v)) _
    (prints_number w (size_fault (dims_in all) (shares (dims_in all) before) ids (kind_of v)) (room v) (size_good (dims_in all) (shares (dims_in all) before) ids (kind_of v) (room v) (part v) (room_in_record v) out.own_part out.own_share part_is sum_few) (fits_width w (room v) room_is))
    (prints_last (judged (place_width version) begin_fault at ∷ []) (number_bytes (place_width version) at) (prints_number (place_width version) begin_fault at (begin_good at start) (fits_width (place_width version) at start))))))) in
    subst (Prints _) (sym (regroup (name_bytes w name) (ids_bytes w ids) (list_bytes w (attribute_bytes w) absent) (word (type_number v.base)) (number_bytes w (room v)) (number_bytes (place_width version) at))) six
  where
    in_room : (b : Bool) (r : ℕ) → (if b then r else 0) ≤ r
    in_room true r = omega arith
    in_room false r = omega arith

push_valid : (us : List Variable) (v : Variable) → AllByRecursion (λ b. is_file_name b ≡ true) (map (λ (u : Variable). u.name) us) → is_file_name v.name ≡ true → AllByRecursion (λ b. is_file_name b ≡ true) (map (λ (u : Variable). u.name) (us ++ v ∷ []))
push_valid [] v all own = (own, tt)
push_valid (u ∷ us) v all own = (all.0, push_valid us v all.1 own)

behind_more : (front : ℕ) (all earlier : List Variable) (v : Variable) (before : List source.Variable) → IsSetIn all earlier v → IsBehind all earlier before → IsBehind all (earlier ++ v ∷ []) (before ++ variable (variable_tree front all earlier v) ∷ [])
unfolding variable_tree
behind_more front all earlier v before so behind =
    let out = laid_out all earlier v so in
    record {
      names = map-append (λ (b : source.Variable). b.name) before (variable (variable_tree front all earlier v) ∷ []) ∙ ap (λ l. l ++ file_name v.name ∷ []) behind.names
          ∙ sym (map-append file_name (map (λ (u : Variable). u.name) earlier) (v.name ∷ [])) ∙ ap (map file_name) (sym (map-append (λ (u : Variable). u.name) earlier (v ∷ [])));
      valid = push_valid earlier v behind.valid so.good.file;
      bytes = shares-push (dims_in all) before (variable (variable_tree front all earlier v)) ∙ ap (λ n. n + share (dims_in all) (ids_of all v) (kind_of v)) behind.bytes ∙ ap (λ n. record_bytes earlier + n) out.own_share ∙ sym (sum_by_push room_in_record earlier v);
      records = so.records;
      fixed = so.fixed;
    }

pub variables_turn : (front : ℕ) (all earlier vs : List Variable) (before : List source.Variable) → all ≡ earlier ++ vs → AllSet all earlier vs → IsBehind all earlier before → length (dims_of all) < 2 ^ 32 → fixed_bytes all ≤ 16777216 → front ≤ 1048576
    → AllTurn (λ b t. Prints (variable_fields (version_of all) (dims_in all) b t) (variable_bytes (version_of all) t)) variable before (variable_trees front all earlier vs)
unfolding variable_trees
variables_turn front all earlier [] before is set behind many few short = tt
variables_turn front all earlier (v ∷ vs) before is set behind many few short = (
  variable_prints front all earlier vs v before is set.0 behind many few short,
  variables_turn front all (earlier ++ v ∷ []) vs (before ++ variable (variable_tree front all earlier v) ∷ []) (is ∙ sym (append_assoc earlier (v ∷ []) vs)) set.1 (behind_more front all earlier v before set.0 behind) many few short,
)
