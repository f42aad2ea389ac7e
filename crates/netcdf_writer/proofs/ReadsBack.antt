-- A file that was stored is read back: its header, its variables and their values.
use Rattle.std.proofs.Common.{◌≡◌, ℕ, zero, suc, ◌+◌, ◌-◌, ◌*◌, ◌≤◌, Bool, true, false, not, ◌&&◌, ◌==◌, List, [], ◌∷◌, ◌++◌, length, map, take, Option, Some, None, option_map, Ok, refl, ap, sym, subst, ◌∙◌, append_assoc, length-append, arith, nat_lt, if◌then◌else◌}
use Rattle.std.proofs.lemmas.Bool.Decides.{nat_tests}
use Rattle.std.specs.List.{AllByRecursion, AllZip, position_from}
use Rattle.std.specs.Option.{option_map_or}
use Rattle.dap_types.specs.Limits.{most_header}
use Rattle.dap_types.specs.Model.{Tree}
use Rattle.dap_types.specs.Names.{file_id}
use Rattle.dap_types.specs.declared.declarations.BaseType.{BaseType}
use Rattle.dap_types.specs.declared.declarations.BaseType.TheVariants.{Byte, Int16, UInt16, Int32, UInt32, Float32, Float64, Text, Url}
use Rattle.dap_types.specs.declared.declarations.Dim.{Dim}
use Rattle.dap_types.specs.declared.values.Value.{Value}
use Rattle.dap_model.specs.Fits.{FitsArray, values_in}
use Rattle.dap_model.specs.Indexing.{indexed_tree}
use Rattle.dap_model.specs.Laws.{is_number}
use Rattle.dap_model.specs.Xdr.{padded, zeros}
use Rattle.netcdf_source.specs.Grammar.{contents, external_type, variable}
use Rattle.netcdf_source.specs.Header.{IsHeader, Stands}
use Rattle.netcdf_source.specs.Layouts.{chopped, element_at, element_sizes, in_record, slice, whole_slice}
use Rattle.netcdf_source.specs.Mapping.{dim_of, element_dimensions, has_texts, is_char_type, name_at, size_at}
use Rattle.netcdf_source.specs.Parts.{begins_with_records, end_of, is_past, is_record as is_record_in, part as part_in, past_end, record_size}
use Rattle.netcdf_source.specs.Values.{tree_of, value_of}
use Rattle.netcdf_source.specs.declared.header.Contents.{Contents}
use Rattle.netcdf_source.specs.declared.header.Dimension.{Dimension}
use Rattle.netcdf_source.specs.declared.header.Variable as source
use Rattle.netcdf_writer.proofs.Apart.{all_left, all_right}
use Rattle.netcdf_writer.proofs.DimsBack.{IsGoodDim, IsLocated}
use Rattle.netcdf_writer.proofs.FileNames.{name_back}
use Rattle.netcdf_writer.proofs.Files.{data_length}
use Rattle.netcdf_writer.proofs.HeaderBack.{header_same, header_stands}
use Rattle.netcdf_writer.proofs.Listing.{data_more, data_none}
use Rattle.netcdf_writer.proofs.Storable.{AllSet, IsSetIn, IsStorable, all_set, storable}
use Rattle.netcdf_writer.proofs.ValueBytes.{part_parts}
use Rattle.netcdf_writer.proofs.ValuesBack.{none_read, read_back, slice_is}
use Rattle.netcdf_writer.proofs.VarsBack.{base_is, begins_is, dims_in, ids_of, kind_of, laid_out, length_is}
use Rattle.netcdf_writer.specs.File.{begin, cdf, data_bytes, dimension, header_length, header_tree, id_of, listed, part_bytes, type_number, values_bytes, variable_tree, variable_trees}
use Rattle.netcdf_writer.specs.Laws.{IsReadAs, ReadsBack}
use Rattle.netcdf_writer.specs.Names.{file_name}
use Rattle.netcdf_writer.specs.Printer.{header_bytes}
use Rattle.netcdf_writer.specs.Variables.{Variable, dim_name, dims_of, fixed_bytes, is_record, part, record_bytes, room_by_itself, sizes_of, variables}
use Rattle.netcdf_writer.specs.inner.Parts.{AreFilled, IsFilled, fixed_part}
use Rattle.std.proofs.lemmas.List.Sums.{sum_by_push}
use Rattle.std.proofs.lemmas.Option.{slice_get-map}

-- what the header says
abbrev read_contents : ℕ → List Variable → Contents
read_contents front vs = record { records = 0; dimensions = dims_in vs; attributes = []; variables = map variable (variable_trees front vs [] vs) }

contents_is : (front : ℕ) (vs : List Variable) → contents (header_tree front vs) ≡ read_contents front vs
unfolding header_tree listed
contents_is front vs = refl

-- and of one variable
abbrev read_of : ℕ → List Variable → List Variable → Variable → source.Variable
read_of front all earlier v = record { name = file_name v.name; dimensions = ids_of all v; attributes = []; external_type = kind_of v; begin = begin front all earlier v }

read_is : (front : ℕ) (all earlier : List Variable) (v : Variable) → variable (variable_tree front all earlier v) ≡ read_of front all earlier v
unfolding variable_tree
read_is front all earlier v = refl

-- ---- its dimensions

dim_same : (d : Dim) (n : Option (List ℕ)) (s : ℕ) → n ≡ d.name → s ≡ d.size → Path Dim (record { name = n; size = s }) d
dim_same d n s e f = λ i. record { name = e i; size = f i }

zero_or : (n : ℕ) → (if n == 0 then 0 else n) ≡ n
zero_or n = chosen (n == 0) refl
  where
    is_zero : (n : ℕ) → (n == 0) ≡ true → n ≡ 0
    is_zero n e = grind (arith, nat_tests, e)

    chosen : (b : Bool) → (n == 0) ≡ b → (if b then 0 else n) ≡ n
    chosen true e = sym (is_zero n e)
    chosen false e = refl

size_back : (front : ℕ) (vs : List Variable) (d : Dim) → IsLocated (dims_of vs) d → size_at (read_contents front vs) (id_of (dims_of vs) d) ≡ d.size
size_back front vs d so = ap (λ n. if n == 0 then 0 else n) (length_is (dims_of vs) d so) ∙ zero_or d.size

name_read : (front : ℕ) (vs : List Variable) (d : Dim) → IsLocated (dims_of vs) d → name_at (read_contents front vs) (id_of (dims_of vs) d) ≡ file_name (dim_name d)
unfolding name_at
name_read front vs d so = ap (λ (o : Option Dimension). option_map_or (λ e. e.name) o []) (slice_get-map dimension (dims_of vs) (id_of (dims_of vs) d) ∙ ap (option_map dimension) so.get) ∙ ap file_name so.name

dim_back : (front : ℕ) (vs : List Variable) (d : Dim) → IsLocated (dims_of vs) d → IsGoodDim d → dim_of (read_contents front vs) (id_of (dims_of vs) d) ≡ d
dim_back front vs d so good =
    dim_same d (Some (file_id (name_at (read_contents front vs) (id_of (dims_of vs) d)))) (size_at (read_contents front vs) (id_of (dims_of vs) d))
    (ap (λ n. Some (file_id n)) (name_read front vs d so) ∙ ap Some (name_back (dim_name d) good.file) ∙ sym good.named) (size_back front vs d so)

dims_back : (front : ℕ) (vs : List Variable) (dims : List Dim) → AllByRecursion (IsLocated (dims_of vs)) dims → AllByRecursion IsGoodDim dims → map (dim_of (read_contents front vs)) (map (id_of (dims_of vs)) dims) ≡ dims
dims_back front vs [] so good = refl
dims_back front vs (d ∷ dims) so good =
    ap (λ e. e ∷ map (dim_of (read_contents front vs)) (map (id_of (dims_of vs)) dims)) (dim_back front vs d so.0 good.0) ∙ ap (λ l. d ∷ l) (dims_back front vs dims so.1 good.1)

sizes_back : (front : ℕ) (vs : List Variable) (dims : List Dim) → AllByRecursion (IsLocated (dims_of vs)) dims → map (size_at (read_contents front vs)) (map (id_of (dims_of vs)) dims) ≡ map (λ d. d.size) dims
sizes_back front vs [] so = refl
sizes_back front vs (d ∷ dims) so = ap (λ n. n ∷ map (size_at (read_contents front vs)) (map (id_of (dims_of vs)) dims)) (size_back front vs d so.0) ∙ ap (λ l. d.size ∷ l) (sizes_back front vs dims so.1)

not_char : (base : BaseType) → is_number base ≡ true → is_char_type (external_type (type_number base)) ≡ false
not_char Byte e = refl
not_char Int16 e = refl
not_char UInt16 e = refl
not_char Int32 e = refl
not_char UInt32 e = refl
not_char Float32 e = refl
not_char Float64 e = refl
not_char Text e = cc
not_char Url e = cc

pub all_dimensions : (c : Contents) (r : source.Variable) → is_char_type r.external_type ≡ false → element_dimensions c r ≡ r.dimensions
unfolding element_dimensions has_texts
all_dimensions c r e = rw e refl

-- ---- its values

data_both : (us vs : List Variable) → data_bytes (us ++ vs) ≡ data_bytes us ++ data_bytes vs
data_both [] vs = ap (λ l. l ++ data_bytes vs) (sym data_none)
data_both (u ∷ us) vs =
    data_more u (us ++ vs) ∙ ap (λ l. fixed_part u ++ l) (data_both us vs) ∙ sym (append_assoc (fixed_part u) (data_bytes us) (data_bytes vs)) ∙ ap (λ l. l ++ data_bytes vs) (sym (data_more u us))

filled_split : (us vs : List Variable) → AreFilled (us ++ vs) → AreFilled us × AreFilled vs
unfolding AreFilled
filled_split us vs all = (all_left IsFilled us vs all, all_right IsFilled us vs all)

filled_first : (v : Variable) (vs : List Variable) → AreFilled (v ∷ vs) → IsFilled v
unfolding AreFilled
filled_first v vs all = all.0

begin_fixed : (front : ℕ) (all earlier : List Variable) (v : Variable) → is_record v ≡ false → begin front all earlier v ≡ front + fixed_bytes earlier
unfolding begin
begin_fixed front all earlier v e = ap (λ b. if b then front + fixed_bytes all + record_bytes earlier else front + fixed_bytes earlier) e

part_fixed : (v : Variable) → is_record v ≡ false → fixed_part v ≡ values_bytes v.base (values_in v.tree) ++ zeros (length (values_bytes v.base (values_in v.tree)))
part_fixed v e = ap (λ b. if b then [] else part_bytes v) e ∙ part_parts v

bytes_back : (header : List ℕ) (all earlier vs : List Variable) (v : Variable) → all ≡ earlier ++ v ∷ vs → AreFilled all → is_record v ≡ false
    → slice (header ++ data_bytes all) (begin (length header) all earlier v) (part v) ≡ values_bytes v.base (values_in v.tree)
bytes_back header all earlier vs v is filled single =
    let own = values_bytes v.base (values_in v.tree) in
    let both = filled_split earlier (v ∷ vs) (subst AreFilled is filled) in
    let laid : data_bytes all ≡ data_bytes earlier ++ (own ++ (zeros (length own) ++ data_bytes vs)) =
    ap data_bytes is ∙ data_both earlier (v ∷ vs) ∙ ap (λ l. data_bytes earlier ++ l) (data_more v vs ∙ ap (λ l. l ++ data_bytes vs) (part_fixed v single) ∙ append_assoc own (zeros (length own)) (data_bytes vs)) in
    let parts : header ++ data_bytes all ≡ (header ++ data_bytes earlier) ++ (own ++ (zeros (length own) ++ data_bytes vs)) =
    ap (λ l. header ++ l) laid ∙ sym (append_assoc header (data_bytes earlier) (own ++ (zeros (length own) ++ data_bytes vs))) in
    let start : length (header ++ data_bytes earlier) ≡ begin (length header) all earlier v =
    length-append header (data_bytes earlier) ∙ ap (λ n. length header + n) (data_length earlier both.0) ∙ sym (begin_fixed (length header) all earlier v single) in
    slice_is (header ++ data_bytes all) (header ++ data_bytes earlier) own (zeros (length own) ++ data_bytes vs) (begin (length header) all earlier v) (part v) parts start (filled_first v vs both.1 single).0

none_of : (base : BaseType) (ns : List ℕ) (t : Tree) (at : List ℕ → Value) → begins_with_records ns ≡ true → FitsArray base ns t → indexed_tree ns at ≡ t
none_of base [] t at e fit = cc e
none_of base (n ∷ ns) t at e fit =
    let z : n ≡ 0 = grind (arith, nat_tests, e) in
    subst (λ k. FitsArray base (k ∷ ns) t → indexed_tree (k ∷ ns) at ≡ t) (sym z) (none_read base ns t at) fit

-- the values by their sizes, their place among records or not, and their bytes
abbrev shaped : Contents → List ℕ → source.Variable → List ℕ → Bool → List ℕ → Tree
shaped c file r ns over bytes = indexed_tree ns (λ is. value_of r.external_type (if over then in_record c file r is else chopped ns is bytes))

tree_parts : (c : Contents) (file : List ℕ) (r : source.Variable) → tree_of c file r ≡ shaped c file r (element_sizes c r) (is_record_in c.dimensions r.dimensions) (whole_slice c file r)
unfolding tree_of element_at
tree_parts c file r = refl

tree_back : (header : List ℕ) (all earlier vs : List Variable) (v : Variable) → all ≡ earlier ++ v ∷ vs → AreFilled all → IsSetIn all earlier v
    → tree_of (read_contents (length header) all) (header ++ data_bytes all) (read_of (length header) all earlier v) ≡ v.tree
tree_back header all earlier vs v is filled so =
    let file = header ++ data_bytes all in
    let c = read_contents (length header) all in
    let r = read_of (length header) all earlier v in
    let out = laid_out all earlier v so in
    let ns : element_sizes c r ≡ sizes_of v = ap (map (size_at c)) (all_dimensions c r (not_char v.base so.good.number)) ∙ sizes_back (length header) all v.dims so.located in
    tree_parts c file r ∙ ap (λ l. shaped c file r l (is_record_in (dims_in all) (ids_of all v)) (whole_slice c file r)) ns ∙ ap (λ b. shaped c file r (sizes_of v) b (whole_slice c file r)) out.over_records
    ∙ chosen file c r out.own_part (is_record v) refl
  where
    chosen : (file : List ℕ) (c : Contents) (r : source.Variable) → part_in (dims_in all) (ids_of all v) (kind_of v) ≡ part v → (b : Bool) → is_record v ≡ b
        → shaped (read_contents (length header) all) (header ++ data_bytes all) (read_of (length header) all earlier v) (sizes_of v) b (whole_slice (read_contents (length header) all) (header ++ data_bytes all) (read_of (length header) all earlier v)) ≡ v.tree
    chosen file c r own true e = none_of v.base (sizes_of v) v.tree _ (begins_is v so.single.first ∙ e) so.good.fits
    chosen file c r own false e =
        ap (λ n. shaped (read_contents (length header) all) (header ++ data_bytes all) (read_of (length header) all earlier v) (sizes_of v) false (slice (header ++ data_bytes all) (begin (length header) all earlier v) n)) own
        ∙ read_back v.base (sizes_of v) so.good.number v.tree (slice (header ++ data_bytes all) (begin (length header) all earlier v) (part v)) so.good.fits (bytes_back header all earlier vs v is filled e)

read_as : (header : List ℕ) (all earlier vs : List Variable) (v : Variable) → all ≡ earlier ++ v ∷ vs → AreFilled all → IsSetIn all earlier v
    → IsReadAs (read_contents (length header) all) (header ++ data_bytes all) (read_of (length header) all earlier v) v
read_as header all earlier vs v is filled so = record {
  name = name_back v.name so.good.file;
  base = base_is v.base so.good.number;
  dims = dims_back (length header) all v.dims so.located so.good.dims;
  tree = tree_back header all earlier vs v is filled so;
}

-- ---- its end

end_is : (c : Contents) (r : source.Variable) → c.records ≡ 0 → end_of c r ≡ r.begin + part_in c.dimensions r.dimensions r.external_type
unfolding end_of
end_is c r none = ap (λ n. r.begin + n * record_size c.dimensions c.variables + part_in c.dimensions r.dimensions r.external_type) (before (is_record_in c.dimensions r.dimensions) none) ∙ omega arith
  where
    before : (b : Bool) → c.records ≡ 0 → (if b then c.records - 1 else 0) ≡ 0
    before true e = omega (arith, e)
    before false e = refl

padded_part : (v : Variable) → is_record v ≡ false → room_by_itself v ≡ part v + (room_by_itself v - part v)
padded_part v e = let own : room_by_itself v ≡ padded (part v) = ap (λ r. if r then 0 else padded (part v)) e in omega (arith, own)

not_past : (front len : ℕ) (all earlier : List Variable) (v : Variable) → IsSetIn all earlier v → len ≡ front + fixed_bytes all → is_past (read_contents front all) len (read_of front all earlier v) ≡ false
not_past front len all earlier v so is =
    let c = read_contents front all in
    let r = read_of front all earlier v in
    let out = laid_out all earlier v so in
    ap (λ b. not (b && true) && nat_lt len (end_of c r)) out.over_records ∙ chosen (is_record v) refl (end_is c r refl ∙ ap (λ n. begin front all earlier v + n) out.own_part)
  where
    within : (n m : ℕ) → m ≤ n → nat_lt n m ≡ false
    within n m le = grind (arith, nat_tests, le)

    chosen : (b : Bool) → is_record v ≡ b → end_of (read_contents front all) (read_of front all earlier v) ≡ begin front all earlier v + part v → (not (b && true) && nat_lt len (end_of (read_contents front all) (read_of front all earlier v))) ≡ false
    chosen true e end = refl
    chosen false e end =
        let sum = sum_by_push room_by_itself earlier v in
        let own : room_by_itself v ≡ part v + (room_by_itself v - part v) = padded_part v e in
        let fixed = so.fixed in
        let start = begin_fixed front all earlier v e in
        within len (end_of (read_contents front all) (read_of front all earlier v)) (omega (arith, is, end, sum, own, fixed, start))

-- ---- all of it

none_from : {X : Type 0} (p : X → Bool) (i : ℕ) (xs : List X) → AllByRecursion (λ x. p x ≡ false) xs → position_from p i xs ≡ None
none_from p i [] all = refl
none_from p i (x ∷ xs) all = rw all.0 (none_from p (i + 1) xs all.1)

none_past : (front len : ℕ) (all earlier vs : List Variable) → AllSet all earlier vs → len ≡ front + fixed_bytes all → AllByRecursion (λ r. is_past (read_contents front all) len r ≡ false) (map variable (variable_trees front all earlier vs))
unfolding variable_trees
none_past front len all earlier [] set is = tt
none_past front len all earlier (v ∷ vs) set is =
    (ap (is_past (read_contents front all) len) (read_is front all earlier v) ∙ not_past front len all earlier v set.0 is, none_past front len all (earlier ++ v ∷ []) vs set.1 is)

all_read : (header : List ℕ) (all earlier vs : List Variable) → all ≡ earlier ++ vs → AreFilled all → AllSet all earlier vs
    → AllZip (IsReadAs (read_contents (length header) all) (header ++ data_bytes all)) (map variable (variable_trees (length header) all earlier vs)) vs
unfolding variable_trees
all_read header all earlier [] is filled set = tt
all_read header all earlier (v ∷ vs) is filled set = (
  subst (λ r. IsReadAs (read_contents (length header) all) (header ++ data_bytes all) r v) (sym (read_is (length header) all earlier v)) (read_as header all earlier vs v is filled set.0),
  all_read header all (earlier ++ v ∷ []) vs (is ∙ sym (append_assoc earlier (v ∷ []) vs)) filled set.1,
)

front_of : (xs ys : List ℕ) (n : ℕ) → length xs ≤ n → (rest : List ℕ) × (take n (xs ++ ys) ≡ xs ++ rest)
front_of [] ys n le = (take n ys, refl)
front_of (x ∷ xs) ys zero le = absurd (omega (arith, le))
front_of (x ∷ xs) ys (suc n) le = let (rest, is) = front_of xs ys n (omega (arith, le)) in (rest, ap (λ l. x ∷ l) is)

cdf_parts : (vs : List Variable) → cdf vs ≡ header_bytes (header_tree (header_length vs) vs) ++ data_bytes vs
unfolding cdf
cdf_parts vs = refl

past_none : (c : Contents) (len : ℕ) → position_from (is_past c len) 1 c.variables ≡ None → past_end c len ≡ None
unfolding past_end
past_none c len e = e

pub file_read : (vs : List Variable) → IsStorable vs
    → (c : Contents) × IsHeader c (take most_header (cdf vs)) (length (cdf vs)) × AllZip (IsReadAs c (cdf vs)) c.variables vs
file_read vs so =
    let front = header_length vs in
    let header = header_bytes (header_tree front vs) in
    let same : length header ≡ front = header_same front vs in
    let few = so.short in
    let file : cdf vs ≡ header ++ data_bytes vs = cdf_parts vs in
    let long : length (cdf vs) ≡ front + fixed_bytes vs = ap length file ∙ length-append header (data_bytes vs) ∙ ap (λ n. n + length (data_bytes vs)) same ∙ ap (λ n. front + n) (data_length vs so.filled) in
    let cut = front_of header (data_bytes vs) most_header (omega (arith, same, few)) in
    let stands = header_stands front vs cut.0 few so in (
      read_contents front vs,
      (
        header_tree front vs,
        cut.0,
        subst (λ l. Stands (header_tree front vs) l (Ok cut.0)) (sym (ap (take most_header) file ∙ cut.1)) stands,
        contents_is front vs,
        past_none (read_contents front vs) (length (cdf vs)) (none_from (is_past (read_contents front vs) (length (cdf vs))) 1 (map variable (variable_trees front vs [] vs)) (none_past front (length (cdf vs)) vs [] vs (all_set vs so) long)),
      ),
      subst (λ n. AllZip (IsReadAs (read_contents n vs) (cdf vs)) (map variable (variable_trees n vs [] vs)) vs) same
          (subst (λ l. AllZip (IsReadAs (read_contents (length header) vs) l) (map variable (variable_trees (length header) vs [] vs)) vs) (sym file) (all_read header vs [] vs refl so.filled (all_set vs so))),
    )

pub reads_back : ReadsBack
reads_back d ts small savable = file_read (variables d ts) (storable d ts small savable)
