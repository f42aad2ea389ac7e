-- The bytes of a header in the order in which they are put.
use Rattle.std.proofs.Common.{◌≡◌, ℕ, ◌+◌, ◌<◌, ◌≤◌, ◌^◌, Bool, true, false, List, [], ◌∷◌, ◌++◌, map, length, take, drop, get_or, flat_map, sum_by, ◌==◌, refl, ap, sym, ◌∙◌, append-nil, append_assoc, arith, if◌then◌else◌, Bor, le-ltb, lt-ltb}
use Rattle.std.proofs.lemmas.Grind.{flat_map-append}
use Rattle.std.proofs.lemmas.List.{length-map}
use Rattle.std.proofs.lemmas.List.Folds.{flat_map-map}
use Rattle.std.proofs.lemmas.List.Sums.{sum_by-append, sum_by-cons, sum_by_push}
use Rattle.std.specs.Option.{option_map_or}
use Rattle.dap_model.specs.Xdr.{word}
use Rattle.dap_types.specs.declared.declarations.Dim.{Dim}
use Rattle.netcdf_source.specs.Grammar.{VariableTree}
use Rattle.netcdf_source.specs.Header.{magic}
use Rattle.netcdf_source.specs.Versions.{number_bytes, number_width, place_width}
use Rattle.netcdf_source.specs.declared.version.Width.{Width}
use Rattle.netcdf_writer.specs.File.{absent, begin, dimension, header_length, header_tree, id_of, is_five, is_header_too_long, listed, type_number, variable_tree, variable_trees, version_if}
use Rattle.netcdf_writer.specs.Names.{file_name}
use Rattle.netcdf_writer.specs.Printer.{attribute_bytes, dimension_bytes, header_bytes, ids_bytes, list_bytes, name_bytes, variable_bytes}
use Rattle.netcdf_writer.specs.Variables.{Variable, all_dims, dim_name, dims_of, first_uses, fixed_bytes, is_record, record_bytes, room, room_by_itself, room_in_record}
use Rattle.netcdf_writer.specs.inner.Planned.{AreDims, number_in}
use Rattle.netcdf_writer.specs.inner.Printing.{head_bytes, placed_bytes, width_if}
use Rattle.netcdf_writer.specs.inner.Tables.{under, variable_view, variable_views}
use Rattle.netcdf_writer.specs.declared.dims.Dims.{Dims}
use Rattle.netcdf_writer.specs.declared.dims.Known.{Known}
use Rattle.netcdf_writer.specs.declared.header.Place.{Place}
use Rattle.netcdf_writer.specs.declared.lent.Lent.{Lent}
use Rattle.netcdf_writer.proofs.Listing.{views_more}
use Rattle.netcdf_writer.proofs.Planning.{or_of_map}
use Rattle.netcdf_writer.proofs.Walks.{views_split}

number_width_if : (five : Bool) → number_width (version_if five) ≡ width_if five
number_width_if true = refl
number_width_if false = refl

place_width_if : (five : Bool) → place_width (version_if five) ≡ width_if five
place_width_if true = refl
place_width_if false = refl

-- ---- lists

pub listed_bytes : {X : Type 0} (w : Width) (item : X → List ℕ) (tag : ℕ) (xs : List X) (n : ℕ) → length xs ≡ n → list_bytes w item (listed tag xs) ≡ head_bytes w tag n ++ flat_map item xs
unfolding list_bytes listed head_bytes
listed_bytes w item tag xs n is = ap (λ k. (word (if k == 0 then 0 else tag) ++ number_bytes w k) ++ flat_map item xs) is

absent_bytes : (w : Width) → list_bytes w (attribute_bytes w) absent ≡ head_bytes w 0 0
unfolding list_bytes head_bytes
absent_bytes w = append-nil (word 0 ++ number_bytes w 0)

-- ---- one variable

same_each : {X : Type 0} (f g : X → List ℕ) → ((x : X) → f x ≡ g x) → (xs : List X) → flat_map f xs ≡ flat_map g xs
same_each f g same [] = refl
same_each f g same (x ∷ xs) = ap (λ l. l ++ flat_map f xs) (same x) ∙ ap (λ l. g x ++ l) (same_each f g same xs)

numbered : (dims : Dims) (ds : List Dim) → AreDims dims ds → (d : Dim) → number_in dims d ≡ id_of (first_uses [] ds) d
numbered dims ds are d = or_of_map (λ i. i) (λ (k : Known). k.number) (under dims.known (dim_name d)) 0 ∙ ap (λ o. option_map_or (λ i. i) o 0) (are.numbers (dim_name d))

ids_are : (w : Width) (number id : Dim → ℕ) → ((d : Dim) → number d ≡ id d) → (ds : List Dim) → ids_bytes w (map id ds) ≡ number_bytes w (length ds) ++ flat_map (λ d. number_bytes w (number d)) ds
unfolding ids_bytes
ids_are w number id same ds =
    ap (λ n. number_bytes w n ++ flat_map (number_bytes w) (map id ds)) (length-map ds id)
    ∙ ap (λ l. number_bytes w (length ds) ++ l) (flat_map-map (number_bytes w) id ds ∙ sym (same_each (λ d. number_bytes w (number d)) (λ d. number_bytes w (id d)) (λ d. ap (number_bytes w) (same d)) ds))

variable_parts : (five : Bool) (t : VariableTree) → variable_bytes (version_if five) t ≡
    (name_bytes (width_if five) t.name ++ ids_bytes (width_if five) t.dimensions ++ list_bytes (width_if five) (attribute_bytes (width_if five)) t.attributes
    ++ word t.number ++ number_bytes (width_if five) t.size ++ number_bytes (width_if five) t.begin)
unfolding variable_bytes
variable_parts true t = refl
variable_parts false t = refl

tree_parts : (front : ℕ) (all earlier : List Variable) (v : Variable) → variable_tree front all earlier v ≡ record {
  name = file_name v.name;
  dimensions = map (id_of (dims_of all)) v.dims;
  attributes = absent;
  number = type_number v.base;
  size = room v;
  begin = begin front all earlier v;
}
unfolding variable_tree
tree_parts front all earlier v = refl

pub placed_is : (five : Bool) (dims : Dims) (front : ℕ) (all earlier : List Variable) (v : Variable) (place : Place) → AreDims dims (all_dims all) → place.size ≡ room v → place.begin ≡ begin front all earlier v
    → placed_bytes five (number_in dims) v place ≡ variable_bytes (version_if five) (variable_tree front all earlier v)
unfolding placed_bytes
placed_is five dims front all earlier v place are size at =
    let w = width_if five in
    let name = name_bytes w (file_name v.name) in
    let number = word (type_number v.base) in
    let ids = ids_bytes w (map (id_of (dims_of all)) v.dims) in
    ap (λ l. (((l ++ head_bytes w 0 0) ++ number) ++ number_bytes w place.size) ++ number_bytes w place.begin)
    (append_assoc name (number_bytes w (length v.dims)) (flat_map (λ d. number_bytes w (number_in dims d)) v.dims)
    ∙ ap (λ l. name ++ l) (sym (ids_are w (number_in dims) (id_of (dims_of all)) (numbered dims (all_dims all) are) v.dims)))
    ∙ ap (λ l. ((((name ++ ids) ++ l) ++ number) ++ number_bytes w place.size) ++ number_bytes w place.begin) (sym (absent_bytes w))
    ∙ ap (λ n. ((((name ++ ids) ++ list_bytes w (attribute_bytes w) absent) ++ number) ++ number_bytes w n) ++ number_bytes w place.begin) size
    ∙ ap (λ n. ((((name ++ ids) ++ list_bytes w (attribute_bytes w) absent) ++ number) ++ number_bytes w (room v)) ++ number_bytes w n) at
    ∙ sym (ap (variable_bytes (version_if five)) (tree_parts front all earlier v) ∙ variable_parts five _)

-- ---- all variables

trees_more : (front : ℕ) (all earlier us vs : List Variable) → variable_trees front all earlier (us ++ vs) ≡ variable_trees front all earlier us ++ variable_trees front all (earlier ++ us) vs
unfolding variable_trees
trees_more front all earlier [] vs = ap (λ l. variable_trees front all l vs) (sym (append-nil earlier))
trees_more front all earlier (u ∷ us) vs =
    ap (λ l. variable_tree front all earlier u ∷ l) (trees_more front all (earlier ++ u ∷ []) us vs ∙ ap (λ l. variable_trees front all (earlier ++ u ∷ []) us ++ variable_trees front all l vs) (append_assoc earlier (u ∷ []) us))

trees_here : (front : ℕ) (all earlier : List Variable) (v : Variable) → variable_trees front all earlier (v ∷ []) ≡ variable_tree front all earlier v ∷ []
unfolding variable_trees
trees_here front all earlier v = refl

pub no_trees : (front : ℕ) (all earlier : List Variable) → variable_trees front all earlier [] ≡ []
unfolding variable_trees
no_trees front all earlier = refl

pub length-trees : (front : ℕ) (all earlier vs : List Variable) → length (variable_trees front all earlier vs) ≡ length vs
unfolding variable_trees
length-trees front all earlier [] = refl
length-trees front all earlier (v ∷ vs) = lengths (length-trees front all (earlier ++ v ∷ []) vs)
  where
    lengths : length (variable_trees front all (earlier ++ v ∷ []) vs) ≡ length vs → length (variable_tree front all earlier v ∷ variable_trees front all (earlier ++ v ∷ []) vs) ≡ length (v ∷ vs)
    lengths e = omega (arith, e)

-- one more variable is put
pub one_more_put : (five : Bool) (front : ℕ) (all us now : List Variable) (v : Variable) (old out new put : List ℕ) → out ≡ old ++ flat_map (variable_bytes (version_if five)) (variable_trees front all [] us)
    → new ≡ out ++ put → put ≡ variable_bytes (version_if five) (variable_tree front all us v) → now ≡ us ++ v ∷ [] → new ≡ old ++ flat_map (variable_bytes (version_if five)) (variable_trees front all [] now)
one_more_put five front all us now v old out new put so more is views =
    let each = variable_bytes (version_if five) in
    more ∙ ap (λ l. out ++ l) is ∙ ap (λ l. l ++ each (variable_tree front all us v)) so
    ∙ append_assoc old (flat_map each (variable_trees front all [] us)) (each (variable_tree front all us v))
    ∙ ap (λ l. old ++ (flat_map each (variable_trees front all [] us) ++ l)) (sym (append-nil (each (variable_tree front all us v))) ∙ sym (ap (flat_map each) (trees_here front all us v)))
    ∙ ap (λ l. old ++ l) (sym (flat_map-append each (variable_trees front all [] us) (variable_trees front all us (v ∷ []))))
    ∙ ap (λ l. old ++ flat_map each l) (sym (trees_more front all [] us (v ∷ []))) ∙ ap (λ l. old ++ flat_map each (variable_trees front all [] l)) (sym views)

-- ---- sums so far

summed : (f : Variable → ℕ) (vs : List Lent) (i : ℕ) (v : Lent) → i < length vs → v ≡ get_or vs i v
    → (sum_by f (variable_views (take (i + 1) vs)) ≡ sum_by f (variable_views (take i vs)) + f (variable_view v)) × (sum_by f (variable_views (take i vs)) + f (variable_view v) ≤ sum_by f (variable_views vs))
summed f vs i v lt is =
    let all : sum_by f (variable_views vs) ≡ sum_by f (variable_views (take i vs)) + sum_by f (variable_view v ∷ variable_views (drop (i + 1) vs)) =
    ap (sum_by f) (views_split vs i v lt is) ∙ sum_by-append f (variable_views (take i vs)) (variable_view v ∷ variable_views (drop (i + 1) vs)) in
    let here = sum_by-cons f (variable_view v) (variable_views (drop (i + 1) vs)) in
    (ap (sum_by f) (views_more vs i v lt is) ∙ sum_by_push f (variable_views (take i vs)) (variable_view v), omega (arith, all, here))

pub fixed_summed : (vs : List Lent) (i : ℕ) (v : Lent) → i < length vs → v ≡ get_or vs i v
    → (fixed_bytes (variable_views (take (i + 1) vs)) ≡ fixed_bytes (variable_views (take i vs)) + room_by_itself (variable_view v)) × (fixed_bytes (variable_views (take i vs)) + room_by_itself (variable_view v) ≤ fixed_bytes (variable_views vs))
fixed_summed vs i v lt is = summed room_by_itself vs i v lt is

pub records_summed : (vs : List Lent) (i : ℕ) (v : Lent) → i < length vs → v ≡ get_or vs i v
    → (record_bytes (variable_views (take (i + 1) vs)) ≡ record_bytes (variable_views (take i vs)) + room_in_record (variable_view v)) × (record_bytes (variable_views (take i vs)) + room_in_record (variable_view v) ≤ record_bytes (variable_views vs))
records_summed vs i v lt is = summed room_in_record vs i v lt is

pub room_within : (v : Variable) → room_by_itself v < 2 ^ 32 → room_in_record v < 2 ^ 32 → room v < 2 ^ 32
room_within v a b = chosen (is_record v) a b
  where
    chosen : (r : Bool) → (if r then 0 else room v) < 2 ^ 32 → (if r then room v else 0) < 2 ^ 32 → room v < 2 ^ 32
    chosen true p q = q
    chosen false p q = p

pub begins : (front : ℕ) (all earlier : List Variable) (v : Variable) (fixed records at : ℕ) → fixed ≡ front + fixed_bytes earlier → records ≡ front + fixed_bytes all + record_bytes earlier
    → at ≡ (if is_record v then records else fixed) → at ≡ begin front all earlier v
unfolding begin
begins front all earlier v fixed records at is so e = e ∙ ap (λ n. if is_record v then n else fixed) so ∙ ap (λ n. if is_record v then front + fixed_bytes all + record_bytes earlier else n) is

-- ---- the whole header

dims_flat : (w : Width) (bs : List (Bor Dim)) → flat_map (λ (d : Bor Dim). dimension_bytes w (dimension d.now)) bs ≡ flat_map (dimension_bytes w) (map dimension (map (λ d. d.now) bs))
dims_flat w bs = sym (flat_map-map (dimension_bytes w) dimension (map (λ (d : Bor Dim). d.now) bs) ∙ flat_map-map (λ d. dimension_bytes w (dimension d)) (λ (d : Bor Dim). d.now) bs)

laid : (w : Width) (first : List ℕ) (bs : List (Bor Dim)) (ds : List Dim) (n m : ℕ) (each : VariableTree → List ℕ) (trees : List VariableTree) → map (λ d. d.now) bs ≡ ds → n ≡ length bs → length trees ≡ m
    → ((((first ++ head_bytes w 10 n) ++ flat_map (λ (d : Bor Dim). dimension_bytes w (dimension d.now)) bs) ++ head_bytes w 0 0) ++ head_bytes w 11 m) ++ flat_map each trees
    ≡ ((first ++ list_bytes w (dimension_bytes w) (listed 10 (map dimension ds))) ++ list_bytes w (attribute_bytes w) absent) ++ list_bytes w each (listed 11 trees)
laid w first bs ds n m each trees is count many =
    let own = flat_map (λ (d : Bor Dim). dimension_bytes w (dimension d.now)) bs in
    let number : length (map dimension ds) ≡ n = length-map ds dimension ∙ ap length (sym is) ∙ length-map bs (λ (d : Bor Dim). d.now) ∙ sym count in
    let listing = list_bytes w (dimension_bytes w) (listed 10 (map dimension ds)) in
    ap (λ l. ((l ++ head_bytes w 0 0) ++ head_bytes w 11 m) ++ flat_map each trees)
    (append_assoc first (head_bytes w 10 n) own ∙ ap (λ l. first ++ (head_bytes w 10 n ++ l)) (dims_flat w bs ∙ ap (λ l. flat_map (dimension_bytes w) (map dimension l)) is)
    ∙ ap (λ l. first ++ l) (sym (listed_bytes w (dimension_bytes w) 10 (map dimension ds) n number)))
    ∙ ap (λ l. (((first ++ listing) ++ l) ++ head_bytes w 11 m) ++ flat_map each trees) (sym (absent_bytes w))
    ∙ append_assoc ((first ++ listing) ++ list_bytes w (attribute_bytes w) absent) (head_bytes w 11 m) (flat_map each trees)
    ∙ ap (λ l. ((first ++ listing) ++ list_bytes w (attribute_bytes w) absent) ++ l) (sym (listed_bytes w each 11 trees m many))

-- the same for each of the two versions
header_if : (five : Bool) (front : ℕ) (vs : List Variable) → is_five vs ≡ five → header_bytes (header_tree front vs) ≡
    (((magic (version_if five) ++ number_bytes (width_if five) 0) ++ list_bytes (width_if five) (dimension_bytes (width_if five)) (listed 10 (map dimension (dims_of vs))))
    ++ list_bytes (width_if five) (attribute_bytes (width_if five)) absent) ++ list_bytes (width_if five) (variable_bytes (version_if five)) (listed 11 (variable_trees front vs [] vs))
unfolding header_bytes header_tree
header_if five front vs is = ap shown is ∙ sides five
  where
    shown : Bool → List ℕ
    shown b = (((magic (version_if b) ++ number_bytes (number_width (version_if b)) 0) ++ list_bytes (number_width (version_if b)) (dimension_bytes (number_width (version_if b))) (listed 10 (map dimension (dims_of vs))))
        ++ list_bytes (number_width (version_if b)) (attribute_bytes (number_width (version_if b))) absent) ++ list_bytes (number_width (version_if b)) (variable_bytes (version_if b)) (listed 11 (variable_trees front vs [] vs))

    sides : (b : Bool) → shown b ≡ (((magic (version_if b) ++ number_bytes (width_if b) 0) ++ list_bytes (width_if b) (dimension_bytes (width_if b)) (listed 10 (map dimension (dims_of vs))))
        ++ list_bytes (width_if b) (attribute_bytes (width_if b)) absent) ++ list_bytes (width_if b) (variable_bytes (version_if b)) (listed 11 (variable_trees front vs [] vs))
    sides true = refl
    sides false = refl

pub header_parts : (front : ℕ) (vs : List Variable) (dims : Dims) (five : Bool) (n m : ℕ) → five ≡ is_five vs → AreDims dims (all_dims vs) → n ≡ length dims.list.items → length vs ≡ m
    → (((((magic (version_if five) ++ number_bytes (width_if five) 0) ++ head_bytes (width_if five) 10 n) ++ flat_map (λ (d : Bor Dim). dimension_bytes (width_if five) (dimension d.now)) dims.list.items)
    ++ head_bytes (width_if five) 0 0) ++ head_bytes (width_if five) 11 m) ++ flat_map (variable_bytes (version_if five)) (variable_trees front vs [] vs)
    ≡ header_bytes (header_tree front vs)
header_parts front vs dims five n m is are a b =
    laid (width_if five) (magic (version_if five) ++ number_bytes (width_if five) 0) dims.list.items (dims_of vs) n m (variable_bytes (version_if five)) (variable_trees front vs [] vs) are.list a (length-trees front vs [] vs ∙ b)
    ∙ sym (header_if five front vs (sym is))

glue : (o m n a b : List ℕ) → m ≡ o ++ a → n ≡ m ++ b → n ≡ o ++ (a ++ b)
glue o m n a b e f = f ∙ ap (λ l. l ++ b) e ∙ append_assoc o a b

pub seven_put : (o p q r s t u v a b c d e f g all : List ℕ) → p ≡ o ++ a → q ≡ p ++ b → r ≡ q ++ c → s ≡ r ++ d → t ≡ s ++ e → u ≡ t ++ f → v ≡ u ++ g
    → (((((a ++ b) ++ c) ++ d) ++ e) ++ f) ++ g ≡ all → v ≡ o ++ all
seven_put o p q r s t u v a b c d e f g all ea eb ec ed ee ef eg is =
    glue o u v _ g (glue o t u _ f (glue o s t _ e (glue o r s _ d (glue o q r _ c (glue o p q a b ea eb) ec) ed) ee) ef) eg ∙ ap (λ l. o ++ l) is

-- ---- its length

pub header_too_long : (vs : List Variable) (bytes : List ℕ) → bytes ≡ header_bytes (header_tree 0 vs) → 1048576 < length bytes → is_header_too_long vs ≡ true
unfolding is_header_too_long header_length
header_too_long vs bytes is lt = let e : length bytes ≡ length (header_bytes (header_tree 0 vs)) = ap length is in lt-ltb 1048576 (length (header_bytes (header_tree 0 vs))) (omega (arith, e, lt))

pub header_fits : (vs : List Variable) (bytes : List ℕ) → bytes ≡ header_bytes (header_tree 0 vs) → length bytes ≤ 1048576 → is_header_too_long vs ≡ false
unfolding is_header_too_long header_length
header_fits vs bytes is le = let e : length bytes ≡ length (header_bytes (header_tree 0 vs)) = ap length is in le-ltb 1048576 (length (header_bytes (header_tree 0 vs))) (omega (arith, e, le))

pub header_again : (vs : List Variable) (bytes new : List ℕ) → bytes ≡ header_bytes (header_tree 0 vs) → new ≡ header_bytes (header_tree (length bytes) vs) → new ≡ header_bytes (header_tree (header_length vs) vs)
unfolding header_length
header_again vs bytes new is so = so ∙ ap (λ b. header_bytes (header_tree (length b) vs)) is

pub put_first : (old new bytes : List ℕ) → old ≡ [] → new ≡ old ++ bytes → new ≡ bytes
put_first old new bytes none is = is ∙ ap (λ l. l ++ bytes) none
