-- The bytes of the values of a variable, read again.
use Rattle.std.proofs.Common.{◌≡◌, ℕ, ℤ, pos, negsuc, ◌+◌, ◌*◌, ◌/◌, ◌%◌, ◌^◌, ◌<◌, true, List, [], ◌∷◌, ◌++◌, length, map, take, drop, All, refl, ap, sym, ◌∙◌, arith, append_assoc, length-append}
use Rattle.std.specs.Prelude.{◌≤ℤ◌, ◌<ℤ◌, neg_ℤ}
use Rattle.std.proofs.lemmas.Int.{ints, to_z-of_z}
use Rattle.std.proofs.lemmas.Nat.{from_be_bytes-to_be_bytes_4, from_be_bytes-to_be_bytes_8}
use Rattle.std.proofs.Math.Nat.{mul-div_cancel_left}
use Rattle.std.specs.Int.{to_be_bytes, from_be_bytes, cast_signed, cast_unsigned, w8, w16, w32, w64}
use Rattle.std.specs.List.{range_with_len}
use Rattle.dap_model.proofs.Whole.{trees_of-items}
use mir.Val.{SFits}
use Rattle.dap_types.specs.Model.{Tree, one, many, Trees, no_trees, tree, items, product, trees_of}
use Rattle.dap_types.specs.declared.declarations.BaseType.{BaseType}
use Rattle.dap_types.specs.declared.declarations.BaseType.TheVariants.{Byte, Int16, UInt16, Int32, UInt32, Float32, Float64, Text, Url}
use Rattle.dap_types.specs.declared.values.Value.{Value}
use Rattle.dap_types.specs.declared.values.Value.TheVariants as values
use Rattle.dap_model.proofs.Values.{all_first, all_rest, length-values_in, values_of_fit}
use Rattle.dap_model.specs.Cutting.{array_tree}
use Rattle.dap_model.specs.Fits.{FitsArray, IsOf, values_in, values_in_all}
use Rattle.dap_model.specs.Indexing.{by_index, indexed_tree}
use Rattle.dap_model.specs.Laws.{is_number}
use Rattle.netcdf_source.specs.Grammar.{external_type}
use Rattle.netcdf_source.specs.Layouts.{chopped, piece, slice}
use Rattle.netcdf_source.specs.Values.{value_of}
use Rattle.netcdf_writer.specs.File.{type_number, value_bytes, values_bytes}
use Rattle.netcdf_writer.specs.Variables.{width_of}
use Rattle.netcdf_writer.proofs.Fitting.{values_length}
use Rattle.netcdf_writer.proofs.ValueBytes.{values-append, values-one}

-- ---- one value

low_1 : (n : ℕ) → n < 256 → from_be_bytes w8 (drop 7 (to_be_bytes w64 n)) ≡ n
low_1 n few = omega arith

low_2 : (n : ℕ) → from_be_bytes w16 (drop 6 (to_be_bytes w64 n)) ≡ n % 65536
low_2 n = omega arith

low_4 : (n : ℕ) → n < 2 ^ 32 → from_be_bytes w32 (drop 4 (to_be_bytes w64 n)) ≡ n
low_4 n few = from_be_bytes-to_be_bytes_4 n few

digits : (a b c d n p q r s : ℕ) → n ≡ a + p * 256 → p ≡ b + q * 256 → q ≡ c + r * 256 → r ≡ d + s * 256 → a < 256 → b < 256 → c < 256 → d < 256 → d * 16777216 + c * 65536 + b * 256 + a ≡ n % 4294967296
digits a b c d n p q r s first second third fourth fa fb fc fd = omega arith

byte_and_rest : (n p q : ℕ) → n / p / 256 ≡ n / q → n / p ≡ n / p % 256 + n / q * 256
byte_and_rest n p q is = omega (arith, is)

low_4_of : (n : ℕ) → from_be_bytes w32 (drop 4 (to_be_bytes w64 n)) ≡ n % 4294967296
low_4_of n =
    digits (n % 256) (n / 256 % 256) (n / 65536 % 256) (n / 16777216 % 256) n (n / 256) (n / 65536) (n / 16777216) (n / 4294967296)
    (omega arith) (byte_and_rest n 256 65536 (omega arith)) (byte_and_rest n 65536 16777216 (omega arith)) (byte_and_rest n 16777216 4294967296 (omega arith)) (omega arith) (omega arith) (omega arith) (omega arith)

short_back : (z : ℤ) → neg_ℤ (pos (2 ^ 15)) ≤ℤ z → z <ℤ pos (2 ^ 15) → (cast_unsigned w64 z % 65536 ≡ cast_unsigned w16 z) × SFits w16 z
short_back (pos n) low high = (omega (arith, ints), record { sfits = omega (arith, ints) })
short_back (negsuc n) low high = (omega (arith, ints), record { sfits = omega (arith, ints) })

int_back : (z : ℤ) → neg_ℤ (pos (2 ^ 31)) ≤ℤ z → z <ℤ pos (2 ^ 31) → (cast_unsigned w64 z % 4294967296 ≡ cast_unsigned w32 z) × SFits w32 z
int_back (pos n) low high = (omega (arith, ints), record { sfits = omega (arith, ints) })
int_back (negsuc n) low high = (omega (arith, ints), record { sfits = omega (arith, ints) })

pub value_back : (base : BaseType) (v : Value) → is_number base ≡ true → IsOf base v → value_of (external_type (type_number base)) (value_bytes base v) ≡ v
value_back Byte (values.Whole (pos n)) e is = let few : n < 256 = omega (arith, ints, is.1) in ap (λ k. values.Whole (pos k)) (low_1 n few)
value_back UInt16 (values.Whole (pos n)) e is = let few : n < 65536 = omega (arith, ints, is.1) in let low = low_2 n in ap (λ k. values.Whole (pos k)) (omega (arith, low, few))
value_back UInt32 (values.Whole (pos n)) e is = let few : n < 2 ^ 32 = omega (arith, ints, is.1) in ap (λ k. values.Whole (pos k)) (low_4 n few)
value_back Int16 (values.Whole z) e is = let both = short_back z is.0 is.1 in ap (λ k. values.Whole (cast_signed w16 k)) (low_2 (cast_unsigned w64 z) ∙ both.0) ∙ ap (λ y. values.Whole y) (to_z-of_z w16 z both.1)
value_back Int32 (values.Whole z) e is = let both = int_back z is.0 is.1 in ap (λ k. values.Whole (cast_signed w32 k)) (low_4_of (cast_unsigned w64 z) ∙ both.0) ∙ ap (λ y. values.Whole y) (to_z-of_z w32 z both.1)
value_back Float32 (values.Bits32 n) e is = ap (λ k. values.Bits32 k) (from_be_bytes-to_be_bytes_4 n is)
value_back Float64 (values.Bits64 n) e is = ap (λ k. values.Bits64 k) (from_be_bytes-to_be_bytes_8 n is)
value_back Byte (values.Whole (negsuc n)) e is = absurd (omega (arith, ints, is.0))
value_back UInt16 (values.Whole (negsuc n)) e is = absurd (omega (arith, ints, is.0))
value_back UInt32 (values.Whole (negsuc n)) e is = absurd (omega (arith, ints, is.0))
value_back Text v e is = cc
value_back Url v e is = cc
value_back base v e is = absurd is

-- ---- pieces

drop_front : (front rest : List ℕ) → drop (length front) (front ++ rest) ≡ rest
drop_front [] rest = refl
drop_front (x ∷ front) rest = drop_front front rest

take_front : (front rest : List ℕ) → take (length front) (front ++ rest) ≡ front
take_front [] rest = refl
take_front (x ∷ front) rest = ap (λ l. x ∷ l) (take_front front rest)

pub slice_is : (bytes front middle rest : List ℕ) (at len : ℕ) → bytes ≡ front ++ (middle ++ rest) → length front ≡ at → length middle ≡ len → slice bytes at len ≡ middle
slice_is bytes front middle rest at len is begin long =
    ap (λ l. slice l at len) is ∙ ap (λ n. take len (drop n (front ++ (middle ++ rest)))) (sym begin) ∙ ap (take len) (drop_front front (middle ++ rest)) ∙ ap (λ n. take n (middle ++ rest)) (sym long) ∙ take_front middle rest

tree_length : (base : BaseType) (ns : List ℕ) (t : Tree) → is_number base ≡ true → FitsArray base ns t → length (values_bytes base (values_in t)) ≡ product ns * width_of base
tree_length base ns t e fit = values_length base (values_in t) e (values_of_fit base ns t fit) ∙ ap (λ n. n * width_of base) (length-values_in base ns t fit)

-- the elements of an array that begin with these indexes
abbrev Elements : BaseType → List ℕ → List ℕ → Tree
Elements base ns bytes = indexed_tree ns (λ is. value_of (external_type (type_number base)) (chopped ns is bytes))

abbrev IsRead : BaseType → List ℕ → Type 0
IsRead base ns = (t : Tree) (bytes : List ℕ) → FitsArray base ns t → bytes ≡ values_bytes base (values_in t) → Elements base ns bytes ≡ t

-- one row after the other
abbrev row : BaseType → List ℕ → ℕ → List ℕ → ℕ → Tree
row base ns n bytes i = Elements base ns (piece n i bytes)

rows : (base : BaseType) (ns : List ℕ) (n width : ℕ) (bytes : List ℕ) → IsRead base ns → is_number base ≡ true → width ≡ product ns * width_of base → (0 < n → length bytes / n ≡ width)
    → (us : Trees) (k : ℕ) (front : List ℕ) → All (FitsArray base ns) (items us) → length front ≡ k * width → k + length (items us) ≡ n → bytes ≡ front ++ values_bytes base (values_in_all us)
    → map (row base ns n bytes) (range_with_len k (length (items us))) ≡ items us
rows base ns n width bytes read e wide each no_trees k front fits begin count is = refl
rows base ns n width bytes read e wide each (tree t us) k front fits begin count is =
    let own = values_bytes base (values_in t) in
    let fit = all_first (FitsArray base ns) t (items us) fits in
    let long : length own ≡ width = tree_length base ns t e fit ∙ sym wide in
    let some : 0 < n = omega (arith, count) in
    let one = each some in
    let parts : bytes ≡ front ++ (own ++ values_bytes base (values_in_all us)) = is ∙ ap (λ l. front ++ l) (values-append base (values_in t) (values_in_all us)) in
    let here : piece n k bytes ≡ own = ap (λ w. slice bytes (k * w) w) one ∙ slice_is bytes front own (values_bytes base (values_in_all us)) (k * width) width parts begin long in
    let next : length (front ++ own) ≡ (k + 1) * width = length-append front own ∙ omega (arith, begin, long) in
    ap (λ x. x ∷ map (row base ns n bytes) (range_with_len (k + 1) (length (items us)))) (read t (piece n k bytes) fit here)
    ∙ ap (λ l. t ∷ l) (rows base ns n width bytes read e wide each us (k + 1) (front ++ own) (all_rest (FitsArray base ns) t (items us) fits) next (omega (arith, count)) (parts ∙ sym (append_assoc front own (values_bytes base (values_in_all us)))))

map_map : {X Y Z : Type 0} (g : Y → Z) (f : X → Y) (xs : List X) → map g (map f xs) ≡ map (λ x. g (f x)) xs
map_map g f [] = refl
map_map g f (x ∷ xs) = ap (λ l. g (f x) ∷ l) (map_map g f xs)

many_is : (base : BaseType) (n : ℕ) (ns : List ℕ) (bytes : List ℕ) → Elements base (n ∷ ns) bytes ≡ many (trees_of (map (row base ns n bytes) (range_with_len 0 n)))
unfolding by_index chopped
many_is base n ns bytes = ap (λ l. many (trees_of l)) (map_map (array_tree (length ns)) (λ i. by_index Value ns (λ is. value_of (external_type (type_number base)) (chopped ns is (piece n i bytes)))) (range_with_len 0 n))

one_is : (base : BaseType) (bytes : List ℕ) → Elements base [] bytes ≡ one (value_of (external_type (type_number base)) bytes)
unfolding by_index chopped
one_is base bytes = refl

pub read_back : (base : BaseType) (ns : List ℕ) → is_number base ≡ true → IsRead base ns
read_back base [] e (one v) bytes fit is = one_is base bytes ∙ ap (λ l. one (value_of (external_type (type_number base)) l)) (is ∙ values-one base v) ∙ ap one (value_back base v e fit)
read_back base [] e (many ts) bytes fit is = absurd fit
read_back base (n ∷ ns) e (one v) bytes fit is = absurd fit
read_back base (n ∷ ns) e (many ts) bytes fit is =
    let width = product ns * width_of base in
    let total : length bytes ≡ n * width = ap length is ∙ tree_length base (n ∷ ns) (many ts) e fit ∙ regroup n (product ns) (width_of base) in
    many_is base n ns bytes ∙ ap (λ k. many (trees_of (map (row base ns n bytes) (range_with_len 0 k)))) (sym fit.0)
    ∙ ap (λ l. many (trees_of l)) (rows base ns n width bytes (read_back base ns e) e refl (λ some. ap (λ k. k / n) total ∙ mul-div_cancel_left width some) ts 0 [] fit.1 (omega arith) (let few = fit.0 in omega (arith, few)) is) ∙ ap many (trees_of-items ts)
  where
    regroup : (n p w : ℕ) → n * p * w ≡ n * (p * w)
    regroup n p w = omega arith

-- of no record there is nothing
pub none_read : (base : BaseType) (ns : List ℕ) (t : Tree) (at : List ℕ → Value) → FitsArray base (0 ∷ ns) t → indexed_tree (0 ∷ ns) at ≡ t
unfolding by_index
none_read base ns (one v) at fit = absurd fit
none_read base ns (many no_trees) at fit = refl
none_read base ns (many (tree t ts)) at fit = absurd (omega (arith, fit.0))
