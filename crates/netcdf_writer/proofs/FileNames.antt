-- The names in a file, and that they differ where those of the variables do.
use Rattle.std.proofs.Common.{◌≡◌, ℕ, ◌≤◌, Bool, true, false, ◌||◌, ◌==◌, List, [], ◌∷◌, length, map, Option, Some, None, refl, ap, sym, ◌∙◌, arith, nat_lt}
use Rattle.std.proofs.lemmas.Bool.{true≢false, or_parts}
use Rattle.std.proofs.lemmas.Bool.Decides.{nat_tests}
use Rattle.std.proofs.lemmas.Slice.Eq.{bytes_eq-Decides}
use Rattle.std.specs.List.{AllByRecursion, list_any}
use Rattle.std.specs.Option.{option_map_or}
use Rattle.std.specs.Str.{bytes_eq}
use Rattle.dap_types.specs.Names.{file_id}
use Rattle.netcdf_source.specs.Fields.{bad_if}
use Rattle.netcdf_source.specs.Grammar.{name_fault}
use Rattle.netcdf_writer.proofs.Naming.{back_again, undone_told}
use Rattle.netcdf_writer.specs.Names.{file_name, is_file_name, is_name_length, undone}

pub is_undone : (name : List ℕ) → is_file_name name ≡ true → (bytes : List ℕ) × (undone name ≡ Some bytes) × (is_name_length (length bytes) ≡ true) × (file_name name ≡ bytes)
unfolding is_file_name file_name
is_undone name e = chosen (undone name) refl e
  where
    chosen : (o : Option (List ℕ)) → undone name ≡ o → option_map_or (λ bytes. is_name_length (length bytes)) o false ≡ true
        → (bytes : List ℕ) × (undone name ≡ Some bytes) × (is_name_length (length bytes) ≡ true) × (option_map_or (λ bytes. bytes) (undone name) [] ≡ bytes)
    chosen None is f = cc f
    chosen (Some bytes) is f = (bytes, is, f, ap (λ o. option_map_or (λ bytes. bytes) o []) is)

-- the name of the variable is that of the name in the file
pub name_back : (name : List ℕ) → is_file_name name ≡ true → file_id (file_name name) ≡ name
name_back name e = let found = is_undone name e in ap file_id found.3 ∙ (undone_told name found.0 found.1).0

-- the name in a file whose escape is such a name is undone to itself
pub name_again : (name : List ℕ) → is_file_name (file_id name) ≡ true → undone (file_id name) ≡ Some name
name_again name e = let found = is_undone (file_id name) e in back_again name found.0 found.1

long_enough : (n : ℕ) → is_name_length n ≡ true → (1 ≤ n) × (n ≤ 256)
long_enough n e = (grind (arith, nat_tests, e), grind (arith, nat_tests, e))

pub name_fits : (name : List ℕ) → is_file_name name ≡ true → (1 ≤ length (file_name name)) × (length (file_name name) ≤ 256)
name_fits name e =
    let found = is_undone name e in
    let both = long_enough (length found.0) found.2 in
    let same = ap length found.3 in
    let low = both.0 in
    let high = both.1 in
    (omega (arith, same, low), omega (arith, same, high))

length_good : (n : ℕ) → 1 ≤ n → n ≤ 256 → (n == 0 || nat_lt 256 n) ≡ false
length_good n low high = grind (arith, nat_tests, low, high)

pub name_good : (name : List ℕ) → is_file_name name ≡ true → name_fault (length (file_name name)) ≡ None
unfolding name_fault
name_good name e = let both = name_fits name e in ap (λ b. bad_if b 0) (length_good (length (file_name name)) both.0 both.1)

-- names in the file differ where those of the variables do
pub names_differ : (a b : List ℕ) → is_file_name a ≡ true → is_file_name b ≡ true → bytes_eq a b ≡ false → bytes_eq (file_name a) (file_name b) ≡ false
names_differ a b va vb other = chosen (bytes_eq (file_name a) (file_name b)) refl
  where
    chosen : (t : Bool) → bytes_eq (file_name a) (file_name b) ≡ t → t ≡ false
    chosen false e = refl
    chosen true e =
        let same : file_name a ≡ file_name b = (bytes_eq-Decides (file_name a) (file_name b)).0 e in
        let is : a ≡ b = sym (name_back a va) ∙ ap file_id same ∙ name_back b vb in
        absurd (true≢false (sym ((bytes_eq-Decides a b).1 is) ∙ other))

-- no name in a list is this one
pub none_named : (a : List ℕ) (bs : List (List ℕ)) → is_file_name a ≡ true → AllByRecursion (λ b. is_file_name b ≡ true) bs → list_any (bytes_eq a) bs ≡ false → list_any (bytes_eq (file_name a)) (map file_name bs) ≡ false
none_named a [] va vs none = refl
none_named a (b ∷ bs) va vs none =
    let both = or_parts (bytes_eq a b) (list_any (bytes_eq a) bs) none in
    ap (λ t. t || list_any (bytes_eq (file_name a)) (map file_name bs)) (names_differ a b va vs.0 both.0) ∙ none_named a bs va vs.1 both.1
