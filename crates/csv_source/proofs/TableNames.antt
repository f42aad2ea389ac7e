-- The names in the dataset of a table are words: a name that is not empty and of bytes is escaped by
-- plain bytes, and each column has such a name.
use Rattle.std.proofs.Common.{◌≡◌, ◌≢◌, ◌<◌, ◌+◌, ◌-◌, ◌^◌, ℕ, Bool, true, false, ◌==◌, eqb, IsTrue, List, [], ◌∷◌, ◌++◌, length, map, All, refl, subst, arith}
use Rattle.std.specs.Prelude.{not, codes, if◌then◌else◌}
use Rattle.std.specs.Fmt.{decimal}
use Rattle.std.specs.List.{suffix_len}
use Rattle.std.proofs.lemmas.Bool.Decides.{nat_tests}
use Rattle.std.proofs.lemmas.Fmt.{IsAscii-decimal}
use Rattle.std.proofs.lemmas.List.{get_or_default}
use Rattle.std.proofs.lemmas.List.Elements.{All-nil, All-cons, All-head, All-tail, All-append, All-take, All-drop, All-from_recursion}
use Rattle.plain_lemmas.proofs.Lists.{some_length}
use Rattle.dap_types.specs.Model.{scalar, sequence}
use Rattle.dap_types.specs.WellFormed.{Place, place, leaf_places}
use Rattle.dap_types.specs.declared.declarations.BaseType.{BaseType}
use Rattle.dap_model.specs.Grammar.{are_words}
use Rattle.dap_model.specs.Tokens.{is_word}
use Rattle.file_names.specs.Names.{segment, dataset_name_byte}
use Rattle.file_names.proofs.Words.{IsByte, AreBytes, IsName, dataset_spelled, file_word, word_name}
use Rattle.csv_source.specs.Csv.{csv_records}
use Rattle.csv_source.specs.Header.{all_types, column_name, column_of, columns_from, columns_of, type_mark, typed_by}
use Rattle.csv_source.specs.Laws.{TableHasWords}
use Rattle.csv_source.specs.Names.{has_suffix, before_suffix, without_suffix, sequence_name}
use Rattle.csv_source.proofs.FieldBytes.{HoldBytes, csv-bytes}
use Rattle.csv_source.proofs.Tabled.{of-file}

-- ---- names of columns

decimal-bytes : (n : ℕ) → n < 2 ^ 64 → AreBytes (decimal n)
decimal-bytes n lt k d within = omega (arith, IsAscii-decimal n lt k, get_or_default (decimal n) k d 0 within)

column-bytes : AreBytes (codes "column")
column-bytes = All-from_recursion IsByte (codes "column") (omega arith, (omega arith, (omega arith, (omega arith, (omega arith, (omega arith, tt))))))

named : (number : ℕ) (name : List ℕ) → number < 2 ^ 64 → AreBytes name → IsName (column_name number name)
unfolding column_name
named number name lt bytes = by_test (length name == 0) refl
  where
    by_test : (b : Bool) → (length name == 0) ≡ b → IsName (if b then codes "column" ++ decimal number else name)
    by_test true is = (omega arith, All-append IsByte (codes "column") (decimal number) column-bytes (decimal-bytes number lt))
    by_test false is = (grind (arith, nat_tests, is), bytes)

typed-bytes : (bases : List BaseType) (field : List ℕ) → AreBytes field → AreBytes (typed_by bases field).0
unfolding typed_by
typed-bytes [] field bytes = bytes
typed-bytes (base ∷ bases) field bytes = by_test (has_suffix (type_mark base) field) (typed-bytes bases field bytes)
  where
    by_test : (b : Bool) → AreBytes (typed_by bases field).0 → AreBytes (if b then (before_suffix (type_mark base) field, base) else typed_by bases field).0
    by_test true later = All-take IsByte (length field - length (type_mark base)) field bytes
    by_test false later = later

column-word : (number : ℕ) (field : List ℕ) → number < 2 ^ 64 → AreBytes field → is_word (column_of number field).name ≡ true
unfolding column_of
column-word number field lt bytes =
    let name : List ℕ = (typed_by all_types field).0 in
    file_word (column_name number name) (named number name lt (typed-bytes all_types field bytes))

abbrev OfWords : Place → Type 0
OfWords p = IsTrue (are_words p.variable)

columns-words : (number : ℕ) (back header : List (List ℕ)) → number + length header < 2 ^ 64 → HoldBytes header → All OfWords (leaf_places 2 back (map scalar (columns_from number header)))
unfolding columns_from
columns-words number back [] few bytes = All-nil OfWords
columns-words number back (field ∷ header) few bytes =
    All-cons OfWords (place 2 back (scalar (column_of number field))) (leaf_places 2 ((column_of number field).name ∷ back) (map scalar (columns_from (number + 1) header)))
    (column-word number field (omega (arith, few)) (All-head AreBytes field header bytes))
    (columns-words (number + 1) ((column_of number field).name ∷ back) header (omega (arith, few)) (All-tail AreBytes field header bytes))

-- ---- the dataset

segment-bytes : (file_name : List ℕ) → AreBytes file_name → AreBytes (segment file_name)
unfolding segment
segment-bytes file_name bytes = All-drop IsByte (length file_name - suffix_len (λ b. not (eqb b 47)) file_name) file_name bytes

without-bytes : (suffix name : List ℕ) → AreBytes name → AreBytes (without_suffix suffix name)
without-bytes suffix name bytes = by_test (has_suffix suffix name)
  where
    by_test : (b : Bool) → AreBytes (if b then before_suffix suffix name else name)
    by_test true = All-take IsByte (length name - length suffix) name bytes
    by_test false = bytes

-- where something stands before `.csv`, there is a name
some-name : (name : List ℕ) → without_suffix (codes ".csv") name ≢ [] → 0 < length name
some-name [] some = absurd (some refl)
some-name (b ∷ name) some = omega arith

pub table-has-words : TableHasWords
table-has-words file_name bytes t name_bytes file_bytes some is =
    let (short, of) = of-file file_name bytes t is in
    let records : All HoldBytes (csv_records bytes) = csv-bytes bytes file_bytes in
    let header : HoldBytes of.header = All-head HoldBytes of.header of.rows (subst (λ (l : List (List (List ℕ))). All HoldBytes l) of.parts records) in
    let last : List ℕ = segment file_name in
    let front : List ℕ = without_suffix (codes ".csv") last in
    let of_last : AreBytes last = segment-bytes file_name name_bytes in
    let places = leaf_places 2 [] (map scalar (columns_of of.header)) in
    let columns : All OfWords places = columns-words 1 [] of.header (omega (arith, of.few)) header in
    let own_name : IsTrue (is_word (sequence_name file_name)) = file_word front (some_length front some, without-bytes (codes ".csv") last of_last) in
    rw of.is_table (record {
      own = word_name dataset_name_byte last dataset_spelled (some-name last some, of_last);
      inside = All-cons OfWords (place 1 [] (sequence (sequence_name file_name) (columns_of of.header))) (places ++ []) own_name
          (All-append OfWords places [] columns (All-nil OfWords));
    })
