-- The dataset of a table is well formed.
use Rattle.std.proofs.Common.{◌≡◌, ◌≤◌, ◌+◌, ℕ, suc, Bool, true, false, List, [], ◌∷◌, ◌++◌, Some, None, length, map, refl, ap, arith}
use Rattle.std.specs.Prelude.{nat_lt, if◌then◌else◌, Ok}
use Rattle.std.specs.List.{list_any}
use Rattle.std.specs.Str.{bytes_eq}
use Rattle.std.proofs.Math.Bool.{or-false}
use Rattle.std.proofs.lemmas.Bool.Decides.{nat_tests}
use Rattle.std.proofs.lemmas.List.{append-nil}
use Rattle.std.proofs.lemmas.List.Folds.{list_any-append}
use Rattle.plain_lemmas.proofs.Truths.{or_comm}
use Rattle.dap_types.specs.Model.{scalar, sequence, members_of}
use Rattle.dap_types.specs.WellFormed.{IsWellFormed, fault, first_fault, leaf_places}
use Rattle.dap_types.specs.declared.declarations.Column.{Column}
use Rattle.dap_types.proofs.Rules.{well_formed_without_fault}
use Rattle.file_names.specs.Names.{dataset_name}
use Rattle.csv_source.specs.Causes.{table_of}
use Rattle.csv_source.specs.Dataset.{table_dataset}
use Rattle.csv_source.specs.Header.{columns_of, repeated, repeated_from}
use Rattle.csv_source.specs.Names.{sequence_name}
use Rattle.csv_source.specs.Table.{CsvTable}
use Rattle.csv_source.proofs.Columns.{columns-length}
use Rattle.csv_source.proofs.Tabled.{of-file}

-- the names before a column are the same, from the last to the first
leaves-good : (n number : ℕ) (back earlier : List (List ℕ)) (columns : List Column) → ((q : List ℕ) → list_any (bytes_eq q) back ≡ list_any (bytes_eq q) earlier)
    → repeated_from number earlier columns ≡ None → first_fault n (leaf_places 2 back (map scalar columns)) ≡ None
unfolding repeated_from
leaves-good n number back earlier [] same none = refl
leaves-good n number back earlier (c ∷ columns) same none =
    by_test (list_any (bytes_eq c.name) earlier) refl none
    (leaves-good (n + 1) (number + 1) (c.name ∷ back) (earlier ++ c.name ∷ []) columns
    (λ q. rw (list_any-append (bytes_eq q) earlier (c.name ∷ []), or-false (bytes_eq q c.name), same q) (or_comm (bytes_eq q c.name) (list_any (bytes_eq q) earlier))))
  where
    by_test : (b : Bool) → list_any (bytes_eq c.name) earlier ≡ b → (if b then Some number else repeated_from (number + 1) (earlier ++ c.name ∷ []) columns) ≡ None
        → (repeated_from (number + 1) (earlier ++ c.name ∷ []) columns ≡ None → first_fault (n + 1) (leaf_places 2 (c.name ∷ back) (map scalar columns)) ≡ None)
        → first_fault n (leaf_places 2 back (map scalar (c ∷ columns))) ≡ None
    by_test true is rest later = cc rest
    by_test false is rest later = rw (same c.name, is) (later rest)

leaves-length : (back : List (List ℕ)) (columns : List Column) → length (leaf_places 2 back (map scalar columns)) ≡ length columns
leaves-length back [] = refl
leaves-length back (c ∷ columns) = ap suc (leaves-length (c.name ∷ back) columns)

pub no-fault : (name sequence_name : List ℕ) (columns : List Column) → length columns ≤ 1024 → repeated columns ≡ None
    → fault record { name = name; members = members_of (sequence sequence_name columns ∷ []) } ≡ None
unfolding fault
no-fault name sequence_name columns few none =
    let long = leaves-length [] columns in
    let count : nat_lt 1000000 (suc (length (leaf_places 2 [] (map scalar columns)))) ≡ false = grind (arith, nat_tests, long, few) in
    rw (append-nil (leaf_places 2 [] (map scalar columns)), count) (leaves-good 2 1 [] [] columns (λ q. refl) none)

pub formed : (file_name bytes : List ℕ) (t : CsvTable) → table_of file_name bytes ≡ Ok t → IsWellFormed (table_dataset t)
formed file_name bytes t is =
    let (short, of) = of-file file_name bytes t is in
    rw of.is_table (well_formed_without_fault _ (no-fault (dataset_name file_name) (sequence_name file_name) (columns_of of.header) (omega (arith, columns-length 1 of.header, of.few)) of.once))
