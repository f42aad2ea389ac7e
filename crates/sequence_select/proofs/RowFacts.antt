-- One clause of a row of a table.
use Rattle.std.proofs.Common.{◌≡◌, ◌<◌, ◌+◌, ◌-◌, ℕ, zero, suc, Bool, true, false, List, [], ◌∷◌, ◌++◌, Some, None, length, map, take, drop, get_or, ◌≤◌, All, refl, sym, ap, subst, arith, ◌∙◌}
use Rattle.std.specs.Prelude.{◌&&◌, nat_lt, Option, slice_get, option_and_then}
use Rattle.std.specs.List.{list_any}
use Rattle.std.specs.Option.{option_map_or}
use Rattle.std.proofs.Math.Bool.{or-false}
use Rattle.std.proofs.lemmas.Bool.Decides.{nat_tests}
use Rattle.std.proofs.lemmas.List.{ext_get_or, length-map, map-append, take_all, take_more}
use Rattle.std.proofs.lemmas.List.Folds.{list_all-append, list_any_at}
use Rattle.plain_lemmas.proofs.Lists.{any-map, slice_get-mapped}
use Rattle.dap_model.specs.Rows.{Selection, cell_at, holds, kept, order}
use Rattle.dap_types.proofs.Views.{items-trees_of}
use Rattle.dap_types.specs.Model.{one}
use Rattle.dap_types.specs.declared.values.Value.{Value}
use Rattle.csv_source.specs.Dataset.{row_tree}
use Rattle.csv_source.specs.Table.{CsvTable, value_at}
use Rattle.sequence_select.specs.Selections.{relation_of, row_of}
use Rattle.sequence_select.specs.Operands.{operand_value}
use Rattle.sequence_select.specs.Tests.{selection_of}
use Rattle.sequence_select.specs.declared.constants.Operand.{Operand}
use Rattle.sequence_select.specs.declared.comparison.Test.{Test}

-- a clause's constants, one by one
pub holds-by : (test : Test) (v : Value) → holds (selection_of test) v ≡ list_any (λ o. option_map_or (relation_of test.op) (order v (operand_value o)) false) test.operands
holds-by test v = any-map (λ w. option_map_or (relation_of test.op) (order v w) false) operand_value test.operands

pub holds-at : (test : Test) (v : Value) (os : List Operand) → os ≡ test.operands → (i : ℕ) (o : Operand) → i < length os → o ≡ get_or os i o
    → option_map_or (relation_of test.op) (order v (operand_value o)) false ≡ true → holds (selection_of test) v ≡ true
holds-at test v os same i o lt is here =
    holds-by test v
    ∙ ap (list_any (λ o. option_map_or (relation_of test.op) (order v (operand_value o)) false)) (sym same)
    ∙ list_any_at (λ o. option_map_or (relation_of test.op) (order v (operand_value o)) false) os i o lt (subst (λ x. option_map_or (relation_of test.op) (order v (operand_value x)) false ≡ true) is here)

pub holds-none : (test : Test) (v : Value) (i : ℕ) → length test.operands ≤ i
    → list_any (λ o. option_map_or (relation_of test.op) (order v (operand_value o)) false) (take i test.operands) ≡ false → holds (selection_of test) v ≡ false
holds-none test v i le none =
    holds-by test v
    ∙ ap (list_any (λ o. option_map_or (relation_of test.op) (order v (operand_value o)) false)) (sym (take_all i test.operands le))
    ∙ none

row-value : (t : CsvTable) (row column : ℕ) (v : Value) → value_at t row column ≡ Some v → slice_get (row_of t row) column ≡ Some v
row-value t row column v is = by_row (slice_get t.rows row) is
  where
    by_row : (o : Option (List Value)) → option_and_then (λ values. slice_get values column) o ≡ Some v → slice_get (option_map_or (λ values. values) o []) column ≡ Some v
    by_row None none = cc none
    by_row (Some values) some = some

cell-there : (t : CsvTable) (row column : ℕ) (v : Value) → value_at t row column ≡ Some v → cell_at 1 (row_tree (row_of t row)) (column + 2) ≡ Some (one v)
cell-there t row column v is =
    let inside : nat_lt 1 (column + 2) ≡ true = grind (arith, nat_tests) in
    let place : column + 2 - (1 + 1) ≡ column = omega arith in
    rw (inside, place, items-trees_of (map one (row_of t row))) (slice_get-mapped one (row_of t row) column v (row-value t row column v is))

-- a clause on what is no column keeps the row
pub not-there : (t : CsvTable) (row : ℕ) (test : Test) → cell_at 1 (row_tree (row_of t row)) test.column ≡ None → kept (selection_of test ∷ []) 1 (row_tree (row_of t row)) ≡ true
not-there t row test is = rw is refl

pub before_columns : (t : CsvTable) (row : ℕ) (test : Test) → test.column < 2 → kept (selection_of test ∷ []) 1 (row_tree (row_of t row)) ≡ true
before_columns t row test lt =
    let outside : nat_lt 1 test.column ≡ false = grind (arith, nat_tests) in
    rw outside refl

row-length : (n : ℕ) (rows : List (List Value)) (row : ℕ) → All (λ values. length values ≡ n) rows → length (option_map_or (λ values. values) (slice_get rows row) []) ≤ n
row-length n [] row all = omega arith
row-length n (values ∷ rows) zero all = omega (arith, all 0 values (omega arith))
row-length n (values ∷ rows) (suc row) all = row-length n rows row (λ k d lt. all (suc k) d (omega arith))

past : {X Y : Type 0} (f : X → Y) (xs : List X) (i : ℕ) → length xs ≤ i → slice_get (map f xs) i ≡ None
past f [] i le = refl
past f (x ∷ xs) zero le = absurd (omega arith)
past f (x ∷ xs) (suc i) le = past f xs i (omega arith)

pub behind_columns : (t : CsvTable) (row : ℕ) (test : Test) → All (λ values. length values ≡ length t.columns) t.rows → length t.columns ≤ test.column - 2 → 2 ≤ test.column → kept (selection_of test ∷ []) 1 (row_tree (row_of t row)) ≡ true
behind_columns t row test each le two =
    let short : length (row_of t row) ≤ length t.columns = row-length (length t.columns) t.rows row each in
    let inside : nat_lt 1 test.column ≡ true = grind (arith, nat_tests) in
    let place : test.column - (1 + 1) ≡ test.column - 2 = omega arith in
    not-there t row test (rw (inside, place, items-trees_of (map one (row_of t row))) (past one (row_of t row) (test.column - 2) (omega arith)))

-- whether one clause on a column keeps the row
pub one-selection : (t : CsvTable) (row : ℕ) (s : Selection) (v : Value) → 2 ≤ s.column → value_at t row (s.column - 2) ≡ Some v → kept (s ∷ []) 1 (row_tree (row_of t row)) ≡ holds s v
one-selection t row s v two is =
    let place : s.column - 2 + 2 ≡ s.column = omega arith in
    let there : cell_at 1 (row_tree (row_of t row)) s.column ≡ Some (one v) = subst (λ n. cell_at 1 (row_tree (row_of t row)) n ≡ Some (one v)) place (cell-there t row (s.column - 2) v is) in
    rw (there, or-false (holds s v)) (and-true (holds s v))
  where
    and-true : (b : Bool) → (b && true) ≡ b
    and-true true = refl
    and-true false = refl

pub one-clause : (t : CsvTable) (row : ℕ) (test : Test) (v : Value) → 2 ≤ test.column → value_at t row (test.column - 2) ≡ Some v → kept (selection_of test ∷ []) 1 (row_tree (row_of t row)) ≡ holds (selection_of test) v
one-clause t row test v two is = one-selection t row (selection_of test) v two is

-- the clauses up to one more
pub kept-more : (t : CsvTable) (row : ℕ) (tests : List Test) (i : ℕ) (d : Test) → i < length tests
    → kept (map selection_of (take (i + 1) tests)) 1 (row_tree (row_of t row))
    ≡ (kept (map selection_of (take i tests)) 1 (row_tree (row_of t row)) && kept (selection_of (get_or tests i d) ∷ []) 1 (row_tree (row_of t row)))
kept-more t row tests i d lt =
    ap (λ xs. kept (map selection_of xs) 1 (row_tree (row_of t row))) (take_more tests i d lt)
    ∙ ap (λ xs. kept xs 1 (row_tree (row_of t row))) (map-append selection_of (take i tests) (get_or tests i d ∷ []))
    ∙ list_all-append _ (map selection_of (take i tests)) (selection_of (get_or tests i d) ∷ [])

-- the clauses up to one more, each of which keeps the row
pub kept-one-more : (t : CsvTable) (row : ℕ) (tests : List Test) (i : ℕ) (d : Test) → i < length tests
    → kept (map selection_of (take i tests)) 1 (row_tree (row_of t row)) ≡ true
    → kept (selection_of (get_or tests i d) ∷ []) 1 (row_tree (row_of t row)) ≡ true
    → kept (map selection_of (take (i + 1) tests)) 1 (row_tree (row_of t row)) ≡ true
kept-one-more t row tests i d lt before here = kept-more t row tests i d lt ∙ rw (before, here) refl

-- one that does not keep it
pub not-kept : (t : CsvTable) (row : ℕ) (all tests : List Test) → tests ≡ all → (i : ℕ) (d : Test) → i < length tests → d ≡ get_or tests i d
    → kept (selection_of d ∷ []) 1 (row_tree (row_of t row)) ≡ false
    → kept (map selection_of all) 1 (row_tree (row_of t row)) ≡ false
not-kept t row all tests same i d lt is here =
    ap (λ xs. kept (map selection_of xs) 1 (row_tree (row_of t row))) (sym same) ∙
    ap (λ xs. kept (map selection_of xs) 1 (row_tree (row_of t row))) (split_at tests i d lt)
    ∙ ap (λ xs. kept xs 1 (row_tree (row_of t row))) (map-append selection_of (take i tests) (get_or tests i d ∷ drop (suc i) tests))
    ∙ list_all-append _ (map selection_of (take i tests)) (map selection_of (get_or tests i d ∷ drop (suc i) tests))
    ∙ spoiled _ _ _ (subst (λ x. kept (selection_of x ∷ []) 1 (row_tree (row_of t row)) ≡ false) is here)
  where
    split_at : (xs : List Test) (i : ℕ) (d : Test) → i < length xs → xs ≡ take i xs ++ (get_or xs i d ∷ drop (suc i) xs)
    split_at [] i d lt = absurd (omega arith)
    split_at (x ∷ xs) zero d lt = refl
    split_at (x ∷ xs) (suc i) d lt = ap (λ ys. x ∷ ys) (split_at xs i d (omega arith))

    spoiled : (a b c : Bool) → (b && true) ≡ false → (a && (b && c)) ≡ false
    spoiled true true c is = cc is
    spoiled true false c is = refl
    spoiled false b c is = refl

row_get : (t : CsvTable) (k : ℕ) (d : List Value) → k < length t.rows → row_of t k ≡ get_or t.rows k d
row_get t k d lt = go t.rows k lt
  where
    go : (rows : List (List Value)) (k : ℕ) → k < length rows → option_map_or (λ values. values) (slice_get rows k) [] ≡ get_or rows k d
    go [] k lt = absurd (omega arith)
    go (values ∷ rows) zero lt = refl
    go (values ∷ rows) (suc k) lt = go rows k (omega arith)

-- the mask as a whole, out of each of its places
pub whole-mask : (t : CsvTable) (clauses : List Selection) (out : List Bool) → length out ≡ length t.rows
    → ((k : ℕ) → k < length out → get_or out k false ≡ kept clauses 1 (row_tree (row_of t k)))
    → out ≡ map (λ values. kept clauses 1 (row_tree values)) t.rows
whole-mask t clauses out long each = ext_get_or false out (map (λ values. kept clauses 1 (row_tree values)) t.rows) (long ∙ sym (length-map t.rows (λ values. kept clauses 1 (row_tree values))))
    (λ k lt.
    let inside : k < length t.rows = omega (arith, long) in
    each k lt ∙ ap (λ values. kept clauses 1 (row_tree values)) (row_get t k [] inside) ∙ sym (get_or-map t.rows k inside))
  where
    get_or-map : (rows : List (List Value)) (k : ℕ) → k < length rows → get_or (map (λ values. kept clauses 1 (row_tree values)) rows) k false ≡ kept clauses 1 (row_tree (get_or rows k []))
    get_or-map [] k lt = absurd (omega arith)
    get_or-map (values ∷ rows) zero lt = refl
    get_or-map (values ∷ rows) (suc k) lt = get_or-map rows k (omega arith)
