-- The clauses of a constraint on a row whose cells stand in bytes.
use Rattle.std.proofs.Common.{◌≡◌, ℕ, zero, suc, ◌+◌, ◌-◌, ◌<◌, ◌≤◌, Bool, true, false, List, [], ◌∷◌, ◌++◌, length, map, take, drop, get_or, Some, None, refl, sym, ap, ◌∙◌, subst, arith, nat_lt}
use Rattle.std.specs.Prelude.{◌&&◌, slice_get}
use Rattle.std.proofs.Math.Bool.{or-false}
use Rattle.std.proofs.lemmas.Bool.Decides.{nat_tests}
use Rattle.std.proofs.lemmas.List.{map-append, take_all, take_more}
use Rattle.std.proofs.lemmas.List.Folds.{list_all-append}
use Rattle.std.proofs.lemmas.Slice.Zip.{AllZip-long}
use Rattle.std.proofs.lemmas.Option.{slice_get_past}
use Rattle.dap_model.specs.Fits.{FitsScalar}
use Rattle.dap_model.specs.Rows.{Selection, cell_at, holds, kept}
use Rattle.dap_model.specs.Xdr.{cell_fields, scalar_fields}
use Rattle.dap_types.proofs.Views.{items-trees_of}
use Rattle.dap_types.specs.Model.{Tree, one, many, trees_of}
use Rattle.dap_types.specs.declared.declarations.Column.{Column}
use Rattle.dap_types.specs.declared.values.Value.{Value}
use Rattle.sequence_select.specs.Tests.{selection_of}
use Rattle.sequence_select.specs.declared.comparison.Test.{Test}
use Rattle.xdr_decode.proofs.Stopping.{spelt_then}
use Rattle.xdr_values.proofs.RowParts.{cell_first}
use Rattle.xdr_values.proofs.Splitting.{spelt_split}
use Rattle.xdr_values.specs.Walked.{StandCells, StandsValue}

-- ---- the cells before one, and from it on
pub record CellsCut (i : ℕ) (columns : List Column) (cells : List Tree) (bytes rest : List ℕ) : Type 0 where
  pub mid : List ℕ
  pub front : StandCells (take i columns) (take i cells) bytes mid
  pub back : StandCells (drop i columns) (drop i cells) mid rest

pub cells_cut : (i : ℕ) (columns : List Column) (cells : List Tree) (bytes rest : List ℕ) → StandCells columns cells bytes rest → CellsCut i columns cells bytes rest
cells_cut zero columns cells bytes rest st = record { mid = bytes; front = record { fit = tt; spelt = ([], refl, refl) }; back = st }
cells_cut (suc i) [] [] bytes rest st = record { mid = bytes; front = record { fit = tt; spelt = ([], refl, refl) }; back = st }
cells_cut (suc i) [] (t ∷ ts) bytes rest st = absurd st.fit
cells_cut (suc i) (c ∷ columns) [] bytes rest st = absurd st.fit
cells_cut (suc i) (c ∷ columns) (t ∷ ts) bytes rest st =
    let b = spelt_split (scalar_fields c.base t) (cell_fields columns ts) bytes rest st.spelt in
    let more = cells_cut i columns ts b.mid rest (record { fit = st.fit.1; spelt = b.behind }) in
    record {
      mid = more.mid;
      front = record { fit = (st.fit.0, more.front.fit); spelt = spelt_then (scalar_fields c.base t) (cell_fields (take i columns) (take i ts)) bytes b.mid more.mid b.before more.front.spelt };
      back = more.back;
    }

drop_get : {X : Type 0} (xs : List X) (i : ℕ) (x : X) (more : List X) → drop i xs ≡ x ∷ more → slice_get xs i ≡ Some x
drop_get [] zero x more is = absurd (cc)
drop_get [] (suc i) x more is = absurd (cc)
drop_get (y ∷ ys) zero x more is = let e : y ≡ x = cc in ap Some e
drop_get (y ∷ ys) (suc i) x more is = drop_get ys i x more is

pub record CellIs (i : ℕ) (c : Column) (cells : List Tree) (mid : List ℕ) : Type 0 where
  pub value : Value
  pub behind : List ℕ
  pub is : slice_get cells i ≡ Some (one value)
  pub stands : StandsValue c.base value mid behind

-- the cell of a column stands behind those before it
pub cell_is : (i : ℕ) (c : Column) (columns more : List Column) (cells : List Tree) (bytes rest mid : List ℕ) → StandCells columns cells bytes rest → drop i columns ≡ c ∷ more
    → ((cs : List Tree) (r : List ℕ) → StandCells (take i columns) cs bytes r → mid ≡ r) → CellIs i c cells mid
cell_is i c columns more cells bytes rest mid st at behind =
    let cut = cells_cut i columns cells bytes rest st in
    let same : mid ≡ cut.mid = behind (take i cells) cut.mid cut.front in
    let f = cell_first c more (drop i cells) cut.mid rest (subst (λ cs. StandCells cs (drop i cells) cut.mid rest) at cut.back) in
    record { value = f.value; behind = f.mid; is = drop_get cells i (one f.value) f.others f.cells_are; stands = subst (λ l. StandsValue c.base f.value l f.mid) (sym same) f.first }

-- ---- one clause
none_there : (n : ℕ) (cells : List Tree) (s : Selection) → cell_at n (many (trees_of cells)) s.column ≡ None → kept (s ∷ []) n (many (trees_of cells)) ≡ true
none_there n cells s is = rw is refl

pub before_columns : (n : ℕ) (cells : List Tree) (s : Selection) → s.column ≤ n → kept (s ∷ []) n (many (trees_of cells)) ≡ true
before_columns n cells s le = let outside : nat_lt n s.column ≡ false = grind (arith, nat_tests) in rw outside refl

pub behind_columns : (n : ℕ) (columns : List Column) (cells : List Tree) (bytes rest : List ℕ) (s : Selection) (at : ℕ) → StandCells columns cells bytes rest → n < s.column → at ≡ s.column - n - 1 → length columns ≤ at
    → kept (s ∷ []) n (many (trees_of cells)) ≡ true
behind_columns n columns cells bytes rest s at st lt at_is le =
    let inside : nat_lt n s.column ≡ true = grind (arith, nat_tests) in
    let place : s.column - (n + 1) ≡ at = omega arith in
    let long = AllZip-long (λ c t. FitsScalar c.base t) columns cells st.fit in
    none_there n cells s (rw (inside, place, items-trees_of cells) (slice_get_past cells at (omega (arith, long))))

pub one_clause : (n : ℕ) (cells : List Tree) (s : Selection) (at : ℕ) (v : Value) → n < s.column → at ≡ s.column - n - 1 → slice_get cells at ≡ Some (one v) → kept (s ∷ []) n (many (trees_of cells)) ≡ holds s v
one_clause n cells s at v lt at_is is =
    let inside : nat_lt n s.column ≡ true = grind (arith, nat_tests) in
    let place : s.column - (n + 1) ≡ at = omega arith in
    let there : cell_at n (many (trees_of cells)) s.column ≡ Some (one v) = rw (inside, place, items-trees_of cells) is in
    rw (there, or-false (holds s v)) (and-true (holds s v))
  where
    and-true : (b : Bool) → (b && true) ≡ b
    and-true true = refl
    and-true false = refl

-- ---- clauses, one by one
pub kept-more : (n : ℕ) (row : Tree) (tests : List Test) (i : ℕ) (d : Test) → i < length tests
    → kept (map selection_of (take (i + 1) tests)) n row ≡ (kept (map selection_of (take i tests)) n row && kept (selection_of (get_or tests i d) ∷ []) n row)
kept-more n row tests i d lt =
    ap (λ xs. kept (map selection_of xs) n row) (take_more tests i d lt)
    ∙ ap (λ xs. kept xs n row) (map-append selection_of (take i tests) (get_or tests i d ∷ []))
    ∙ list_all-append _ (map selection_of (take i tests)) (selection_of (get_or tests i d) ∷ [])

pub kept-one-more : (n : ℕ) (row : Tree) (tests : List Test) (i : ℕ) (d : Test) → i < length tests → d ≡ get_or tests i d → kept (map selection_of (take i tests)) n row ≡ true → kept (selection_of d ∷ []) n row ≡ true
    → kept (map selection_of (take (i + 1) tests)) n row ≡ true
kept-one-more n row tests i d lt is before here =
    let here' : kept (selection_of (get_or tests i d) ∷ []) n row ≡ true = subst (λ x. kept (selection_of x ∷ []) n row ≡ true) is here in
    kept-more n row tests i d lt ∙ rw (before, here') refl

pub not-kept : (n : ℕ) (row : Tree) (tests : List Test) (i : ℕ) (d : Test) → i < length tests → d ≡ get_or tests i d → kept (selection_of d ∷ []) n row ≡ false → kept (map selection_of tests) n row ≡ false
not-kept n row tests i d lt is here =
    ap (λ xs. kept (map selection_of xs) n row) (split_at tests i d lt)
    ∙ ap (λ xs. kept xs n row) (map-append selection_of (take i tests) (get_or tests i d ∷ drop (suc i) tests))
    ∙ list_all-append _ (map selection_of (take i tests)) (map selection_of (get_or tests i d ∷ drop (suc i) tests))
    ∙ spoiled _ _ _ (subst (λ x. kept (selection_of x ∷ []) n row ≡ false) is here)
  where
    split_at : (xs : List Test) (i : ℕ) (d : Test) → i < length xs → xs ≡ take i xs ++ (get_or xs i d ∷ drop (suc i) xs)
    split_at [] i d lt = absurd (omega arith)
    split_at (x ∷ xs) zero d lt = refl
    split_at (x ∷ xs) (suc i) d lt = ap (λ ys. x ∷ ys) (split_at xs i d (omega arith))

    spoiled : (a b c : Bool) → (b && true) ≡ false → (a && (b && c)) ≡ false
    spoiled true true c is = cc is
    spoiled true false c is = refl
    spoiled false b c is = refl

pub all-kept : (n : ℕ) (row : Tree) (tests : List Test) (i : ℕ) → length tests ≤ i → kept (map selection_of (take i tests)) n row ≡ true → kept (map selection_of tests) n row ≡ true
all-kept n row tests i le is = ap (λ xs. kept (map selection_of xs) n row) (sym (take_all i tests le)) ∙ is
