-- The rows of a table in which each clause of a constraint holds.
use Rattle.std.proofs.Common.{◌≡◌, ℕ, zero, suc, ◌+◌, ◌-◌, ◌<◌, Bool, true, false, List, [], ◌∷◌, ◌++◌, length, map, All, slice_get, get_or, Some, option_map, refl, ap, ◌∙◌, sym, subst, arith}
use Rattle.std.specs.Prelude.{◌↔◌, ◌&&◌, ◌||◌, option_and_then, pos}
use Rattle.std.specs.List.{AllZip, list_any}
use Rattle.std.specs.Option.{option_map_or}
use Rattle.std.proofs.lemmas.Option.{none-some, same_Some, slice_get-map, slice_get_within, slice_get-get_or}
use Rattle.dap_types.specs.Model.{Tree, scalar, sequence, Dataset}
use Rattle.dap_types.specs.WellFormed.{IsWellFormed, paths}
use Rattle.dap_types.specs.declared.declarations.Column.{Column}
use Rattle.dap_types.specs.declared.values.Value.{Value}
use Rattle.dap_types.specs.declared.values.Value.TheVariants as values
use Rattle.dap_types.proofs.Preorder.{member_at-get, number_within}
use Rattle.dap_model.specs.Fits.{values_in}
use Rattle.dap_model.specs.Rows.{Selection, cell_at, holds, kept, order}
use Rattle.std.proofs.lemmas.List.Elements.{All-cons, All-nil}
use Rattle.std.proofs.lemmas.List.Folds.{list_all-append}
use Rattle.std.proofs.lemmas.Bool.{and_from, or_right}
use Rattle.plain_lemmas.proofs.Truths.{both_true}
use Rattle.dap_model.proofs.Paths.{paths_differ}
use Rattle.dap_model.proofs.Values.{all_first, all_rest}
use Rattle.constraint_parse.specs.declared.constraint.Number.TheVariants.{Small, Big}
use Rattle.constraint_parse.specs.declared.constraint.Op.{Op}
use Rattle.constraint_parse.specs.declared.constraint.Constant.{Constant}
use Rattle.constraint_parse.specs.declared.constraint.Constant.TheVariants.{Whole, Text, Other}
use Rattle.constraint_parse.specs.declared.constraint.Clause.{Clause}
use Rattle.constraint_parse.specs.declared.constraint.Clause.TheVariants.{Compare}
use Rattle.csv_source.specs.Dataset.{row_tree, table_dataset}
use Rattle.csv_source.specs.Names.{sequence_name}
use Rattle.csv_source.specs.Table.{CsvTable, value_at}
use Rattle.sequence_select.specs.Comparisons.{IsColumn, IsSelectionOf, IsValue}
use Rattle.sequence_select.specs.KeptRows.{HoldsIn}
use Rattle.sequence_select.specs.Laws.{RowsAreKept}
use Rattle.sequence_select.specs.Operators.{Stands}
use Rattle.sequence_select.specs.Selections.{relation_of, row_of, selections}
use Rattle.sequence_select.proofs.NoneLost.{none-lost}
use Rattle.sequence_select.proofs.Orders.{operators-relate}
use Rattle.dap_model.proofs.Parents.{Path, in-first, one-place, path_at}
use Rattle.sequence_select.proofs.RowFacts.{one-selection}

-- ---- one of the constants

abbrev found_in : Op → Value → Value → Bool
found_in op v w = option_map_or (relation_of op) (order v w) false

record HasOne (op : Op) (v : Value) (constants : List Constant) : Type 0 where
  place : ℕ
  constant : Constant
  constant_is : slice_get constants place ≡ Some constant
  value : Value
  value_is : IsValue constant value
  stands : Stands op v value

later-one : (op : Op) (v : Value) (c : Constant) (constants : List Constant) → HasOne op v constants → HasOne op v (c ∷ constants)
later-one op v c constants one = record { place = suc one.place; constant = one.constant; constant_is = one.constant_is; value = one.value; value_is = one.value_is; stands = one.stands }

has-one : (op : Op) (v : Value) (constants : List Constant) (ws : List Value) → AllZip IsValue constants ws → list_any (found_in op v) ws ≡ true → HasOne op v constants
has-one op v [] [] each is = cc is
has-one op v [] (w ∷ ws) each is = absurd each
has-one op v (c ∷ constants) [] each is = absurd each
has-one op v (c ∷ constants) (w ∷ ws) each is = by (found_in op v w) refl is (λ e. has-one op v constants ws each.1 e)
  where
    by : (b : Bool) → found_in op v w ≡ b → (b || list_any (found_in op v) ws) ≡ true → (list_any (found_in op v) ws ≡ true → HasOne op v constants) → HasOne op v (c ∷ constants)
    by true here e later = record { place = 0; constant = c; constant_is = refl; value = w; value_is = each.0; stands = (operators-relate op v w).0 here }
    by false here e later = later-one op v c constants (later e)

-- a constant is one value
one-value : (c : Constant) (v w : Value) → IsValue c v → IsValue c w → v ≡ w
one-value (Whole (Small z)) v w is also = is ∙ sym also
one-value (Whole Big) v w is also = absurd is
one-value (Text bytes) v w is also = is ∙ sym also
one-value Other v w is also = absurd is

is-found : (op : Op) (v : Value) (constants : List Constant) (ws : List Value) → AllZip IsValue constants ws → (k : ℕ) (c : Constant) (w : Value) → slice_get constants k ≡ Some c → IsValue c w → Stands op v w
    → list_any (found_in op v) ws ≡ true
is-found op v [] ws each k c w here is stands = absurd (none-some c here)
is-found op v (x ∷ constants) [] each k c w here is stands = absurd each
is-found op v (x ∷ constants) (y ∷ ws) each zero c w here is stands =
    let same : x ≡ c = same_Some x c here in
    let value : y ≡ w = one-value c y w (subst (λ a. IsValue a y) same each.0) is in
    let found : found_in op v y ≡ true = ap (found_in op v) value ∙ (operators-relate op v w).1 stands in
    rw found refl
is-found op v (x ∷ constants) (y ∷ ws) each (suc k) c w here is stands =
    or_right (found_in op v y) (list_any (found_in op v) ws) (is-found op v constants ws each.1 k c w here is stands)

-- ---- the column

record IsAt (t : CsvTable) (path : Path) (number : ℕ) : Type 0 where
  place : ℕ
  column : Column
  column_is : slice_get t.columns place ≡ Some column
  path_is : path ≡ sequence_name t.file_name ∷ column.name ∷ []
  number_is : number ≡ place + 2

in-map : (columns : List Column) (k : ℕ) (name : List ℕ) (cs : List Column) → slice_get (map scalar columns ++ []) k ≡ Some (sequence name cs) → ⊥
in-map [] k name cs is = absurd (none-some _ is)
in-map (c ∷ columns) zero name cs is = cc is
in-map (c ∷ columns) (suc k) name cs is = in-map columns k name cs is

-- the only Sequence of a table's dataset is the first member
first-member : (t : CsvTable) (k : ℕ) (name : List ℕ) (columns : List Column) → slice_get ((sequence (sequence_name t.file_name) t.columns ∷ map scalar t.columns) ++ []) k ≡ Some (sequence name columns)
    → (k ≡ 0) × (t.columns ≡ columns)
first-member t zero name columns is = (refl, cc is)
first-member t (suc k) name columns is = absurd (in-map t.columns k name columns is)

is-at : (t : CsvTable) (path : Path) (number : ℕ) → IsColumn (table_dataset t) path number → IsAt t path number
is-at t path number c =
    let d : Dataset = table_dataset t in
    let within = number_within d c.whole c.whole_number c.whole_has in
    let (start, same) = first-member t (c.whole_number - 1) c.name c.columns (sym (member_at-get d c.whole_number within.0) ∙ c.whole_is) in
    let whole : Some (sequence_name t.file_name ∷ []) ≡ Some c.whole = subst (λ k. slice_get (paths d.members) k ≡ Some c.whole) start (path_at d c.whole c.whole_number c.whole_has).1 in
    record {
      place = c.place;
      column = c.column;
      column_is = ap (λ cs. slice_get cs c.place) same ∙ c.column_is;
      path_is = c.path_is ∙ ap (λ p. p ++ c.column.name ∷ []) (sym (same_Some _ _ whole));
      number_is = omega (arith, c.number_is, start, within.0);
    }

column-path : (t : CsvTable) (place : ℕ) (column : Column) → slice_get t.columns place ≡ Some column → slice_get (paths (table_dataset t).members) (suc place) ≡ Some (sequence_name t.file_name ∷ column.name ∷ [])
column-path t place column is =
    in-first (map (λ path. sequence_name t.file_name ∷ path) (map (λ c. c.name ∷ []) t.columns)) [] place (sequence_name t.file_name ∷ column.name ∷ [])
    (slice_get-map (λ path. sequence_name t.file_name ∷ path) (map (λ c. c.name ∷ []) t.columns) place
    ∙ ap (option_map (λ path. sequence_name t.file_name ∷ path)) (slice_get-map (λ c. c.name ∷ []) t.columns place ∙ ap (option_map (λ c. c.name ∷ [])) is))

-- ---- one clause

cell-of : (t : CsvTable) (row place : ℕ) (column : Column) → All (λ values. length values ≡ length t.columns) t.rows → row < length t.rows → slice_get t.columns place ≡ Some column → (v : Value) × (value_at t row place ≡ Some v)
cell-of t row place column each within is =
    let found : List Value = get_or t.rows row [] in
    let here : slice_get t.rows row ≡ Some found = slice_get-get_or t.rows row [] within in
    let lt : place < length found = omega (arith, slice_get_within t.columns place column is, each row [] within) in
    (get_or found place (values.Whole (pos 0)), ap (λ o. option_and_then (λ vs. slice_get vs place) o) here ∙ slice_get-get_or found place (values.Whole (pos 0)) lt)

module _ (t : CsvTable) (row : ℕ) (clause : Clause) (s : Selection) (is : IsSelectionOf (table_dataset t) clause s) (c : IsAt t is.path s.column) (v : Value) (v_is : value_at t row c.place ≡ Some v) where
  kept-found : kept (s ∷ []) 1 (row_tree (row_of t row)) ≡ list_any (found_in is.op v) s.values
  kept-found =
      let place : s.column - 2 ≡ c.place = omega (arith, c.number_is) in
      one-selection t row s v (omega (arith, c.number_is)) (ap (value_at t row) place ∙ v_is)
      ∙ ap (λ r. list_any (λ w. option_map_or r (order v w) false) s.values) is.relation

  holds-there : kept (s ∷ []) 1 (row_tree (row_of t row)) ≡ true → HoldsIn t row clause
  holds-there e =
      let one = has-one is.op v is.constants s.values is.values (sym kept-found ∙ e) in
      record {
        path = is.path;
        op = is.op;
        constants = is.constants;
        parts = is.parts;
        place = c.place;
        column = c.column;
        column_is = c.column_is;
        path_is = c.path_is;
        cell = v;
        cell_is = v_is;
        constant_place = one.place;
        constant = one.constant;
        constant_is = one.constant_is;
        value = one.value;
        value_is = one.value_is;
        stands = one.stands;
      }

  there-holds : IsWellFormed (table_dataset t) → HoldsIn t row clause → kept (s ∷ []) 1 (row_tree (row_of t row)) ≡ true
  there-holds well h =
      let same : Compare is.path is.op is.constants ≡ Compare h.path h.op h.constants = sym is.parts ∙ h.parts in
      let path : is.path ≡ h.path = cc same in
      let op : h.op ≡ is.op = cc same in
      let constants : is.constants ≡ h.constants = cc same in
      let places : suc c.place ≡ suc h.place =
      one-place (paths (table_dataset t).members) (paths_differ (table_dataset t) well) (suc c.place) (suc h.place) is.path
      (column-path t c.place c.column c.column_is ∙ ap Some (sym c.path_is)) (column-path t h.place h.column h.column_is ∙ ap Some (sym h.path_is ∙ sym path)) in
      let place : c.place ≡ h.place = omega (arith, places) in
      let cell : h.cell ≡ v = same_Some h.cell v (sym h.cell_is ∙ ap (value_at t row) (sym place) ∙ v_is) in
      kept-found
      ∙ is-found is.op v is.constants s.values is.values h.constant_place h.constant h.value (ap (λ l. slice_get l h.constant_place) constants ∙ h.constant_is) h.value_is
      (subst (λ o. Stands o v h.value) op (subst (λ w. Stands h.op w h.value) cell h.stands))

one-holds : (t : CsvTable) (row : ℕ) (clause : Clause) (s : Selection) → IsWellFormed (table_dataset t) → All (λ values. length values ≡ length t.columns) t.rows → row < length t.rows
    → IsSelectionOf (table_dataset t) clause s → (kept (s ∷ []) 1 (row_tree (row_of t row)) ≡ true) ↔ HoldsIn t row clause
one-holds t row clause s well each within is =
    let c = is-at t is.path s.column is.column in
    let (v, v_is) = cell-of t row c.place c.column each within c.column_is in
    (λ e. holds-there t row clause s is c v v_is e, λ h. there-holds t row clause s is c v v_is well h)

-- ---- all clauses

-- what one selection says of a row
abbrev keeps-row : Tree → Selection → Bool
keeps-row r s = option_map_or (λ cell. list_any (holds s) (values_in cell)) (cell_at 1 r s.column) true

first-and-rest : (r : Tree) (s : Selection) (ss : List Selection) → kept (s ∷ ss) 1 r ≡ (kept (s ∷ []) 1 r && kept ss 1 r)
first-and-rest r s ss = list_all-append (keeps-row r) (s ∷ []) ss

all-hold : (t : CsvTable) (row : ℕ) → IsWellFormed (table_dataset t) → All (λ values. length values ≡ length t.columns) t.rows → row < length t.rows
    → (clauses : List Clause) (ss : List Selection) → AllZip (IsSelectionOf (table_dataset t)) clauses ss → (kept ss 1 (row_tree (row_of t row)) ≡ true) ↔ All (HoldsIn t row) clauses
all-hold t row well each within [] [] zip = (λ e. All-nil (HoldsIn t row), λ all. refl)
all-hold t row well each within [] (s ∷ ss) zip = absurd zip
all-hold t row well each within (clause ∷ clauses) [] zip = absurd zip
all-hold t row well each within (clause ∷ clauses) (s ∷ ss) zip =
    let r = row_tree (row_of t row) in
    let split : kept (s ∷ ss) 1 r ≡ (kept (s ∷ []) 1 r && kept ss 1 r) = first-and-rest r s ss in
    let one = one-holds t row clause s well each within zip.0 in
    let rest = all-hold t row well each within clauses ss zip.1 in (
      λ e. let (here, later) = both_true (kept (s ∷ []) 1 r) (kept ss 1 r) (sym split ∙ e) in All-cons (HoldsIn t row) clause clauses (one.0 here) (rest.0 later),
      λ all. split ∙ and_from (kept (s ∷ []) 1 r) (kept ss 1 r) (one.1 (all_first (HoldsIn t row) clause clauses all)) (rest.1 (all_rest (HoldsIn t row) clause clauses all)),
    )

pub rows-are-kept : RowsAreKept
rows-are-kept t c row well each within none =
    let selected = none-lost (table_dataset t) c well none in
    all-hold t row well each within c.clauses (selections (table_dataset t) c) selected.1
