-- The columns of a header, field by field.
use Rattle.std.proofs.Common.{◌≡◌, ◌≤◌, ◌<◌, ◌+◌, ℕ, suc, Bool, true, false, List, [], ◌∷◌, ◌++◌, Some, None, length, take, drop, get_or, map, refl, sym, ap, ◌∙◌, drop-cons, add-one}
use Rattle.std.specs.Prelude.{if◌then◌else◌, cond, ◌||◌}
use Rattle.std.specs.BTreeMap.{BTreeMap, get_by, UpdatesBy}
use Rattle.std.specs.Borrow.{Bor}
use Rattle.std.specs.Cmp.Lexicographic.{slice_cmp}
use Rattle.std.specs.List.{list_any}
use Rattle.std.specs.Option.{is_some}
use Rattle.std.specs.Ordering.{nat_cmp}
use Rattle.std.specs.Str.{bytes_eq}
use Rattle.std.proofs.Math.Bool.{or-false, or-true}
use Rattle.std.proofs.lemmas.Map.Text.{btree_map_updates_str}
use Rattle.std.proofs.lemmas.Cmp.{nat_list_eq_equiv}
use Rattle.std.proofs.lemmas.List.{drop_all, map-append, take_more}
use Rattle.std.proofs.lemmas.List.Folds.{list_any-append}
use Rattle.plain_lemmas.proofs.Lists.{drop_here}
use Rattle.dap_types.specs.declared.declarations.BaseType.{BaseType}
use Rattle.dap_types.specs.declared.declarations.BaseType.TheVariants.{Text}
use Rattle.dap_types.specs.declared.declarations.Column.{Column}
use Rattle.csv_source.specs.Header.{column_of, columns_from, repeated_from, type_mark, typed_by}
use Rattle.csv_source.specs.Names.{has_suffix, before_suffix}

-- the type of a field
typed-step : (bases : List BaseType) (i : ℕ) (d : BaseType) (field : List ℕ) → i < length bases
    → typed_by (drop i bases) field ≡ (if has_suffix (type_mark (get_or bases i d)) field then (before_suffix (type_mark (get_or bases i d)) field, get_or bases i d) else typed_by (drop (i + 1) bases) field)
unfolding typed_by
typed-step bases i d field lt = rw (drop-cons bases i d lt, add-one) refl

pub typed-hit : (bases : List BaseType) (i : ℕ) (d : BaseType) (field : List ℕ) → i < length bases → has_suffix (type_mark (get_or bases i d)) field ≡ true
    → typed_by (drop i bases) field ≡ (before_suffix (type_mark (get_or bases i d)) field, get_or bases i d)
typed-hit bases i d field lt is = typed-step bases i d field lt ∙ rw is refl

pub typed-miss : (bases : List BaseType) (i : ℕ) (d : BaseType) (field : List ℕ) → i < length bases → has_suffix (type_mark (get_or bases i d)) field ≡ false
    → typed_by (drop i bases) field ≡ typed_by (drop (i + 1) bases) field
typed-miss bases i d field lt is = typed-step bases i d field lt ∙ rw is refl

pub typed-end : (bases : List BaseType) (i : ℕ) (field : List ℕ) → length bases ≤ i → typed_by (drop i bases) field ≡ (field, Text)
unfolding typed_by
typed-end bases i field le = rw (drop_all i bases le) refl

-- the columns from a field on
pub columns-step : (number : ℕ) (fields rest : List (List ℕ)) (field : List ℕ) → fields ≡ field ∷ rest
    → columns_from number fields ≡ column_of number field ∷ columns_from (number + 1) rest
unfolding columns_from
columns-step number fields rest field is = rw is refl

pub columns-end : (number : ℕ) (fields : List (List ℕ)) → fields ≡ [] → columns_from number fields ≡ []
unfolding columns_from
columns-end number fields is = rw is refl

pub columns-length : (number : ℕ) (fields : List (List ℕ)) → length (columns_from number fields) ≡ length fields
unfolding columns_from
columns-length number [] = refl
columns-length number (field ∷ fields) = ap suc (columns-length (number + 1) fields)

-- the first name that comes again
repeated-step : (columns : List Column) (i number : ℕ) (c : Column) (earlier : List (List ℕ)) → i < length columns → c ≡ get_or columns i c
    → repeated_from number earlier (drop i columns) ≡ (if list_any (bytes_eq c.name) earlier then Some number else repeated_from (number + 1) (earlier ++ c.name ∷ []) (drop (i + 1) columns))
unfolding repeated_from
repeated-step columns i number c earlier lt is = rw (drop_here columns i c lt is) refl

pub repeated-hit : (columns : List Column) (i number : ℕ) (c : Column) (earlier : List (List ℕ)) → i < length columns → c ≡ get_or columns i c
    → list_any (bytes_eq c.name) earlier ≡ true → repeated_from number earlier (drop i columns) ≡ Some number
repeated-hit columns i number c earlier lt is here = repeated-step columns i number c earlier lt is ∙ rw here refl

-- the names of the columns before a place, and one more
pub names-more : (columns : List Column) (i : ℕ) (c : Column) → i < length columns → c ≡ get_or columns i c
    → map (λ d. d.name) (take (i + 1) columns) ≡ map (λ d. d.name) (take i columns) ++ c.name ∷ []
names-more columns i c lt is = ap (map (λ d. d.name)) (take_more columns i c lt) ∙ map-append (λ d. d.name) (take i columns) (get_or columns i c ∷ []) ∙ rw (← is) refl

pub repeated-miss : (columns : List Column) (i number : ℕ) (c : Column) → i < length columns → c ≡ get_or columns i c
    → list_any (bytes_eq c.name) (map (λ d. d.name) (take i columns)) ≡ false
    → repeated_from number (map (λ d. d.name) (take i columns)) (drop i columns) ≡ repeated_from (number + 1) (map (λ d. d.name) (take (i + 1) columns)) (drop (i + 1) columns)
repeated-miss columns i number c lt is here = repeated-step columns i number c (map (λ d. d.name) (take i columns)) lt is ∙ rw (here, names-more columns i c lt is) refl

pub repeated-end : (columns : List Column) (i number : ℕ) (earlier : List (List ℕ)) → length columns ≤ i → repeated_from number earlier (drop i columns) ≡ None
unfolding repeated_from
repeated-end columns i number earlier le = rw (drop_all i columns le) refl

-- the names of a map, with one more
flips : (xs ys : List ℕ) → bytes_eq xs ys ≡ bytes_eq ys xs
flips xs ys = nat_list_eq_equiv.symm xs ys

pub names-after : (name : List ℕ) (m n : BTreeMap (Bor (List ℕ)) ℕ) (number : ℕ) (names : List (List ℕ))
    → ((q : List ℕ) → is_some (get_by (λ k. slice_cmp nat_cmp q k.now) m) ≡ list_any (bytes_eq q) names)
    → UpdatesBy (λ x y. slice_cmp nat_cmp x.now y.now) (λ k. slice_cmp nat_cmp name k.now) m n (Some number)
    → (q : List ℕ) → is_some (get_by (λ k. slice_cmp nat_cmp q k.now) n) ≡ list_any (bytes_eq q) (names ++ name ∷ [])
names-after name m n number names before updates q =
    let found = btree_map_updates_str name m n (Some number) updates q in
    let parts = list_any-append (bytes_eq q) names (name ∷ []) in
    ap is_some found ∙ by_test (bytes_eq name q) refl ∙ sym parts
  where
    by_test : (b : Bool) → bytes_eq name q ≡ b
        → is_some (cond (bytes_eq name q) (Some number) (get_by (λ k. slice_cmp nat_cmp q k.now) m)) ≡ (list_any (bytes_eq q) names || (bytes_eq q name || false))
    by_test true is = rw (is, flips q name, is) (sym (or-true (list_any (bytes_eq q) names)))
    by_test false is = rw (is, flips q name, is) (before q ∙ sym (or-false (list_any (bytes_eq q) names)))
