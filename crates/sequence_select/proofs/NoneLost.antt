-- A constraint without a cause has a selection for each clause.
use Rattle.std.proofs.Common.{◌≡◌, ℕ, ◌+◌, ◌-◌, Bool, true, false, not, List, [], ◌∷◌, ◌++◌, length, slice_get, Option, Some, None, option_map, refl, ap, ◌∙◌, sym, subst}
use Rattle.std.specs.Prelude.{◌||◌, nat_lt}
use Rattle.std.specs.List.{AllZip, flat_map, list_any}
use Rattle.std.specs.Option.{option_and_then, option_map_or, option_or}
use Rattle.std.proofs.lemmas.Option.{none-some, same_Some}
use Rattle.dap_types.specs.Model.{Member, scalar, array, structure, grid, sequence, Dataset}
use Rattle.dap_types.specs.WellFormed.{IsWellFormed, member_at, number_of, part_paths}
use Rattle.dap_types.specs.declared.declarations.Column.{Column}
use Rattle.dap_types.proofs.Preorder.{member_at-get, number_within}
use Rattle.dap_errors.specs.declared.cause.Cause.TheVariants as causes
use Rattle.dap_errors.specs.declared.spot.Spot.{Spot}
use Rattle.dap_model.specs.Rows.{Selection}
use Rattle.constraint_parse.specs.declared.constraint.Number.TheVariants.{Small, Big}
use Rattle.constraint_parse.specs.declared.constraint.Constant.{Constant}
use Rattle.constraint_parse.specs.declared.constraint.Constant.TheVariants.{Whole, Text, Other}
use Rattle.constraint_parse.specs.declared.constraint.Clause.{Clause}
use Rattle.constraint_parse.specs.declared.constraint.Clause.TheVariants.{Compare, Match, Call}
use Rattle.dap_errors.specs.declared.spot.Spot.TheVariants as spots
use Rattle.grid_projection.specs.First.{Test, test, first_there}
use Rattle.grid_projection.specs.Members.{Found, named}
use Rattle.grid_projection.specs.Clauses.{clause_cause, clause_path, clause_values, clauses_cause, compared_tests, front, is_comparison, is_big_value, is_float, is_in_sequence, is_mismatch, is_other, is_sequence, scalar_of, scalar_tests}
use Rattle.grid_projection.proofs.Within.{peel}
use Rattle.sequence_select.specs.Comparisons.{IsColumn, IsSelectionOf, IsValue}
use Rattle.grid_projection.specs.Items.{items_cause}
use Rattle.std.proofs.lemmas.Slice.Zip.{AllZip-long}
use Rattle.sequence_select.specs.Laws.{NoClauseIsLost}
use Rattle.sequence_select.specs.Selections.{compared, constant_values, relation_of, selection_in, selections}
use Rattle.dap_model.proofs.Parents.{Path, mapped-from, no-empty, path_at, whole_at}

-- ---- values

each-value : (constants : List Constant) → list_any is_other constants ≡ false → list_any is_big_value constants ≡ false → AllZip IsValue constants (flat_map constant_values constants)
each-value [] plain small = tt
each-value (Whole (Small z) ∷ constants) plain small = (refl, each-value constants plain small)
each-value (Whole Big ∷ constants) plain small = cc small
each-value (Text bytes ∷ constants) plain small = (refl, each-value constants plain small)
each-value (Other ∷ constants) plain small = cc plain

-- ---- columns

named-some : (d : Dataset) (path : Path) (w : Found) → named d path ≡ Some w → (number_of d path ≡ Some w.number) × (member_at d w.number ≡ Some w.variable)
named-some d path w is = by (number_of d path) refl is
  where
    found : (n : ℕ) (o : Option Member) → member_at d n ≡ o → number_of d path ≡ Some n → option_map (λ m. record { number = n; variable = m }) o ≡ Some w
        → (number_of d path ≡ Some w.number) × (member_at d w.number ≡ Some w.variable)
    found n None at number e = absurd (none-some w e)
    found n (Some m) at number e =
        let same : record { number = n; variable = m } ≡ w = same_Some (record { number = n; variable = m }) w e in
        subst (λ (v : Found). (number_of d path ≡ Some v.number) × (member_at d v.number ≡ Some v.variable)) same (number, at)

    by : (o : Option ℕ) → number_of d path ≡ o → option_and_then (λ n. option_map (λ m. record { number = n; variable = m }) (member_at d n)) o ≡ Some w
        → (number_of d path ≡ Some w.number) × (member_at d w.number ≡ Some w.variable)
    by None number e = absurd (none-some w e)
    by (Some n) number e = found n (member_at d n) refl number e

-- the Sequence around a path
record IsInside (d : Dataset) (path : Path) : Type 0 where
  number : ℕ
  name : List ℕ
  columns : List Column
  has : number_of d (front path) ≡ Some number
  is : member_at d number ≡ Some (sequence name columns)

inside : (d : Dataset) (path : Path) → is_in_sequence d path ≡ true → IsInside d path
inside d path is = by (named d (front path)) refl is
  where
    of_kind : (m : Member) → is_sequence m ≡ true → (name : List ℕ) × (columns : List Column) × (m ≡ sequence name columns)
    of_kind (scalar column) e = cc e
    of_kind (array a) e = cc e
    of_kind (structure name parts) e = cc e
    of_kind (grid name a maps) e = cc e
    of_kind (sequence name columns) e = (name, columns, refl)

    by : (o : Option Found) → named d (front path) ≡ o → option_map_or (λ w. is_sequence w.variable) o false ≡ true → IsInside d path
    by None found e = cc e
    by (Some w) found e =
        let (name, columns, kind) = of_kind w.variable e in
        let (has, at) = named-some d (front path) w found in
        record { number = w.number; name = name; columns = columns; has = has; is = at ∙ ap Some kind }

front-last : (name : List ℕ) (path : Path) → (last : List ℕ) × (name ∷ path ≡ front (name ∷ path) ++ last ∷ [])
front-last name [] = (name, refl)
front-last name (next ∷ path) = let (last, parts) = front-last next path in (last, ap (λ l. name ∷ l) parts)

column-of : (d : Dataset) → IsWellFormed d → (path : Path) (n : ℕ) → number_of d path ≡ Some n → IsInside d path → IsColumn d path n
column-of d well [] n has s = absurd (no-empty d.members (n - 1) (path_at d [] n has).1)
column-of d well (x ∷ []) n has s = absurd (no-empty d.members (s.number - 1) (path_at d [] s.number s.has).1)
column-of d well (x ∷ y ∷ more) n has s =
    let (last, parts) = front-last y more in
    let same : x ∷ y ∷ more ≡ x ∷ (front (y ∷ more) ++ last ∷ []) = ap (λ l. x ∷ l) parts in
    let (place, variable, at, part, count) = whole_at d well x (front (y ∷ more)) last s.number n s.has (subst (λ p. number_of d p ≡ Some n) same has) in
    let within = number_within d (x ∷ front (y ∷ more)) s.number s.has in
    let kind : variable ≡ sequence s.name s.columns = same_Some variable (sequence s.name s.columns) (sym at ∙ sym (member_at-get d s.number within.0) ∙ s.is) in
    let (column, here, named_so) = mapped-from (λ c. c.name ∷ []) s.columns place (last ∷ []) (subst (λ m. slice_get (part_paths m) place ≡ Some (last ∷ [])) kind part) in
    let last_is : column.name ≡ last = cc named_so in
    record {
      whole = x ∷ front (y ∷ more);
      whole_number = s.number;
      name = s.name;
      columns = s.columns;
      place = place;
      column = column;
      whole_has = s.has;
      whole_is = s.is;
      column_is = here;
      path_is = same ∙ ap (λ l. x ∷ (front (y ∷ more) ++ l ∷ [])) (sym last_is);
      number_is = count;
    }

-- ---- clauses

-- what tests without a cause say of a comparison
record HasNoCause (d : Dataset) (path : Path) (constants : List Constant) : Type 0 where
  w : Found
  found : named d path ≡ Some w
  is_inside : is_in_sequence d path ≡ true
  small : list_any is_big_value constants ≡ false

small-values : (column : Column) (constants : List Constant) (spot : Spot) → first_there (scalar_tests true (Some column) constants) spot ≡ None → list_any is_big_value constants ≡ false
small-values column constants spot none =
    (peel (test (list_any is_big_value constants) causes.BigNumber)
    (test (is_float column.base) causes.FloatCompared ∷ test (list_any (is_mismatch column.base) constants) causes.TypeMismatch ∷ []) spot none).0

no-cause : (d : Dataset) (path : Path) (constants : List Constant) (spot : Spot) → first_there (compared_tests (is_in_sequence d path) (named d path) constants) spot ≡ None → HasNoCause d path constants
no-cause d path constants spot none = by (named d path) refl (is_in_sequence d path) refl none
  where
    on_scalar : (w : Found) → named d path ≡ Some w → (b : Bool) → is_in_sequence d path ≡ b → (o : Option Column) → first_there (scalar_tests b o constants) spot ≡ None → HasNoCause d path constants
    on_scalar w found b is None e = cc e
    on_scalar w found false is (Some column) e = cc e
    on_scalar w found true is (Some column) e = record { w = w; found = found; is_inside = is; small = small-values column constants spot e }

    by : (o : Option Found) → named d path ≡ o → (b : Bool) → is_in_sequence d path ≡ b → first_there (compared_tests b o constants) spot ≡ None → HasNoCause d path constants
    by None found b is e = cc e
    by (Some w) found b is e = on_scalar w found b is (scalar_of w.variable) e

-- behind the first two tests
supported : (d : Dataset) (k : ℕ) (clause : Clause) → clause_cause d k clause ≡ None
    → ((not (is_comparison clause) || list_any is_other (clause_values clause)) ≡ false)
    × (first_there (compared_tests (is_in_sequence d (clause_path clause)) (named d (clause_path clause)) (clause_values clause)) (spots.Clause k) ≡ None)
supported d k clause none =
    let kind : Test = test (not (is_comparison clause) || list_any is_other (clause_values clause)) causes.Unsupported in
    let rest : List Test = compared_tests (is_in_sequence d (clause_path clause)) (named d (clause_path clause)) (clause_values clause) in
    peel kind rest (spots.Clause k) (peel (test (nat_lt 1024 k || nat_lt 1024 (length (clause_values clause))) causes.TooMany) (kind ∷ rest) (spots.Clause k) none).1

-- the one selection of a clause
abbrev IsOneOf : Dataset → Clause → List Selection → Type 0
IsOneOf d clause found = (s : Selection) × (found ≡ s ∷ []) × IsSelectionOf d clause s

one-of : (d : Dataset) → IsWellFormed d → (k : ℕ) (clause : Clause) → clause_cause d k clause ≡ None → IsOneOf d clause (selection_in (number_of d) clause)
one-of d well k Match none = cc (supported d k Match none).0
one-of d well k Call none = cc (supported d k Call none).0
one-of d well k (Compare path op constants) none =
    let rest = supported d k (Compare path op constants) none in
    let clean = no-cause d path constants (spots.Clause k) rest.1 in
    let has = named-some d path clean.w clean.found in
    let s : Selection = record { column = clean.w.number; relation = relation_of op; values = flat_map constant_values constants } in (
      s,
      ap (λ o. compared o op constants) has.0,
      record {
        path = path;
        op = op;
        constants = constants;
        parts = refl;
        column = column-of d well path clean.w.number has.0 (inside d path clean.is_inside);
        relation = refl;
        values = each-value constants rest.0 clean.small;
      },
    )

either-none : {X : Type 0} (a b : Option X) → option_or a b ≡ None → (a ≡ None) × (b ≡ None)
either-none None b is = (refl, is)
either-none (Some x) b is = cc is

pub each-selected : (d : Dataset) → IsWellFormed d → (k : ℕ) (clauses : List Clause) → clauses_cause d k clauses ≡ None → AllZip (IsSelectionOf d) clauses (flat_map (selection_in (number_of d)) clauses)
each-selected d well k [] none = tt
each-selected d well k (clause ∷ clauses) none =
    let parts = either-none (clause_cause d k clause) (clauses_cause d (k + 1) clauses) none in
    let (s, alone, is) = one-of d well k clause parts.0 in
    let rest = each-selected d well (k + 1) clauses parts.1 in
    subst (λ found. AllZip (IsSelectionOf d) (clause ∷ clauses) (found ++ flat_map (selection_in (number_of d)) clauses)) (sym alone) (is, rest)

pub none-lost : NoClauseIsLost
none-lost d c well none =
    let each = each-selected d well 1 c.clauses (either-none (items_cause d [] c.items) (clauses_cause d 1 c.clauses) none).1 in
    (AllZip-long (IsSelectionOf d) c.clauses (selections d c) each, each)
