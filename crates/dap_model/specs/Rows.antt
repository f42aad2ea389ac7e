-- The rows of a Sequence that a constraint keeps (DAP 2.0, constraint expressions: selections). That
-- texts are ordered by their bytes, and floats not at all, is this project's.
use Rattle.std.specs.Prelude.{ℕ, ◌+◌, ◌-◌, List, Bool, true, false, nat_lt, if◌then◌else◌, Option, Some, None, slice_get}
use Rattle.std.specs.Cmp.Lexicographic.{slice_cmp}
use Rattle.std.specs.List.{list_all, list_any}
use Rattle.std.specs.Option.{option_map_or}
use Rattle.std.specs.Ordering.{int_cmp, nat_cmp}
use Rattle.std.specs.declared.cmp.Ordering.{Ordering}
use Rattle.dap_types.specs.Model.{Tree, kids}
use Rattle.dap_types.specs.declared.values.Value.{Value}
use Rattle.dap_types.specs.declared.values.Value.TheVariants as values
use Rattle.dap_model.specs.Filter.{Keeps}
use Rattle.dap_model.specs.Fits.{values_in}

-- how two values stand to one another, where they are ordered: whole numbers as numbers, texts by
-- their bytes
abbrev pub order : Value → Value → Option Ordering
order (values.Whole a) (values.Whole b) = Some (int_cmp a b)
order (values.Text a) (values.Text b) = Some (slice_cmp nat_cmp a b)
order v w = None

-- one clause of a selection: a column by its number as a member, a relation as the orders that
-- belong to it, and the values of which one has to stand in that relation
pub record Selection : Type 0 where
  pub column : ℕ
  pub relation : Ordering → Bool
  pub values : List Value

-- a value of the column stands in the relation to one of the values
abbrev pub holds : Selection → Value → Bool
holds clause v = list_any (λ w. option_map_or clause.relation (order v w) false) clause.values

-- the cell of member k in a row of the Sequence n, whose first column is member n + 1
abbrev pub cell_at : ℕ → Tree → ℕ → Option Tree
cell_at n row k = if nat_lt n k then slice_get (kids row) (k - (n + 1)) else None

-- the rows in which every clause on a column of their Sequence holds
abbrev pub kept : List Selection → Keeps
kept clauses n row =
    list_all (λ clause. option_map_or (λ cell. list_any (holds clause) (values_in cell)) (cell_at n row clause.column) true) clauses
