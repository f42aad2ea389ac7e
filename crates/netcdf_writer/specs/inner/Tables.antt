-- What stands under names.
use Rattle.std.specs.Prelude.{◌≡◌, ℕ, List, map, Option, Some, None, if◌then◌else◌}
use Rattle.std.specs.Option.{option_or}
use Rattle.std.specs.Str.{bytes_eq}
use Rattle.indexmap.specs.IndexMap.{get_by}
use Rattle.dap_types.specs.View.{member_view, tree_view}
use Rattle.netcdf_writer.specs.Variables.{Top, Variable}
use Rattle.netcdf_writer.specs.declared.lent.Lent as code
use Rattle.netcdf_writer.specs.declared.tops.Top as lent_top
use Rattle.netcdf_writer.specs.declared.table.Table.{Table}

-- a variable that is lent
abbrev pub variable_view : code.Lent → Variable
variable_view v = record { name = v.name.now; base = v.base; dims = v.dims.now; tree = tree_view v.tree.now }

abbrev pub variable_views : List code.Lent → List Variable
variable_views vs = map variable_view vs

-- what a table has under a name
abbrev pub under : {T : Type 0} → Table T → List ℕ → Option T
under table name = get_by (λ k. bytes_eq name k.items) table.map

-- one more thing, which does not show where something else has its name
abbrev pub Adds : {X : Type 0} → (List ℕ → Option X) → (List ℕ → Option X) → List ℕ → X → Type 0
Adds old new name x = (q : List ℕ) → new q ≡ option_or (old q) (if bytes_eq q name then Some x else None)

abbrev pub top_view : lent_top.Top → Top
top_view top = (member_view top.decl.now, tree_view top.tree.now)

abbrev pub top_views : List lent_top.Top → List Top
top_views tops = map top_view tops
