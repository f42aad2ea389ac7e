-- What is known once some top members were looked at.
use Rattle.std.specs.Prelude.{◌≡◌, ◌≤◌, ℕ, Bool, true, false, ◌&&◌, ◌||◌, not, is_none, List, [], ◌∷◌, ◌++◌, map, find, ◌==◌, Option, Some, None, option_map, Result, Ok, Err, ⊤, if◌then◌else◌}
use Rattle.std.specs.List.{list_any, position_from}
use Rattle.std.specs.Option.{option_map_or}
use Rattle.std.specs.Str.{bytes_eq}
use Rattle.dap_types.specs.Model.{Member}
use Rattle.dap_types.specs.declared.declarations.Dim.{Dim}
use Rattle.dap_types.specs.declared.memory.Memory as want
use Rattle.netcdf_writer.specs.Causes.{is_other_than, is_other_kind, lacks_name, has_bad_name, is_bad_grid, clashes, has_bad_zero, dims_clash, records_clash, why, first_cause, most_record}
use Rattle.netcdf_writer.specs.Variables.{Variable, Top, own, is_array, is_same, dim_name, is_named, first_uses, all_dims, all_maps, has_name, is_empty_dim, top_named, stored_from, record_bytes}
use Rattle.netcdf_writer.specs.inner.Tables.{top_view, variable_view, variable_views, under}
use Rattle.netcdf_writer.specs.declared.dims.Dims.{Dims}
use Rattle.netcdf_writer.specs.declared.lent.Lent.{Lent}
use Rattle.netcdf_writer.specs.declared.plan.Plan.{Plan}
use Rattle.netcdf_writer.specs.declared.plan.Record.{Record}
use Rattle.netcdf_writer.specs.declared.stored.Stop.{Stop}
use Rattle.netcdf_writer.specs.declared.stored.Stop.TheVariants as stops
use Rattle.netcdf_writer.specs.declared.stored.Why.{Why}
use Rattle.netcdf_writer.specs.declared.stored.Why.TheVariants.{Kind, NoName, BadName, BadGrid, Clash, Zero}
use Rattle.netcdf_writer.specs.declared.table.Table.{Table}
use Rattle.netcdf_writer.specs.declared.tops.Top as lent_top

abbrev pub TopMember : Type 0
TopMember = Top

abbrev pub Dimension : Type 0
Dimension = Dim

-- the first cause that a member has by itself
unfoldable pub why_alone : Member → Option Why
why_alone m =
    if is_other_kind m then Some Kind
    else if lacks_name m then Some NoName
    else if has_bad_name m then Some BadName
    else if is_bad_grid m then Some BadGrid
    else None

-- top members and maps by their names
unfoldable pub AreTops : Table lent_top.Top → List Top → Type 0
AreTops names tops = (q : List ℕ) → option_map top_view (under names q) ≡ top_named q tops

unfoldable pub AreMaps : Table Lent → List Variable → Type 0
AreMaps maps vs = (q : List ℕ) → option_map variable_view (under maps q) ≡ find (has_name q) vs

-- what a map meets in these tables: whether it is stored, and whether it has the name of what it is not
unfoldable pub new_in : Table lent_top.Top → Table Lent → Variable → Bool
new_in names maps v = not (option_map_or (λ t. is_array (top_view t)) (under names v.name) false) && is_none (under maps v.name)

unfoldable pub clash_in : Table lent_top.Top → Table Lent → Variable → Bool
clash_in names maps v = option_map_or (λ t. is_other_than v (top_view t)) (under names v.name) false || option_map_or (λ m. not (is_same v (variable_view m))) (under maps v.name) false

abbrev pub own_of : Top → List Variable
own_of top = own top

-- ---- dimensions

-- the dimensions in the order of their first use, their numbers and their sizes
pub record AreDims (dims : Dims) (ds : List Dim) : Type 0 where
  pub list : map (λ d. d.now) dims.list.items ≡ first_uses [] ds
  pub numbers : (q : List ℕ) → option_map (λ k. k.number) (under dims.known q) ≡ position_from (is_named q) 0 (first_uses [] ds)
  pub sizes : (q : List ℕ) → option_map (λ k. k.size) (under dims.known q) ≡ option_map (λ d. d.size) (find (is_named q) ds)

-- the number of a dimension, by its name
abbrev pub number_in : Dims → Dim → ℕ
number_in dims d = option_map_or (λ k. k.number) (under dims.known (dim_name d)) 0

abbrev pub AddsDims : Dims → Dims → List Dim → Result Bool want.Memory → Type 0
AddsDims old new ds (Ok fine) = (earlier : List Dim) → AreDims old earlier → (fine ≡ not (dims_clash earlier ds)) × (fine ≡ true → AreDims new (earlier ++ ds))
AddsDims old new ds (Err e) = ⊤

-- ---- the record dimension

abbrev pub is_second : Option Dim → List Dim → Bool
is_second own dims = list_any (λ d. d.size == 0 && option_map_or (λ e. not (bytes_eq (dim_name e) (dim_name d))) own false) dims

pub record IsRecord (r : Record) (vs : List Variable) : Type 0 where
  pub dim : option_map (λ d. d.now) r.dim ≡ find is_empty_dim (all_dims vs)
  pub bytes : r.bytes ≡ record_bytes vs
  pub few : r.bytes ≤ most_record

abbrev pub AddsRecords : Record → Record → List Variable → Bool → Type 0
AddsRecords old new vs fine = (earlier : List Variable) → IsRecord old earlier → (fine ≡ not (records_clash earlier vs)) × (fine ≡ true → IsRecord new (earlier ++ vs))

-- ---- the plan

pub record IsPlanned (p : Plan) (all earlier : List Top) : Type 0 where
  pub variables : variable_views p.variables.items ≡ stored_from all [] earlier
  pub dims : AreDims p.dims (all_dims (stored_from all [] earlier))
  pub maps : AreMaps p.maps (all_maps earlier)
  pub records : IsRecord p.record (stored_from all [] earlier)

-- the causes that a top member has beside others
unfoldable pub why_beside : List Top → List Top → Top → Option Why
why_beside all earlier top = if clashes all earlier top then Some Clash else if has_bad_zero all earlier top then Some Zero else None

abbrev pub GoesOn : Plan → List Top → List Top → Option Why → Type 0
GoesOn new all more (Some w) = ⊤
GoesOn new all more None = IsPlanned new all more

abbrev pub StepsBeside : Plan → List Top → List Top → Top → Option Why → Type 0
StepsBeside new all earlier top answer = (answer ≡ why_beside all earlier top) × GoesOn new all (earlier ++ top ∷ []) answer

abbrev pub StepsTo : Plan → List Top → List Top → Top → Option Why → Type 0
StepsTo new all earlier top answer = (answer ≡ why all earlier top) × GoesOn new all (earlier ++ top ∷ []) answer

-- all top members are planned, or one has the first cause
abbrev pub Plans : List Top → Result Plan Stop → Type 0
Plans tops (Ok p) = (first_cause tops [] 1 tops ≡ None) × IsPlanned p tops tops
Plans tops (Err (stops.Unsavable member w)) = first_cause tops [] 1 tops ≡ Some (member, w)
Plans tops (Err stops.Memory) = ⊤
