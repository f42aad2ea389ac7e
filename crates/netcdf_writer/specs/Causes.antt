-- Why a dataset cannot be stored as a netCDF file, and its first member for which that is so. What is
-- stored, and the order of the causes, are this project's.
use Rattle.std.specs.Prelude.{ℕ, ◌+◌, ◌^◌, Bool, true, false, ◌&&◌, ◌||◌, not, List, [], ◌∷◌, ◌++◌, drop, find, ◌==◌, nat_lt, Option, Some, None, option_map, is_none, if◌then◌else◌}
use Rattle.std.specs.Cmp.Lexicographic.{pointwise}
use Rattle.std.specs.List.{list_all, list_any}
use Rattle.std.specs.Option.{option_map_or, option_or}
use Rattle.std.specs.Str.{bytes_eq}
use Rattle.dap_types.specs.Model.{Member, scalar, array, structure, grid, sequence, Dataset, Tree, count}
use Rattle.dap_types.specs.declared.declarations.ArrayDecl.{ArrayDecl}
use Rattle.dap_types.specs.declared.declarations.Dim.{Dim}
use Rattle.dap_model.specs.Laws.{is_number}
use Rattle.netcdf_writer.specs.Names.{is_file_name}
use Rattle.netcdf_writer.specs.Variables.{Variable, Top, tops_of, array_variable, maps_of, all_maps, has_name, top_named, stored, stored_from, dim_name, is_named, all_dims, is_empty_dim, is_record, record_bytes, is_same}
use Rattle.netcdf_writer.specs.declared.stored.Why.{Why}
use Rattle.netcdf_writer.specs.declared.stored.Why.TheVariants.{Kind, NoName, BadName, BadGrid, Clash, Zero}

-- ---- the member by itself

-- a Structure, a Sequence, or with texts
unfoldable pub is_other_kind : Member → Bool
is_other_kind (scalar c) = not (is_number c.base)
is_other_kind (array a) = not (is_number a.base)
is_other_kind (grid name a maps) = list_any (λ b. not (is_number b.base)) (a ∷ maps)
is_other_kind (structure name parts) = true
is_other_kind (sequence name columns) = true

-- the arrays of a member
abbrev pub arrays_in : Member → List ArrayDecl
arrays_in (array a) = a ∷ []
arrays_in (grid name a maps) = a ∷ maps
arrays_in m = []

-- a dimension has no name
unfoldable pub lacks_name : Member → Bool
lacks_name m = list_any (λ a. list_any (λ d. is_none d.name) a.dims) (arrays_in m)

-- the name of an array or of one of its dimensions is none of a netCDF file
unfoldable pub is_misnamed : ArrayDecl → Bool
is_misnamed a = not (is_file_name a.name) || list_any (λ d. not (is_file_name (dim_name d))) a.dims

unfoldable pub has_bad_name : Member → Bool
has_bad_name (scalar c) = not (is_file_name c.name)
has_bad_name m = list_any is_misnamed (arrays_in m)

-- the map of a dimension has its name, as does its own dimension
unfoldable pub is_map_of : ArrayDecl → Dim → Bool
is_map_of m d = bytes_eq m.name (dim_name d) && list_all (λ e. bytes_eq (dim_name e) (dim_name d)) m.dims

-- a Grid whose array has another name, or one of whose maps is no coordinate variable of its dimension
unfoldable pub is_bad_grid : Member → Bool
is_bad_grid (grid name a maps) = not (bytes_eq a.name name) || not (pointwise is_map_of maps a.dims)
is_bad_grid m = false

-- ---- the member and others

-- a top member beside which a map of its name cannot stand
unfoldable pub is_other_than : Variable → Top → Bool
is_other_than v (scalar c, t) = true
is_other_than v (grid name a maps, t) = true
is_other_than v (array a, t) = not (is_same v (array_variable a t))
is_other_than v (structure name parts, t) = false
is_other_than v (sequence name columns, t) = false

-- the map has the name of a top scalar or Grid, or of a top array or an earlier map that is another one
unfoldable pub map_clashes : List Top → List Top → Variable → Bool
map_clashes all earlier v = option_map_or (is_other_than v) (top_named v.name all) false || option_map_or (λ m. not (is_same v m)) (find (has_name v.name) (all_maps earlier)) false

-- one of these dimensions has the name of an earlier one, and another size
unfoldable pub dims_clash : List Dim → List Dim → Bool
dims_clash earlier [] = false
dims_clash earlier (d ∷ ds) = option_map_or (λ e. not (e.size == d.size)) (find (is_named (dim_name d)) earlier) false || dims_clash (earlier ++ d ∷ []) ds

unfoldable pub clashes : List Top → List Top → Top → Bool
clashes all earlier top = list_any (map_clashes all earlier) (maps_of top) || dims_clash (all_dims (stored_from all [] earlier)) (all_dims (stored all earlier top))

-- ---- dimensions of size 0

-- a dimension of size 0 is not the first
abbrev pub is_inner_record : Variable → Bool
is_inner_record v = list_any is_empty_dim (drop 1 v.dims)

-- or has another name than an earlier one of size 0
abbrev pub is_second_record : List Dim → Variable → Bool
is_second_record earlier v = list_any (λ d. d.size == 0 && option_map_or (λ e. not (bytes_eq (dim_name e) (dim_name d))) (find is_empty_dim earlier) false) v.dims

-- what all such variables add to a record
abbrev pub most_record : ℕ
most_record = 2 ^ 30

-- one of these variables cannot have the record dimension
unfoldable pub records_clash : List Variable → List Variable → Bool
records_clash earlier [] = false
records_clash earlier (v ∷ vs) =
    is_inner_record v || is_second_record (all_dims earlier) v || is_record v && nat_lt most_record (record_bytes (earlier ++ v ∷ [])) || records_clash (earlier ++ v ∷ []) vs

unfoldable pub has_bad_zero : List Top → List Top → Top → Bool
has_bad_zero all earlier top = records_clash (stored_from all [] earlier) (stored all earlier top)

-- ---- the first cause

-- that of a top member behind earlier ones
unfoldable pub why : List Top → List Top → Top → Option Why
why all earlier top =
    if is_other_kind top.0 then Some Kind
    else if lacks_name top.0 then Some NoName
    else if has_bad_name top.0 then Some BadName
    else if is_bad_grid top.0 then Some BadGrid
    else if clashes all earlier top then Some Clash
    else if has_bad_zero all earlier top then Some Zero
    else None

-- the number of the first top member with a cause, and its cause
unfoldable pub first_cause : List Top → List Top → ℕ → List Top → Option (ℕ × Why)
first_cause all earlier n [] = None
first_cause all earlier n (top ∷ tops) = option_or (option_map (λ w. (n, w)) (why all earlier top)) (first_cause all (earlier ++ top ∷ []) (n + count top.0) tops)

-- that of a dataset: members are numbered in preorder from 1
abbrev pub unsavable : Dataset → List Tree → Option (ℕ × Why)
unsavable d ts = let tops = tops_of d.members ts in first_cause tops [] 1 tops
