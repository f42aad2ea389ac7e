-- The values of trees, one tree after the other.
use Rattle.std.proofs.Common.{◌≡◌, ℕ, ◌+◌, ◌<◌, ◌≤◌, List, [], ◌∷◌, ◌++◌, length, drop, get_or, refl, sym, ap, ◌∙◌, append-nil}
use Rattle.std.proofs.lemmas.Grind.{flat_map-append}
use Rattle.dap_types.specs.View.{tree_view, trees_view}
use Rattle.dap_types.specs.declared.declarations.BaseType.{BaseType}
use Rattle.dap_types.specs.declared.values.Tree.{Tree}
use Rattle.dap_types.specs.declared.values.Tree as tree_code
use Rattle.dap_types.specs.declared.values.Value.{Value}
use Rattle.dap_types.proofs.Views.{trees_view-here, trees_view-end, view-One}
use Rattle.dap_model.specs.Fits.{values_in, values_in_all}
use Rattle.dap_model.specs.Xdr.{zeros}
use Rattle.netcdf_writer.specs.File.{part_bytes, value_bytes, values_bytes}
use Rattle.netcdf_writer.specs.Variables.{Variable}

pub values-append : (base : BaseType) (us vs : List Value) → values_bytes base (us ++ vs) ≡ values_bytes base us ++ values_bytes base vs
unfolding values_bytes
values-append base us vs = flat_map-append (value_bytes base) us vs

pub values-one : (base : BaseType) (v : Value) → values_bytes base (v ∷ []) ≡ value_bytes base v
unfolding values_bytes
values-one base v = append-nil (value_bytes base v)

pub values-none : (base : BaseType) → values_bytes base [] ≡ []
unfolding values_bytes
values-none base = refl

pub one_bytes : (base : BaseType) (v : Value) → value_bytes base v ≡ values_bytes base (values_in (tree_view (tree_code.One v)))
one_bytes base v = sym (values-one base v) ∙ ap (λ t. values_bytes base (values_in t)) (sym (view-One v))

pub trees_step : (base : BaseType) (ts : List Tree) (i : ℕ) (t : Tree) → i < length ts → t ≡ get_or ts i t
    → values_bytes base (values_in_all (trees_view (drop i ts))) ≡ values_bytes base (values_in (tree_view t)) ++ values_bytes base (values_in_all (trees_view (drop (i + 1) ts)))
trees_step base ts i t lt is =
    ap (λ us. values_bytes base (values_in_all us)) (trees_view-here ts i t lt is) ∙ values-append base (values_in (tree_view t)) (values_in_all (trees_view (drop (i + 1) ts)))

pub trees_end : (base : BaseType) (ts : List Tree) (i : ℕ) → length ts ≤ i → values_bytes base (values_in_all (trees_view (drop i ts))) ≡ []
trees_end base ts i le = ap (λ us. values_bytes base (values_in_all us)) (trees_view-end ts i le) ∙ values-none base

pub part_parts : (v : Variable) → part_bytes v ≡ values_bytes v.base (values_in v.tree) ++ zeros (length (values_bytes v.base (values_in v.tree)))
unfolding part_bytes
part_parts v = refl
