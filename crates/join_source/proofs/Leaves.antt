-- A leaf of the files together is one of each of them.
use Rattle.std.proofs.Common.{◌≡◌, ℕ, ◌≤◌, [], Option, Some, None, refl, sym, ap, ◌∙◌}
use Rattle.std.specs.Prelude.{option_and_then, slice_get}
use Rattle.netcdf_source.specs.Mapping.{element_dimensions, has_texts, is_over_records, leaf_in, leaf_variable, leaves_from, HaveSameShape}
use Rattle.netcdf_source.specs.Parts.{is_record, lengths}
use Rattle.netcdf_source.specs.declared.header.Contents.{Contents}
use Rattle.netcdf_source.specs.declared.header.Variable.{Variable}
use Rattle.join_source.proofs.Shapes.{bare, same-at, same-bare, same-leaves}

-- its variable has the same type and dimensions in each
pub one-leaf : (c d : Contents) (leaf : ℕ) (v : Variable) → HaveSameShape c d → c.records ≤ 2147483647 → d.records ≤ 2147483647 → leaf_variable c leaf ≡ Some v
    → (w : Variable) × (leaf_variable d leaf ≡ Some w) × (bare v ≡ bare w)
unfolding leaf_variable
one-leaf c d leaf v same few others is = go (leaf_in (leaves_from c 0 c.variables) leaf) refl is
  where
    go : (p : Option ℕ) → leaf_in (leaves_from c 0 c.variables) leaf ≡ p → option_and_then (slice_get c.variables) p ≡ Some v
        → (w : Variable) × (option_and_then (slice_get d.variables) (leaf_in (leaves_from d 0 d.variables) leaf) ≡ Some w) × (bare v ≡ bare w)
    go None e at = absurd cc
    go (Some k) e at =
        let other = same-at c.variables d.variables k v (same-bare c d same) at in
        (other.0, ap (option_and_then (slice_get d.variables)) (ap (λ ls. leaf_in ls leaf) (sym (same-leaves c d same few others)) ∙ e) ∙ other.1, other.2)

-- so the lengths of its elements are the same
pub same-lengths : (c d : Contents) (v w : Variable) → HaveSameShape c d → bare v ≡ bare w → lengths c.dimensions (element_dimensions c v) ≡ lengths d.dimensions (element_dimensions d w)
unfolding element_dimensions has_texts
same-lengths c d v w same e =
    ap (λ x. lengths c.dimensions (element_dimensions c x)) e
    ∙ ap (λ ds. lengths ds (element_dimensions (record { records = 0; dimensions = ds; attributes = []; variables = [] }) (bare w))) same.dimensions

-- and it is a record variable in both, or in none
pub same-over : (c d : Contents) (v w : Variable) → HaveSameShape c d → bare v ≡ bare w → is_over_records c v ≡ is_over_records d w
same-over c d v w same e = ap (λ x. is_over_records c x) e ∙ ap (λ ds. is_record ds w.dimensions) same.dimensions
