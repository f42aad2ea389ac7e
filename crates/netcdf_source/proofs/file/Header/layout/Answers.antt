use Rattle.std.proofs.Common.{◌≡◌, ◌∙◌, ap, sym, Some, None, Option}
use Rattle.std.specs.Prelude.{option_map}
use Rattle.std.specs.Option.{option_copied}
use Rattle.dap_types.specs.declared.slabs.Layout.{Layout}
use Rattle.netcdf_source.specs.Layouts.{layout_of}
use Rattle.netcdf_source.specs.Mapping.{leaf_in, leaf_variable}
use Rattle.netcdf_source.proofs.LeafTable.{layout_found, layout_none}
use Rattle.netcdf_source.proofs.Placed.{leaf_placed}
use Rattle.netcdf_source.proofs.Shaped.{leaf_shaped, leaf_told}
use Rattle.netcdf_source.proofs.file.Header.layout.Goals as goal

pub returns-in-Some : goal.returns-in-Some
returns-in-Some c =
    let h = c.self.inside in
    let found : leaf_in h.leaves.items c.args.leaf ≡ Some c.in-Some.number = ap (λ ls. leaf_in ls c.args.leaf) (sym c.deref.ensures.value) ∙ sym c.leaf_in.ensures ∙ c.in-Some.is in
    let is = layout_found h.contents h.leaves.items h.layouts c.args.leaf c.in-Some.number (option_copied c.layout_at.result) (λ v at. leaf_told h.contents c.args.leaf c.in-Some.number v (ap (λ ls. leaf_in ls c.args.leaf) (sym c.self.invariant.3) ∙ found) at) c.self.invariant.3 c.self.invariant.4 found (rw (← c.items.ensures) c.layout_at.ensures) in
    record { leaf = rw (← c.self.view_is) is; below = rw (← c.self.view_is) c.self.invariant.6; placed = rw (← c.self.view_is) (leaf_placed h.contents h.length c.args.leaf c.self.invariant.0 c.self.invariant.1 (option_copied c.layout_at.result) is); shaped = rw (← c.self.view_is) (leaf_shaped h.contents c.args.leaf c.self.invariant.0 (option_copied c.layout_at.result) is) }

pub returns-in-None : goal.returns-in-None
returns-in-None c =
    let h = c.self.inside in
    let none : leaf_in h.leaves.items c.args.leaf ≡ None = ap (λ ls. leaf_in ls c.args.leaf) (sym c.deref.ensures.value) ∙ sym c.leaf_in.ensures ∙ c.in-None.is in
    let is : ◌≡◌ {A = Option Layout} None (option_map (layout_of h.contents) (leaf_variable h.contents c.args.leaf)) = sym (layout_none h.contents h.leaves.items c.args.leaf c.self.invariant.3 none) in
    record { leaf = rw (← c.self.view_is) is; below = rw (← c.self.view_is) c.self.invariant.6; placed = rw (← c.self.view_is) (leaf_placed h.contents h.length c.args.leaf c.self.invariant.0 c.self.invariant.1 None is); shaped = rw (← c.self.view_is) (leaf_shaped h.contents c.args.leaf c.self.invariant.0 None is) }
