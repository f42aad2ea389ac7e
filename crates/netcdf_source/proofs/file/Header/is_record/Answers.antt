use Rattle.std.proofs.Common.{◌≡◌, ◌∙◌, ap, sym, Some, None}
use Rattle.netcdf_source.specs.Mapping.{leaf_in, is_over_records}
use Rattle.netcdf_source.proofs.Joined.{leaf_has_sizes}
use Rattle.netcdf_source.proofs.LeafTable.{test_found, test_none}
use Rattle.netcdf_source.proofs.file.Header.is_record.Goals as goal

pub returns-in-Some : goal.returns-in-Some
returns-in-Some c =
    let h = c.self.inside in
    let found : leaf_in h.leaves.items c.args.leaf ≡ Some c.in-Some.number = ap (λ ls. leaf_in ls c.args.leaf) (sym c.deref.ensures.value) ∙ sym c.leaf_in.ensures ∙ c.in-Some.is in
    record { sizes = rw (← c.self.view_is) (leaf_has_sizes h.contents c.args.leaf c.self.invariant.0); over_records = rw (← c.self.view_is) (test_found (is_over_records h.contents) h.contents h.leaves.items c.args.leaf c.in-Some.number c.is_record_at.result c.self.invariant.3 found c.is_record_at.ensures) }

pub returns-in-None : goal.returns-in-None
returns-in-None c =
    let h = c.self.inside in
    let none : leaf_in h.leaves.items c.args.leaf ≡ None = ap (λ ls. leaf_in ls c.args.leaf) (sym c.deref.ensures.value) ∙ sym c.leaf_in.ensures ∙ c.in-None.is in
    record { sizes = rw (← c.self.view_is) (leaf_has_sizes h.contents c.args.leaf c.self.invariant.0); over_records = rw (← c.self.view_is) (sym (test_none (is_over_records h.contents) h.contents h.leaves.items c.args.leaf c.self.invariant.3 none)) }
