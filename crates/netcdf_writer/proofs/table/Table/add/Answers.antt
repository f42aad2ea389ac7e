use Rattle.std.proofs.Common.{Some, refl, sym, ◌∙◌}
use Rattle.std.specs.Cmp.Lexicographic.{nat_list_eq_equiv}
use Rattle.std.specs.Str.{bytes_eq}
use Rattle.dap_types.proofs.Found.{updates_seen}
use Rattle.netcdf_writer.proofs.Adding.{added}
use Rattle.netcdf_writer.specs.inner.Tables.{under}
use Rattle.netcdf_writer.proofs.table.Table.add.Goals as goal

pub returns : goal.returns
returns g c =
    let same = c.in_ok-from_slice.ensures.items in
    λ q. added (under c.args.self.now) (under (record c.args.self.now { map = c.insert.new.self })) c.args.name.now c.args.value
    (sym c.contains_key.ensures ∙ c.if-contains_key.false)
    (rw same at (updates_seen (λ k. k.items) bytes_eq _ nat_list_eq_equiv (λ x y. refl) c.args.self.now.map c.insert.new.self c.in_ok-from_slice.field-0 (Some c.args.value) c.in_ok-insert.ensures.updates)) q
