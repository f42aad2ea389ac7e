use Rattle.std.proofs.Common.{ap, sym, length, ◌∙◌}
use Rattle.dap_outside.proofs.Passing.{front_first, puts_failed, puts_two}
use Rattle.dap_model.specs.Fits.{values_in}
use Rattle.dap_model.specs.Xdr.{zeros}
use Rattle.dap_types.specs.View.{tree_view}
use Rattle.netcdf_writer.specs.File.{values_bytes}
use Rattle.netcdf_writer.proofs.ValueBytes.{part_parts}
use Rattle.netcdf_writer.specs.inner.Tables.{variable_view}
use Rattle.netcdf_writer.proofs.values.put_part.Goals as goal

pub returns-in_err-put_tree-clause-puts : goal.returns-in_err-put_tree-clause-puts
returns-in_err-put_tree-clause-puts g c =
    let own = values_bytes c.args.variable.now.base (values_in (tree_view c.args.variable.now.tree.now)) in
    rw (part_parts (variable_view c.args.variable.now)) (puts_failed c.from_residual.result _ _ _ _ _ c.from_residual.ensures.0 (front_first _ _ _ own (zeros (length own)) c.in_err-put_tree.ensures.puts))

pub returns-clause-puts : goal.returns-clause-puts
returns-clause-puts g c =
    let own = values_bytes c.args.variable.now.base (values_in (tree_view c.args.variable.now.tree.now)) in
    let filled = c.requires.filled c.requires.fixed in
    let same = c.padding.ensures ∙ ap zeros (c.part.ensures.few filled.1 ∙ sym filled.0) in
    rw (part_parts (variable_view c.args.variable.now)) (puts_two c.put.result _ _ _ _ _ _ own (zeros (length own)) c.in_ok-put_tree.ensures.puts (rw same at c.put.ensures.puts))
