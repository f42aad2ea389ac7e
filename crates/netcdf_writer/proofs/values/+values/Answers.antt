use Rattle.std.proofs.Common.{◌∙◌, sym, ap}
use Rattle.dap_outside.proofs.Passing.{puts_as, puts_failed, way_ends, way_failed, way_more}
use Rattle.dap_types.specs.View.{tree_view}
use Rattle.dap_model.specs.Fits.{values_in}
use Rattle.netcdf_writer.specs.File.{value_bytes, values_bytes}
use Rattle.netcdf_writer.proofs.ValueBytes.{one_bytes, trees_end, trees_step}
use Rattle.netcdf_writer.proofs.values.+values.Goals as goal

pub put_tree-returns-in-One-clause-puts : goal.put_tree-returns-in-One-clause-puts
put_tree-returns-in-One-clause-puts g t c =
    puts_as c.put_value.result _ _ _ _ (value_bytes c.args.base c.in-One.value) (values_bytes c.args.base (values_in (tree_view c.args.tree.now)))
    (one_bytes c.args.base c.in-One.value ∙ ap (λ u. values_bytes c.args.base (values_in (tree_view u))) (sym c.in-One.is)) c.put_value.ensures.puts

pub put_trees-returns-in_err-put_tree-clause-puts : goal.put_trees-returns-in_err-put_tree-clause-puts
put_trees-returns-in_err-put_tree-clause-puts g t c =
    puts_failed c.from_residual.result _ _ _ _ _ c.from_residual.ensures.0
    (way_failed _ _ _ _ _ _ _ _ _ (trees_step c.args.base c.args.trees.now c.loop-tree.tree-index c.tree-item.result c.loop-tree-test.true c.tree-item.is) c.loop-tree.invariant.way c.in_err-put_tree.ensures.puts)

pub put_trees-loop-tree-preserved : goal.put_trees-loop-tree-preserved
put_trees-loop-tree-preserved g t c =
    let kept = c.loop-tree.invariant in
    record {
      way = way_more _ _ _ _ _ _ _ _ _ _ (trees_step c.args.base c.args.trees.now c.loop-tree.tree-index c.tree-item.result c.loop-tree-test.true c.tree-item.is) kept.way c.in_ok-put_tree.ensures.puts;
      count = c.in_ok-put_tree.ensures.cause.kept ∙ kept.count;
      beside = c.put_tree.ensures.beside ∙ kept.beside;
    }

pub put_trees-returns-clause-puts : goal.put_trees-returns-clause-puts
put_trees-returns-clause-puts g t c = way_ends _ _ _ _ _ _ (trees_end c.args.base c.args.trees.now c.loop-tree.tree-index c.loop-tree-test.false) c.loop-tree.invariant.way
