use Rattle.std.proofs.Common.{◌≡◌, drop}
use Rattle.dap_types.specs.View.{trees_view}
use Rattle.dap_model.specs.Fits.{values_in_all}
use Rattle.dap_outside.proofs.Passing.{IsOnItsWay}
use Rattle.netcdf_writer.specs.File.{values_bytes}
use Rattle.netcdf_writer.proofs.values.+values.Given as goal

abbrev pub invariant-put_trees-loop-tree : goal.invariant-put_trees-loop-tree
invariant-put_trees-loop-tree g l =
    let sink = g.O.Sink in
    record {
      way : IsOnItsWay (sink.written l.fn.out) l.fn.buffer.bytes.items (sink.written l.out) l.buffer.bytes.items (values_bytes l.base (values_in_all (trees_view (drop l.tree-index l.trees)))) (values_bytes l.base (values_in_all (trees_view l.trees)));
      count : sink.put_faults l.out ≡ sink.put_faults l.fn.out;
      beside : sink.beside_writing l.out ≡ sink.beside_writing l.fn.out;
    }
