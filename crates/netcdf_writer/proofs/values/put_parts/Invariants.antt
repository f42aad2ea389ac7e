use Rattle.std.proofs.Common.{◌≡◌, drop}
use Rattle.dap_outside.proofs.Passing.{IsOnItsWay}
use Rattle.netcdf_writer.specs.File.{data_bytes}
use Rattle.netcdf_writer.specs.inner.Parts.{AreFilled}
use Rattle.netcdf_writer.specs.inner.Tables.{variable_views}
use Rattle.netcdf_writer.proofs.values.put_parts.Given as goal

abbrev pub invariant-loop-variable : goal.invariant-loop-variable
invariant-loop-variable g l =
    let sink = g.O.Sink in
    record {
      way : IsOnItsWay (sink.written l.fn.out) l.fn.buffer.bytes.items (sink.written l.out) l.buffer.bytes.items (data_bytes (variable_views (drop l.variable-index l.variables))) (data_bytes (variable_views l.variables));
      filled : AreFilled (variable_views (drop l.variable-index l.variables));
      count : sink.put_faults l.out ≡ sink.put_faults l.fn.out;
      beside : sink.beside_writing l.out ≡ sink.beside_writing l.fn.out;
    }
