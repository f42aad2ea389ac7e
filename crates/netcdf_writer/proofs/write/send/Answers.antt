use Rattle.std.proofs.Common.{}
use Rattle.dap_outside.proofs.Fronts.{on_err}
use Rattle.dap_outside.proofs.Passing.{front_second, passes_two, sent_or_stopped, stopped_before}
use Rattle.netcdf_writer.specs.File.{data_bytes}
use Rattle.netcdf_writer.specs.inner.Tables.{variable_views}
use Rattle.netcdf_writer.proofs.write.send.Goals as goal

pub returns-in_err-put_parts-clause-err : goal.returns-in_err-put_parts-clause-err
returns-in_err-put_parts-clause-err g c =
    on_err _ _ (stopped_before _ _ _ _ c.requires.empty (front_second _ _ _ _ _ c.args.header.now (data_bytes (variable_views c.args.variables.now)) c.in_ok-put.ensures.puts c.in_err-put_parts.ensures.puts))

pub returns-clause-err : goal.returns-clause-err
returns-clause-err g c =
    (sent_or_stopped c.flush.result _ _ _ _ _ _ c.requires.empty (passes_two _ _ _ _ _ _ c.args.header.now (data_bytes (variable_views c.args.variables.now)) c.in_ok-put.ensures.puts c.in_ok-put_parts.ensures.puts) c.flush.ensures.ok c.flush.ensures.err).1
