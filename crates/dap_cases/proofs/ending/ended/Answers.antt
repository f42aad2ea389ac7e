use Rattle.dap_cases.proofs.Stopping.{is-run}
use Rattle.dap_cases.proofs.ending.ended.Goals as goal

pub returns : goal.returns
returns g c = (
  c.run_cases.result,
  is-run g.O.Sink.written _ _ _ _ c.run_cases.result c.run_cases.ensures.listed c.run_cases.ensures.put c.run_cases.ensures.write_fault c.run_cases.ensures.nothing_put,
  c.told.ensures.number,
  c.told.ensures.line,
)
