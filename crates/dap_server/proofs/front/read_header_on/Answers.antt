use Rattle.dap_server.proofs.Fronts as fronts
use Rattle.dap_server.proofs.front.read_header_on.Goals as goal

pub returns-clause-header : goal.returns-clause-header
returns-clause-header g c = fronts.in-buffer c.header_in.result c.as_slice.result.now _ c.args.size c.as_slice.ensures.value c.header_in.ensures.header
