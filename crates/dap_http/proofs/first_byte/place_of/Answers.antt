use Rattle.dap_http.proofs.FirstByte.{found, missing}
use Rattle.dap_http.proofs.first_byte.place_of.Goals as goal

pub returns-in-Some-clause-place : goal.returns-in-Some-clause-place
returns-in-Some-clause-place c = found c.args.wanted c.args.bytes.now c.in-Some.place c.in-Some.ensures

pub returns-in-None-clause-place : goal.returns-in-None-clause-place
returns-in-None-clause-place c = missing c.args.wanted c.args.bytes.now c.in-None.ensures
