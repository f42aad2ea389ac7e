use Rattle.dap_server.proofs.OpeningLists.{join_refused}
use Rattle.dap_server.proofs.open_joined.joined_of.Goals as goal

pub returns-in-Err-clause-refused : goal.returns-in-Err-clause-refused
returns-in-Err-clause-refused c = join_refused c.args.name.now c.args.headers c.in-Err.refusal c.join_stop.result c.in-Err.ensures.first_cause c.join_stop.ensures
