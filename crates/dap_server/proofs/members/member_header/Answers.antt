use Rattle.dap_server.proofs.Found.{bad_header}
use Rattle.dap_server.proofs.members.member_header.Goals as goal

pub returns-in-Err-clause-refused : goal.returns-in-Err-clause-refused
returns-in-Err-clause-refused g c = bad_header _ c.args.line c.in-Err.stop c.bad_member.result c.in-Err.ensures.refused c.bad_member.ensures
