use Rattle.dap_http.proofs.HeadReading.{bad-still, long-still}
use Rattle.dap_http.proofs.laws.refusal_stays.Goals as goal

pub returns-clause-bad : goal.returns-clause-bad
returns-clause-bad c = bad-still

pub returns-clause-too_long : goal.returns-clause-too_long
returns-clause-too_long c = long-still
