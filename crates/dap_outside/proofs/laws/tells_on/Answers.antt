use Rattle.dap_outside.proofs.Telling.{appends_front_tells, appends_some_tells, appends_tells, consumes_front_tells, consumes_tells}
use Rattle.dap_outside.proofs.laws.tells_on.Goals as goal

pub returns : goal.returns
returns c = record { puts = appends_tells; puts_front = appends_front_tells; puts_some = appends_some_tells; takes = consumes_tells; takes_front = consumes_front_tells }
