use Rattle.dap_http.proofs.Deliveries.{break-more, delivery-more}
use Rattle.dap_http.proofs.laws.delivery_stays.Goals as goal

pub returns-clause-whole : goal.returns-clause-whole
returns-clause-whole c = λ reply more body rest ended none d. delivery-more reply more ended body rest none d

pub returns-clause-broken : goal.returns-clause-broken
returns-clause-broken c = λ reply more body ended bad none b. break-more reply more ended body bad none b
