use Rattle.dap_http.proofs.Deliveries.{no-delivery-broken, one-break, one-delivery}
use Rattle.dap_http.proofs.laws.one_delivery.Goals as goal

pub returns-clause-whole : goal.returns-clause-whole
returns-clause-whole c = λ reply body other rest left ended a b. one-delivery reply ended body other rest left a b

pub returns-clause-broken : goal.returns-clause-broken
returns-clause-broken c = λ reply body other rest ended bad a b. no-delivery-broken reply ended body other rest bad a b

pub returns-clause-first : goal.returns-clause-first
returns-clause-first c = λ reply behind body other ended coding bad wrong has a b. one-break reply behind ended coding body other bad wrong has a b
