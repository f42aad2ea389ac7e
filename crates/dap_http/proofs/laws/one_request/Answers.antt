use Rattle.httparse.proofs.GrammarLemmas.{request_unique}
use Rattle.dap_http.proofs.laws.one_request.Goals as goal

pub returns : goal.returns
returns c = λ input rest behind head other first second. request_unique input head other rest behind first.0.0 second.0.0
