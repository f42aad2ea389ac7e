use Rattle.std.proofs.Common.{sym, ◌∙◌}
use Rattle.dap_http.proofs.Whole.{ends-known}
use Rattle.dap_http.proofs.laws.one_body.Goals as goal

pub returns : goal.returns
returns c = λ bytes body other first second. let a = ends-known bytes body first in let b = ends-known bytes other second in sym a.body ∙ b.body
