use Rattle.std.proofs.Common.{sym, append-nil}
use Rattle.dap_gateway.proofs.ready.prepared.Goals as goal

pub returns-then-head_alone-clause-text : goal.returns-then-head_alone-clause-text
returns-then-head_alone-clause-text c = λ body. rw c.if-head_alone.true (sym (append-nil c.args.head))
