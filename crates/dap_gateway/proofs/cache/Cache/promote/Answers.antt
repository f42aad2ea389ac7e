use Rattle.std.proofs.Common.{sym}
use Rattle.dap_gateway.proofs.Shown.{promoted-shown}
use Rattle.dap_gateway.proofs.cache.Cache.promote.Goals as goal

pub returns-clause-pairs : goal.returns-clause-pairs
returns-clause-pairs c = rw c.promote.ensures.entries (sym (promoted-shown c.args.key.now c.args.self.now.kept.entries))
