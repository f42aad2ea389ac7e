use Rattle.std.proofs.Common.{sym, ◌∙◌, drop}
use Rattle.dap_http.proofs.Feeds.{none-found}
use Rattle.dap_http.proofs.intake.is_enough.Goals as goal

pub returns-else-kept-most-clause-plain : goal.returns-else-kept-most-clause-plain
returns-else-kept-most-clause-plain c = λ none. none-found (drop c.args.at c.args.kept.now) (sym (rw c.behind.ensures at c.has_feed.ensures) ∙ none)
