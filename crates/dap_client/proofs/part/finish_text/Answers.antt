use Rattle.std.proofs.Common.{[], refl, inl, sym, subst}
use Rattle.dap_client.proofs.TextBodies.{is_bad, no_memory, nothing_gained}
use Rattle.dap_client.specs.After.{IsFinished}
use Rattle.dap_client.specs.Outcomes.{OnWriteFault}
use Rattle.dap_client.specs.declared.outcome.Outcome.TheVariants as outcome
use Rattle.dap_client.proofs.part.finish_text.Goals as goal

pub returns-in-Dds-clause-finished : goal.returns-in-Dds-clause-finished
returns-in-Dds-clause-finished g c form bytes long small text e = c.finish_dds.ensures.finished form bytes long small text (rw c.in-Dds.is at e)

pub returns-in-Das-clause-finished : goal.returns-in-Das-clause-finished
returns-in-Das-clause-finished g c form bytes long small text e = c.finish_das.ensures.finished form bytes long small text (rw c.in-Das.is at e)

pub returns-in-ServerError-clause-finished : goal.returns-in-ServerError-clause-finished
returns-in-ServerError-clause-finished g c form bytes long small text e =
    nothing_gained form bytes _ c.server_error.result (subst (IsFinished form bytes []) (sym c.server_error.ensures) (inl (small, rw c.in-ServerError.is at e), refl))

pub returns-in-ServerError-clause-fault : goal.returns-in-ServerError-clause-fault
returns-in-ServerError-clause-fault g c = subst (OnWriteFault _) (sym c.server_error.ensures) tt

pub returns-in-Bad-clause-finished : goal.returns-in-Bad-clause-finished
returns-in-Bad-clause-finished g c form bytes long small text e = nothing_gained form bytes _ (outcome.BadReply c.in-Bad.field) (is_bad form bytes c.in-Bad.field small text (rw c.in-Bad.is at e))

pub returns-in-Memory-clause-finished : goal.returns-in-Memory-clause-finished
returns-in-Memory-clause-finished g c form bytes long small text e = nothing_gained form bytes _ outcome.Memory (no_memory form bytes text)
