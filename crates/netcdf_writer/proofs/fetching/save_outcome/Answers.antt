use Rattle.std.proofs.Common.{List, ℕ, subst, sym}
use Rattle.dap_client.specs.declared.body_outcome.BodyOutcome.{BodyOutcome}
use Rattle.netcdf_writer.specs.Fetching.{Becomes}
use Rattle.netcdf_writer.specs.Saving.{Judges}
use Rattle.netcdf_writer.proofs.fetching.save_outcome.Goals as goal

pub returns-in-Good-clause-becomes : goal.returns-in-Good-clause-becomes
returns-in-Good-clause-becomes g c =
    subst (λ (o : BodyOutcome). Becomes o (g.O.Sink.written c.args.out.now) (g.O.Sink.written c.save_body.new.out) c.save_body.result) (sym c.in-Good.is)
    (subst (λ (b : List ℕ). Judges b (g.O.Sink.written c.args.out.now) (g.O.Sink.written c.save_body.new.out) c.save_body.result) c.bytes.ensures c.save_body.ensures.judges)

pub returns-in-ServerError-clause-becomes : goal.returns-in-ServerError-clause-becomes
returns-in-ServerError-clause-becomes g c =
    subst (λ (o : BodyOutcome). Becomes o (g.O.Sink.written c.args.out.now) (g.O.Sink.written c.save_body-in-ServerError.new.out) c.save_body-in-ServerError.result) (sym c.in-ServerError.is)
    (subst (λ (b : List ℕ). Judges b (g.O.Sink.written c.args.out.now) (g.O.Sink.written c.save_body-in-ServerError.new.out) c.save_body-in-ServerError.result) c.bytes-in-ServerError.ensures c.save_body-in-ServerError.ensures.judges)
