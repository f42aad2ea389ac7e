use Rattle.std.proofs.Common.{List, ℕ, w32, ◌≡◌, ◌∙◌, ap, to_z, of_z, sym, subst}
use Rattle.std.proofs.lemmas.Int.{to_z-of_z}
use Rattle.std.specs.Fmt.{signed_decimal}
use Rattle.dap_client.specs.declared.outcome.Outcome.{Outcome}
use Rattle.dap_commands.specs.Fetch.{FetchedLine}
use Rattle.dap_commands.specs.Lines.{IsSaid, server_error_line}
use Rattle.dap_commands.proofs.fetch.told.Goals as goal

pub returns-in-ServerError-clause-line : goal.returns-in-ServerError-clause-line
returns-in-ServerError-clause-line g c =
    let kept : to_z w32 (of_z w32 c.code_of.result) ≡ c.in-ServerError.code = to_z-of_z w32 c.code_of.result (record { sfits = c.code_of.type_inv }) ∙ c.code_of.ensures in
    let text : c.as_bytes.result.now ≡ signed_decimal c.in-ServerError.code = c.as_bytes.ensures.value ∙ c.format.ensures.text ∙ ap signed_decimal kept in
    let code = subst (λ (z : List ℕ). IsSaid (server_error_line z c.bytes.result.now) (g.E.Sink.put_faults c.args.err.now) (g.E.Sink.put_faults c.say_server_error.new.err) (g.E.Sink.written c.args.err.now) (g.E.Sink.written c.say_server_error.new.err)) text c.say_server_error.ensures.said in
    let whole = subst (λ (m : List ℕ). IsSaid (server_error_line (signed_decimal c.in-ServerError.code) m) (g.E.Sink.put_faults c.args.err.now) (g.E.Sink.put_faults c.say_server_error.new.err) (g.E.Sink.written c.args.err.now) (g.E.Sink.written c.say_server_error.new.err)) c.bytes.ensures code in
    subst (λ (o : Outcome). FetchedLine o (λ line. IsSaid line (g.E.Sink.put_faults c.args.err.now) (g.E.Sink.put_faults c.say_server_error.new.err) (g.E.Sink.written c.args.err.now) (g.E.Sink.written c.say_server_error.new.err))) (sym c.in-ServerError.is) whole
