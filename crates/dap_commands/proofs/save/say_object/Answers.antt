use Rattle.std.proofs.Common.{List, ℕ, w32, ◌≡◌, ◌∙◌, ap, of_z, rules, subst, to_z}
use Rattle.std.specs.Fmt.{signed_decimal}
use Rattle.dap_commands.specs.Lines.{IsSaid, server_error_line}
use Rattle.dap_commands.proofs.save.say_object.Goals as goal

pub returns-clause-said : goal.returns-clause-said
returns-clause-said g c =
    let kept : to_z w32 (of_z w32 c.args.code) ≡ c.args.code = search (rules) in
    let text : c.as_bytes.result.now ≡ signed_decimal c.args.code = c.as_bytes.ensures.value ∙ c.format.ensures.text ∙ ap signed_decimal kept in
    let code = subst (λ (z : List ℕ). IsSaid (server_error_line z c.bytes.result.now) (g.E.Sink.put_faults c.args.err.now) (g.E.Sink.put_faults c.say_server_error.new.err) (g.E.Sink.written c.args.err.now) (g.E.Sink.written c.say_server_error.new.err)) text c.say_server_error.ensures.said in
    subst (λ (m : List ℕ). IsSaid (server_error_line (signed_decimal c.args.code) m) (g.E.Sink.put_faults c.args.err.now) (g.E.Sink.put_faults c.say_server_error.new.err) (g.E.Sink.written c.args.err.now) (g.E.Sink.written c.say_server_error.new.err)) c.bytes.ensures code
