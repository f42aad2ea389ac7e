use Rattle.std.proofs.Common.{List, ℕ, ℤ, rules, subst, sym, w32}
use Rattle.std.proofs.lemmas.Int.{to_z-of_z}
use Rattle.std.specs.Fmt.{signed_decimal}
use Rattle.netcdf_writer.specs.declared.stored.Stored.{Stored}
use Rattle.dap_commands.specs.Lines.{IsSaid, server_error_line}
use Rattle.dap_commands.specs.Save.{SavedLine}
use Rattle.dap_commands.proofs.save.said.Goals as goal
use mir.Val.{SFits}

pub returns-in-ServerError-clause-line : goal.returns-in-ServerError-clause-line
returns-in-ServerError-clause-line g c =
    let fits : SFits w32 c.in-ServerError.code = search rules in
    subst (λ (s : Stored). SavedLine s (λ (line : List ℕ). IsSaid line (g.E.Sink.put_faults c.args.err.now) (g.E.Sink.put_faults c.say_object.new.err) (g.E.Sink.written c.args.err.now) (g.E.Sink.written c.say_object.new.err)))
    (sym c.in-ServerError.is)
    (subst (λ (z : ℤ). IsSaid (server_error_line (signed_decimal z) c.in-ServerError.message) (g.E.Sink.put_faults c.args.err.now) (g.E.Sink.put_faults c.say_object.new.err) (g.E.Sink.written c.args.err.now) (g.E.Sink.written c.say_object.new.err))
    (to_z-of_z w32 c.in-ServerError.code fits) c.say_object.ensures.said)
