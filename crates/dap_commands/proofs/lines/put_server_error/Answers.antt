use Rattle.std.proofs.Common.{◌++◌, codes, subst, OnErr, OnOk}
use Rattle.std.proofs.KnownBytes.{Appends-trans}
use Rattle.std.specs.Io.KnownBytes.{Appends}
use Rattle.std.specs.List.{flat_map}
use Rattle.dap_model.specs.Shown.{shown_byte}
use Rattle.dap_outside.proofs.Fronts.{err_front, front_more, front_of, ok_more, on_err}
use Rattle.dap_outside.specs.Streams.{AppendsFront}
use Rattle.dap_commands.proofs.Pieces.{server-pieces, server-whole, server_front}
use Rattle.dap_commands.proofs.lines.put_server_error.Goals as goal

pub returns-in_err-put_each-clause-front : goal.returns-in_err-put_each-clause-front
returns-in_err-put_each-clause-front g c =
    let code = c.args.code.now in
    let message = c.args.message.now in
    on_err c.from_residual.result _ (subst (AppendsFront (g.E.Sink.written c.args.err.now) (g.E.Sink.written c.put_each.new.out)) (server-pieces code message)
    (front_of _ _ (server_front code) (flat_map shown_byte message ++ codes "\n") c.in_err-put_each.ensures.err))

pub returns-in_err-put_shown_text-clause-front : goal.returns-in_err-put_shown_text-clause-front
returns-in_err-put_shown_text-clause-front g c =
    let code = c.args.code.now in
    let message = c.args.message.now in
    on_err c.from_residual-in_err-put_shown_text.result _ (subst (AppendsFront (g.E.Sink.written c.args.err.now) (g.E.Sink.written c.put_shown_text.new.out)) (server-whole code message)
    (front_of _ _ (server_front code ++ flat_map shown_byte message) (codes "\n") (front_more _ _ _ (server_front code) (flat_map shown_byte message) c.in_ok-put_each.ensures.ok c.in_err-put_shown_text.ensures.err)))

pub returns-clause-ok : goal.returns-clause-ok
returns-clause-ok g c =
    let code = c.args.code.now in
    let message = c.args.message.now in
    subst (λ l. OnOk c.put_all.result (Appends (g.E.Sink.written c.args.err.now) (g.E.Sink.written c.put_all.new.out) l)) (server-whole code message)
    (ok_more c.put_all.result _ _ _ (server_front code ++ flat_map shown_byte message) (codes "\n") (Appends-trans _ _ _ (server_front code) (flat_map shown_byte message) c.in_ok-put_each.ensures.ok c.in_ok-put_shown_text.ensures.ok) c.put_all.ensures.ok)

pub returns-clause-front : goal.returns-clause-front
returns-clause-front g c =
    let code = c.args.code.now in
    let message = c.args.message.now in
    subst (λ l. OnErr c.put_all.result (AppendsFront (g.E.Sink.written c.args.err.now) (g.E.Sink.written c.put_all.new.out) l)) (server-whole code message)
    (err_front c.put_all.result _ _ _ (server_front code ++ flat_map shown_byte message) (codes "\n") (Appends-trans _ _ _ (server_front code) (flat_map shown_byte message) c.in_ok-put_each.ensures.ok c.in_ok-put_shown_text.ensures.ok) c.put_all.ensures.err)
