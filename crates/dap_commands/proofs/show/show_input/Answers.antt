use Rattle.std.proofs.Common.{rules, ◌≡◌, ◌∙◌, ap, to_z, of_z, w32}
use Rattle.std.specs.Fmt.{signed_decimal}
use Rattle.dap_commands.proofs.Shown.{bad_says, complete_says, for_bad_reply, for_complete, for_server_error, server_says}
use Rattle.dap_commands.specs.Lines.{IsSaid}
use Rattle.dap_commands.proofs.show.show_input.Goals as goal

pub returns-in-Complete-clause-says : goal.returns-in-Complete-clause-says
returns-in-Complete-clause-says g c = complete_says _ _ _ _ _ _ (λ line. IsSaid line (g.E.Sink.put_faults c.args.err.now) (g.E.Sink.put_faults c.args.err.now) (g.E.Sink.written c.args.err.now) (g.E.Sink.written c.args.err.now)) _ c.in-Complete.ensures.ended c.in-Complete.ensures.complete

pub returns-in-BadReply-clause-says : goal.returns-in-BadReply-clause-says
returns-in-BadReply-clause-says g c =
    bad_says _ _ _ _ _ _ (λ line. IsSaid line (g.E.Sink.put_faults c.args.err.now) (g.E.Sink.put_faults c.say_bad_reply.new.err) (g.E.Sink.written c.args.err.now) (g.E.Sink.written c.say_bad_reply.new.err)) c.in-BadReply.bad c.in-BadReply.ensures.bad_reply c.say_bad_reply.ensures.said

pub returns-in-ServerError-clause-says : goal.returns-in-ServerError-clause-says
returns-in-ServerError-clause-says g c =
    let kept : to_z w32 (of_z w32 c.in-ServerError.code) ≡ c.in-ServerError.code = search (rules) in
    server_says _ _ _ _ _ _ (λ line. IsSaid line (g.E.Sink.put_faults c.args.err.now) (g.E.Sink.put_faults c.say_server_error.new.err) (g.E.Sink.written c.args.err.now) (g.E.Sink.written c.say_server_error.new.err)) c.in-ServerError.code c.in-ServerError.message c.as_bytes.result.now c.bytes.result.now c.in-ServerError.ensures.ended
    c.in-ServerError.ensures.nothing_put (c.as_bytes.ensures.value ∙ c.format.ensures.text ∙ ap signed_decimal kept) c.bytes.ensures c.in-ServerError.ensures.server_error c.say_server_error.ensures.said

pub returns-in-Complete-clause-verdict : goal.returns-in-Complete-clause-verdict
returns-in-Complete-clause-verdict g c = λ body v has is. for_complete _ _ v (c.in-Complete.ensures.only body v has is)

pub returns-in-BadReply-clause-verdict : goal.returns-in-BadReply-clause-verdict
returns-in-BadReply-clause-verdict g c = λ body v has is. for_bad_reply _ _ v (c.in-BadReply.ensures.only body v has is)

pub returns-in-ServerError-clause-verdict : goal.returns-in-ServerError-clause-verdict
returns-in-ServerError-clause-verdict g c = λ body v has is. for_server_error _ _ _ v (c.in-ServerError.ensures.only body v has is)
