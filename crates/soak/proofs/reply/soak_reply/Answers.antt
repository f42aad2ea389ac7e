use Rattle.std.proofs.Common.{◌≡◌, ◌∙◌, Some}
use Rattle.dap_server.specs.declared.served.Ending.TheVariants.{Closed}
use Rattle.dap_outside.specs.MemLinks.{unread_of}
use Rattle.soak.specs.Reply.{reply}
use Rattle.soak.proofs.Answering.{if-ok, written-is}
use Rattle.soak.proofs.reply.soak_reply.Goals as goal

pub returns : goal.returns
returns g c =
    let (files, is_told, is) = c.in_ok-shelf.ensures in
    let does = c.serve_connection-served.ensures in
    let (connection, taken, consumes, puts, so, failed, asks) = does.served in
    let served = c.serve_connection-served.result in
    let whole : (served.replies ≡ 1) × (served.status ≡ 200) × (served.ending ≡ Closed) = c.if-not-is_whole.ensures in
    let b : c.written.result.now ≡ reply c.args.start c.args.records =
    written-is c.args.start c.args.records _ files _ (Some (unread_of c.serve_connection-served.new.link)) _ _ _ c.serve_connection-served.result c.written.result.now c.requires.some c.requires.few
    is_told is c.in_ok-link.ensures.left c.in_ok-link.ensures.written c.written.ensures.told connection taken consumes puts so whole.0 whole.1 whole.2 in
    if-ok (λ x. x ≡ c.written.result.now) (λ x. x ≡ reply c.args.start c.args.records) c.new.result (λ x e. e ∙ b) c.new.ensures
