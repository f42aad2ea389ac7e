use Rattle.std.proofs.Common.{sym, subst, Ok}
use Rattle.dap_http.specs.Targets.{asked_of}
use Rattle.dap_server.specs.inner.Serving.{request_in}
use Rattle.dap_server.specs.Prepared.{MayGive}
use Rattle.dap_server.specs.Results.{result_text}
use Rattle.dap_http.specs.declared.kind.Kind.TheVariants.{Dods}
use Rattle.xdr_encode.specs.Bodies.{text_in}
use Rattle.dap_server.proofs.Answered.{failed-answer, refused-answer, saved-answer, text-answer, wanted-answer, with-first}
use Rattle.dap_server.proofs.JoinsMade.{join_moved}
use Rattle.dap_server.proofs.answer.answer_target.Goals as goal

pub returns-in-Text-clause-answers : goal.returns-in-Text-clause-answers
returns-in-Text-clause-answers g c =
    text-answer _ (request_in c.args.head.now c.args.ends) (asked_of c.args.target.now) c.in-Text.kind c.bytes.result.now _ _ _ _ _ _ c.put_text.result c.in-Text.ensures.text.0 c.requires.served c.requires.target
    (subst (λ t. MayGive (g.S.Shelf.files c.args.shelf.now) (asked_of c.args.target.now) (Ok (result_text c.in-Text.kind t))) (sym c.bytes.ensures) c.in-Text.ensures.text.1)
    c.in-Text.ensures.kept c.in-Text.ensures.asked c.put_text.ensures.puts

pub answer_data-requires-clause-body : goal.answer_data-requires-clause-body
answer_data-requires-clause-body g c lifetimes outlive = λ bytes is.
    subst (λ t. MayGive t (asked_of c.args.target.now) (Ok (result_text Dods (text_in c.in-Body.body bytes)))) (sym c.in-Body.ensures.files) (c.in-Body.ensures.body bytes is)

pub returns-in-Body-clause-answers : goal.returns-in-Body-clause-answers
returns-in-Body-clause-answers g c =
    with-first (g.S.Shelf.files c.args.shelf.now) _ (request_in c.args.head.now c.args.ends) (asked_of c.args.target.now) _ _ _ _ _ _ c.answer_data.result c.requires.served c.requires.target
    c.in-Body.ensures.kept c.in-Body.ensures.asked c.in-Body.ensures.files c.answer_data.ensures.answers

pub answer_joined-requires-clause-joined : goal.answer_joined-requires-clause-joined
answer_joined-requires-clause-joined g c lifetimes outlive =
    join_moved (g.S.Shelf.files c.args.shelf.now) _ _ _ (asked_of c.args.target.now) c.in-Joined.body c.in-Joined.files c.items_mut.result.now c.in-Joined.ensures.files c.items_mut.ensures.value c.in-Joined.ensures.joined

pub returns-in-Joined-clause-answers : goal.returns-in-Joined-clause-answers
returns-in-Joined-clause-answers g c =
    with-first (g.S.Shelf.files c.args.shelf.now) _ (request_in c.args.head.now c.args.ends) (asked_of c.args.target.now) _ _ _ _ _ _ c.answer_joined.result c.requires.served c.requires.target
    c.in-Joined.ensures.kept c.in-Joined.ensures.asked c.in-Joined.ensures.files c.answer_joined.ensures.answers

pub returns-in-Saved-clause-answers : goal.returns-in-Saved-clause-answers
returns-in-Saved-clause-answers g c =
    let (text, sends, may) = c.in-Saved.ensures.sends in
    saved-answer _ (request_in c.args.head.now c.args.ends) (asked_of c.args.target.now) text _ _ _ _ _ _ c.put_saved.result c.requires.served c.requires.target c.in-Saved.ensures.of_saved.1
    may c.in-Saved.ensures.kept c.in-Saved.ensures.asked (c.put_saved.ensures.puts text sends)

pub returns-in-ShelfFault-clause-answers : goal.returns-in-ShelfFault-clause-answers
returns-in-ShelfFault-clause-answers g c =
    failed-answer _ (request_in c.args.head.now c.args.ends) (asked_of c.args.target.now) _ _ _ _ _ _ c.put_cause-in-ShelfFault.result c.requires.served c.requires.target
    c.in-ShelfFault.ensures.shelf_fault c.in-ShelfFault.ensures.later c.in-ShelfFault.ensures.asked c.put_cause-in-ShelfFault.ensures.puts

pub returns-in-Refuse-clause-answers : goal.returns-in-Refuse-clause-answers
returns-in-Refuse-clause-answers g c =
    refused-answer _ (request_in c.args.head.now c.args.ends) (asked_of c.args.target.now) c.in-Refuse.cause _ _ _ _ _ _ c.put_cause.result c.requires.served c.requires.target
    c.in-Refuse.ensures.refused c.in-Refuse.ensures.kept c.in-Refuse.ensures.asked c.put_cause.ensures.puts

pub returns-in-Memory-clause-answers : goal.returns-in-Memory-clause-answers
returns-in-Memory-clause-answers g c =
    wanted-answer _ (request_in c.args.head.now c.args.ends) (asked_of c.args.target.now) _ _ _ _ _ _ c.put_memory.result c.requires.served c.requires.target
    c.in-Memory.ensures.kept c.in-Memory.ensures.asked c.put_memory.ensures.puts
