use Rattle.std.proofs.Common.{◌∙◌, ap, subst, sym}
use Rattle.std.specs.Io.KnownBytes.{Appends}
use Rattle.dap_outside.specs.Causes.{Rose}
use Rattle.dap_outside.specs.Streams.{AppendsFront}
use Rattle.dap_server.specs.Files.{form_of}
use Rattle.dap_server.specs.Results.{result_text}
use Rattle.dap_http.specs.declared.kind.Kind.TheVariants.{Dods}
use Rattle.xdr_encode.specs.Bodies.{MayAsk, cost_in, text_in}
use Rattle.std.specs.Prelude.{map}
use Rattle.dap_http.specs.Targets.{asked_of}
use Rattle.join_source.specs.Bodies as join
use Rattle.join_source.specs.Pieces.{AreTold}
use Rattle.dap_client.proofs.Told.{rose_later}
use Rattle.dap_commands.proofs.Answering as answering
use Rattle.dap_commands.specs.Answer.{status_of_result}
use Rattle.dap_commands.specs.Lines.{IsSaid}
use Rattle.dap_commands.specs.inner.Puts.{TextPut}
use Rattle.dap_commands.proofs.answer.answer_asked.Goals as goal

pub returns-in-Text-clause-says : goal.returns-in-Text-clause-says
returns-in-Text-clause-says g c =
    let Out = Appends (g.O.Sink.written c.args.out.now) (g.O.Sink.written c.put_text.new.out) in
    let Front = AppendsFront (g.O.Sink.written c.args.out.now) (g.O.Sink.written c.put_text.new.out) in
    answering.text_says (g.S.Shelf.files c.args.shelf.now) c.args.target.now Out Front (λ line. IsSaid line (g.E.Sink.put_faults c.args.err.now) (g.E.Sink.put_faults c.args.err.now) (g.E.Sink.written c.args.err.now) (g.E.Sink.written c.args.err.now)) (result_text c.in-Text.kind c.in-Text.text)
    (answering.may_result _ c.args.target.now (asked_of c.args.asked.now) _ c.requires.is_asked c.in-Text.ensures.text.1) c.put_text.result
    (subst (λ t. TextPut t Out Front c.put_text.result) c.bytes.ensures c.put_text.ensures.put)

pub returns-in-Text-clause-only : goal.returns-in-Text-clause-only
returns-in-Text-clause-only g c = λ r must still quiet had.
    answering.text_only c.bytes.result.now (Appends (g.O.Sink.written c.args.out.now) (g.O.Sink.written c.put_text.new.out)) (AppendsFront (g.O.Sink.written c.args.out.now) (g.O.Sink.written c.put_text.new.out)) (Rose (g.O.Sink.put_faults c.args.out.now) (g.O.Sink.put_faults c.put_text.new.out)) c.put_text.result c.put_text.ensures.put c.put_text.ensures.write_fault quiet
    ∙ sym (ap status_of_result (c.in-Text.ensures.only r (answering.must_give _ c.args.target.now (asked_of c.args.asked.now) r c.requires.is_asked must)))

pub returns-in-Text-clause-asked : goal.returns-in-Text-clause-asked
returns-in-Text-clause-asked g c = answering.asks_first _ c.args.target.now (asked_of c.args.asked.now) _ _ c.requires.is_asked c.in-Text.ensures.asked

pub returns-in-Body-clause-says : goal.returns-in-Body-clause-says
returns-in-Body-clause-says g c =
    answering.body_says (g.S.Shelf.files c.args.shelf.now) c.args.target.now (Appends (g.O.Sink.written c.args.out.now) (g.O.Sink.written c.put_body.new.out)) (AppendsFront (g.O.Sink.written c.args.out.now) (g.O.Sink.written c.put_body.new.out)) (λ line. IsSaid line (g.E.Sink.put_faults c.args.err.now) (g.E.Sink.put_faults c.args.err.now) (g.E.Sink.written c.args.err.now) (g.E.Sink.written c.args.err.now)) (asked_of c.args.asked.now) (g.S.Shelf.content c.prepare.new.shelf c.in-Body.file) (text_in c.in-Body.body) c.put_body.result c.requires.is_asked
    c.in-Body.ensures.of_file.0 (answering.has_form (form_of c.args.asked.now.name) c.in-Body.ensures.of_file.1) c.in-Body.ensures.body c.in-Body.ensures.accepted c.in-Body.ensures.tells c.put_body.ensures.put
    (λ is bytes. (c.put_body.ensures.alone (c.in-Body.ensures.alone is)).1 bytes) c.put_body.ensures.is_put

pub returns-in-Body-clause-only : goal.returns-in-Body-clause-only
returns-in-Body-clause-only g c = λ r must still quiet had.
    answering.body_only (Rose (g.S.Shelf.faults c.args.shelf.now) (g.S.Shelf.faults c.put_body.new.shelf)) (Rose (g.O.Sink.put_faults c.args.out.now) (g.O.Sink.put_faults c.put_body.new.out)) c.put_body.result c.put_body.ensures.is_put
    (λ is. rose_later (g.S.Shelf.faults c.args.shelf.now) (g.S.Shelf.faults c.prepare.new.shelf) (g.S.Shelf.faults c.put_body.new.shelf) c.in-Body.ensures.later (c.put_body.ensures.read_fault is))
    c.put_body.ensures.write_fault still quiet
    ∙ sym (ap status_of_result (c.in-Body.ensures.only r (answering.must_give _ c.args.target.now (asked_of c.args.asked.now) r c.requires.is_asked must)).1)

pub returns-in-Body-clause-asked : goal.returns-in-Body-clause-asked
returns-in-Body-clause-asked g c =
    answering.asks_all _ c.args.target.now (asked_of c.args.asked.now) _ _ _ c.in-Body.ensures.cost.0 (cost_in c.in-Body.body) c.requires.is_asked c.in-Body.ensures.asked c.put_body.ensures.asked
    c.in-Body.ensures.cost.2 c.in-Body.ensures.accepted c.in-Body.ensures.cost.1

pub returns-in-Body-clause-asked_then : goal.returns-in-Body-clause-asked_then
returns-in-Body-clause-asked_then g c = λ some is.
    answering.asked_then _ c.args.target.now (asked_of c.args.asked.now) (g.S.Shelf.content c.prepare.new.shelf c.in-Body.file) (text_in c.in-Body.body) (MayAsk c.in-Body.body) _ _ _ _ _ c.requires.is_asked some
    c.in-Body.ensures.tells c.in-Body.ensures.body c.in-Body.ensures.cost_at (λ bytes holds. c.put_body.ensures.stops bytes holds is) c.in-Body.ensures.asked

pub put_joined-requires-clause-fits : goal.put_joined-requires-clause-fits
put_joined-requires-clause-fits g c lifetimes outlive = c.in-Joined.ensures.joined.fits

pub returns-in-Joined-clause-says : goal.returns-in-Joined-clause-says
returns-in-Joined-clause-says g c =
    answering.joined_says (g.S.Shelf.files c.args.shelf.now) c.args.target.now (Appends (g.O.Sink.written c.args.out.now) (g.O.Sink.written c.put_joined.new.out)) (AppendsFront (g.O.Sink.written c.args.out.now) (g.O.Sink.written c.put_joined.new.out)) (λ line. IsSaid line (g.E.Sink.put_faults c.args.err.now) (g.E.Sink.put_faults c.args.err.now) (g.E.Sink.written c.args.err.now) (g.E.Sink.written c.args.err.now)) (asked_of c.args.asked.now) (AreTold (map (g.S.Shelf.content c.prepare.new.shelf) c.in-Joined.files)) (join.text_in c.in-Joined.body) c.put_joined.result c.requires.is_asked
    c.in-Joined.ensures.joined.of_list c.in-Joined.ensures.joined.body c.in-Joined.ensures.joined.accepted c.in-Joined.ensures.joined.tells c.put_joined.ensures.put c.put_joined.ensures.is_put

pub returns-in-Joined-clause-only : goal.returns-in-Joined-clause-only
returns-in-Joined-clause-only g c = λ r must still quiet had.
    answering.body_only (Rose (g.S.Shelf.faults c.args.shelf.now) (g.S.Shelf.faults c.put_joined.new.shelf)) (Rose (g.O.Sink.put_faults c.args.out.now) (g.O.Sink.put_faults c.put_joined.new.out)) c.put_joined.result c.put_joined.ensures.is_put
    (λ is. rose_later (g.S.Shelf.faults c.args.shelf.now) (g.S.Shelf.faults c.prepare.new.shelf) (g.S.Shelf.faults c.put_joined.new.shelf) c.in-Joined.ensures.later (c.put_joined.ensures.read_fault is))
    c.put_joined.ensures.write_fault still quiet
    ∙ sym (ap status_of_result (c.in-Joined.ensures.only r (answering.must_give _ c.args.target.now (asked_of c.args.asked.now) r c.requires.is_asked must)).1)

pub returns-in-Joined-clause-asked : goal.returns-in-Joined-clause-asked
returns-in-Joined-clause-asked g c =
    answering.asks_all _ c.args.target.now (asked_of c.args.asked.now) _ _ _ c.in-Joined.ensures.joined.cost.0 (join.cost_in c.in-Joined.body) c.requires.is_asked c.in-Joined.ensures.asked c.put_joined.ensures.asked
    c.in-Joined.ensures.joined.cost.2 c.in-Joined.ensures.joined.accepted c.in-Joined.ensures.joined.cost.1

pub returns-in-Joined-clause-asked_then : goal.returns-in-Joined-clause-asked_then
returns-in-Joined-clause-asked_then g c = λ some is.
    answering.joined_asked_then _ c.args.target.now (asked_of c.args.asked.now) (AreTold (map (g.S.Shelf.content c.prepare.new.shelf) c.in-Joined.files)) (join.text_in c.in-Joined.body) (join.MayAsk c.in-Joined.body) _ _ _ _ _ c.requires.is_asked some
    c.in-Joined.ensures.joined.tells c.in-Joined.ensures.joined.body c.in-Joined.ensures.joined.cost_at (λ contents holds. c.put_joined.ensures.stops contents holds is) c.in-Joined.ensures.asked

pub returns-in-Saved-clause-says : goal.returns-in-Saved-clause-says
returns-in-Saved-clause-says g c =
    let Out = Appends (g.O.Sink.written c.args.out.now) (g.O.Sink.written c.put_saved.new.out) in
    let Front = AppendsFront (g.O.Sink.written c.args.out.now) (g.O.Sink.written c.put_saved.new.out) in
    let (text, sends, may) = c.in-Saved.ensures.sends in
    answering.text_says (g.S.Shelf.files c.args.shelf.now) c.args.target.now Out Front (λ line. IsSaid line (g.E.Sink.put_faults c.args.err.now) (g.E.Sink.put_faults c.args.err.now) (g.E.Sink.written c.args.err.now) (g.E.Sink.written c.args.err.now)) (result_text Dods text)
    (answering.may_result _ c.args.target.now (asked_of c.args.asked.now) _ c.requires.is_asked may) c.put_saved.result (c.put_saved.ensures.put text sends)

pub returns-in-Saved-clause-only : goal.returns-in-Saved-clause-only
returns-in-Saved-clause-only g c = λ r must still quiet had.
    let (text, sends, may) = c.in-Saved.ensures.sends in
    answering.text_only text (Appends (g.O.Sink.written c.args.out.now) (g.O.Sink.written c.put_saved.new.out)) (AppendsFront (g.O.Sink.written c.args.out.now) (g.O.Sink.written c.put_saved.new.out)) (Rose (g.O.Sink.put_faults c.args.out.now) (g.O.Sink.put_faults c.put_saved.new.out)) c.put_saved.result (c.put_saved.ensures.put text sends) c.put_saved.ensures.write_fault quiet
    ∙ sym (ap status_of_result (c.in-Saved.ensures.only r (answering.must_give _ c.args.target.now (asked_of c.args.asked.now) r c.requires.is_asked must)).1)

pub returns-in-Saved-clause-asked : goal.returns-in-Saved-clause-asked
returns-in-Saved-clause-asked g c = answering.asks_first _ c.args.target.now (asked_of c.args.asked.now) _ _ c.requires.is_asked c.in-Saved.ensures.asked

pub returns-in-Saved-clause-asked_first : goal.returns-in-Saved-clause-asked_first
returns-in-Saved-clause-asked_first g c = λ none.
    let (text, sends, may) = c.in-Saved.ensures.sends in
    absurd (answering.text_is_put text (Appends (g.O.Sink.written c.args.out.now) (g.O.Sink.written c.put_saved.new.out)) (AppendsFront (g.O.Sink.written c.args.out.now) (g.O.Sink.written c.put_saved.new.out)) c.put_saved.result (c.put_saved.ensures.put text sends) none)

pub returns-in-Refuse-clause-says : goal.returns-in-Refuse-clause-says
returns-in-Refuse-clause-says g c =
    answering.refuse_says (g.S.Shelf.files c.args.shelf.now) c.args.target.now (Appends (g.O.Sink.written c.args.out.now) (g.O.Sink.written c.put_cause.new.out)) (AppendsFront (g.O.Sink.written c.args.out.now) (g.O.Sink.written c.put_cause.new.out)) (λ line. IsSaid line (g.E.Sink.put_faults c.args.err.now) (g.E.Sink.put_faults c.put_cause.new.err) (g.E.Sink.written c.args.err.now) (g.E.Sink.written c.put_cause.new.err)) c.in-Refuse.cause c.put_cause.result (answering.may_result _ c.args.target.now (asked_of c.args.asked.now) _ c.requires.is_asked c.in-Refuse.ensures.refused)
    c.put_cause.ensures.put

pub returns-in-Refuse-clause-only : goal.returns-in-Refuse-clause-only
returns-in-Refuse-clause-only g c = λ r must still quiet had.
    answering.refuse_only c.in-Refuse.cause (Appends (g.O.Sink.written c.args.out.now) (g.O.Sink.written c.put_cause.new.out)) (AppendsFront (g.O.Sink.written c.args.out.now) (g.O.Sink.written c.put_cause.new.out)) (λ line. IsSaid line (g.E.Sink.put_faults c.args.err.now) (g.E.Sink.put_faults c.put_cause.new.err) (g.E.Sink.written c.args.err.now) (g.E.Sink.written c.put_cause.new.err)) (Rose (g.O.Sink.put_faults c.args.out.now) (g.O.Sink.put_faults c.put_cause.new.out)) c.put_cause.result c.put_cause.ensures.put c.put_cause.ensures.write_fault quiet had
    ∙ sym (ap status_of_result (c.in-Refuse.ensures.only r (answering.must_give _ c.args.target.now (asked_of c.args.asked.now) r c.requires.is_asked must)))

pub returns-in-Refuse-clause-asked : goal.returns-in-Refuse-clause-asked
returns-in-Refuse-clause-asked g c = answering.asks_first _ c.args.target.now (asked_of c.args.asked.now) _ _ c.requires.is_asked c.in-Refuse.ensures.asked

pub returns-in-ShelfFault-clause-asked : goal.returns-in-ShelfFault-clause-asked
returns-in-ShelfFault-clause-asked g c = answering.asks_first _ c.args.target.now (asked_of c.args.asked.now) _ _ c.requires.is_asked c.in-ShelfFault.ensures.asked

pub returns-in-Memory-clause-asked : goal.returns-in-Memory-clause-asked
returns-in-Memory-clause-asked g c = answering.asks_first _ c.args.target.now (asked_of c.args.asked.now) _ _ c.requires.is_asked c.in-Memory.ensures.asked

pub returns-in-Text-clause-asked_first : goal.returns-in-Text-clause-asked_first
returns-in-Text-clause-asked_first g c = λ none. absurd (answering.text_is_put c.bytes.result.now (Appends (g.O.Sink.written c.args.out.now) (g.O.Sink.written c.put_text.new.out)) (AppendsFront (g.O.Sink.written c.args.out.now) (g.O.Sink.written c.put_text.new.out)) c.put_text.result c.put_text.ensures.put none)

pub returns-in-Body-clause-asked_first : goal.returns-in-Body-clause-asked_first
returns-in-Body-clause-asked_first g c = λ none. absurd (answering.body_is_put c.put_body.result c.put_body.ensures.is_put none)

pub returns-in-Refuse-clause-asked_first : goal.returns-in-Refuse-clause-asked_first
returns-in-Refuse-clause-asked_first g c = λ none. answering.asks_before (g.S.Shelf.files c.args.shelf.now) c.args.target.now (asked_of c.args.asked.now) _ _ c.requires.is_asked c.in-Refuse.ensures.asked

pub returns-in-Memory-clause-asked_first : goal.returns-in-Memory-clause-asked_first
returns-in-Memory-clause-asked_first g c = λ none. answering.asks_before (g.S.Shelf.files c.args.shelf.now) c.args.target.now (asked_of c.args.asked.now) _ _ c.requires.is_asked c.in-Memory.ensures.asked

pub returns-in-Body-clause-shelf_kept : goal.returns-in-Body-clause-shelf_kept
returns-in-Body-clause-shelf_kept g c = λ other. c.put_body.ensures.shelf_kept other ∙ c.in-Body.ensures.kept
