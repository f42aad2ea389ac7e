use Rattle.std.proofs.Common.{◌++◌, sym, subst}
use Rattle.dap_client.proofs.Wrapped.{data_fault, data_finished}
use Rattle.dap_client.specs.After.{IsFinished}
use Rattle.dap_client.specs.Shows.{Gains}
use Rattle.dap_client.specs.Verdict.{Form}
use Rattle.dap_client.proofs.part.Part.finish.Goals as goal

pub returns-in-Data-clause-finished : goal.returns-in-Data-clause-finished
returns-in-Data-clause-finished g c form bytes put long small p =
    let (same, s, on) = rw c.in-Data.is at p in
    let (text, sent, done) = c.finish.ensures.stands bytes put s in
    subst (λ (f : Form). Gains (g.O.Sink.written c.args.out.now) (g.O.Sink.written c.finish.new.out) (λ text. IsFinished f bytes (put ++ text) c.finish.result)) (sym same)
    (text, sent, data_finished c.in-Data.reader bytes put text c.finish.result on s done)

pub returns-in-Data-clause-fault : goal.returns-in-Data-clause-fault
returns-in-Data-clause-fault g c =
    let (form, bytes, put, p) = c.requires.stands in
    let (same, s, on) = rw c.in-Data.is at p in
    data_fault c.in-Data.reader _ c.finish.result on c.finish.ensures.cause

pub returns-in-Text-clause-finished : goal.returns-in-Text-clause-finished
returns-in-Text-clause-finished g c form bytes put long small p =
    let (text, s, none) = rw c.in-Text.is at p in
    let (more, sent, done) = c.finish_text.ensures.finished form bytes long small text (c.ended.ensures form bytes long s) in
    (more, sent, subst (λ l. IsFinished form bytes (l ++ more) c.finish_text.result) (sym none) done)

pub returns-in-Text-clause-fault : goal.returns-in-Text-clause-fault
returns-in-Text-clause-fault g c = c.finish_text.ensures.fault
