use Rattle.std.proofs.Common.{◌∙◌, rules}
use Rattle.dap_http.proofs.Fronting.{broken-front, chunked-same, end-front, end-whole, front-same, start-same, stop-front}
use Rattle.dap_server.proofs.Choices.{either}
use Rattle.dap_server.proofs.Puts.{since-start}
use Rattle.dap_server.proofs.values.put_values.Goals as goal

pub returns-in-Ok-clause-puts : goal.returns-in-Ok-clause-puts
returns-in-Ok-clause-puts g c = λ bytes is.
    let put = end-whole _ _ _ _ _ _ _ _ _ _ _ c.over-framing.ensures.written c.over-framing.ensures.began (start-same _ _ c.stream.ensures.beside)
    (chunked-same _ _ c.stream.ensures.beside ∙ c.over-framing.ensures.chunked) (front-same _ _ c.stream.ensures.beside ∙ c.over-framing.ensures.front)
    (either (c.in-Sent.ensures.body bytes) (λ none. ((c.in-Sent.ensures.alone none).1 bytes).0) is) c.in-Ok.ensures.ok in
    search (rules, put)

pub returns-in-Err-clause-puts : goal.returns-in-Err-clause-puts
returns-in-Err-clause-puts g c = λ bytes is.
    let (part, appends, cut) = end-front _ _ _ _ _ _ _ _ _ _ _ c.over-framing.ensures.written c.over-framing.ensures.began (start-same _ _ c.stream.ensures.beside)
    (chunked-same _ _ c.stream.ensures.beside ∙ c.over-framing.ensures.chunked) (front-same _ _ c.stream.ensures.beside ∙ c.over-framing.ensures.front)
    (either (c.in-Sent.ensures.body bytes) (λ none. ((c.in-Sent.ensures.alone none).1 bytes).0) is) c.in-Err.ensures.err in
    (part, cut, search (rules, appends))

pub returns-in-Ok-break_off-clause-puts : goal.returns-in-Ok-break_off-clause-puts
returns-in-Ok-break_off-clause-puts g c = λ bytes is.
    let (part, appends, cut) = broken-front _ _ _ _ _ _ _ _ _ _ _ c.over-framing.ensures.written c.over-framing.ensures.began (start-same _ _ c.stream.ensures.beside)
    (chunked-same _ _ c.stream.ensures.beside ∙ c.over-framing.ensures.chunked) (front-same _ _ c.stream.ensures.beside ∙ c.over-framing.ensures.front)
    (either (c.in-ShelfFault.ensures.body bytes) (λ none. ((c.in-ShelfFault.ensures.alone none).1 bytes).0) is) c.in-Ok-break_off.ensures.proper in
    (part, cut, search (rules, appends))

pub returns-in-Err-break_off-clause-puts : goal.returns-in-Err-break_off-clause-puts
returns-in-Err-break_off-clause-puts g c = λ bytes is.
    let (part, appends, cut) = stop-front _ _ _ _ _ _ _ _ _ _ _ c.over-framing.ensures.written c.over-framing.ensures.began (start-same _ _ c.stream.ensures.beside)
    (chunked-same _ _ c.stream.ensures.beside ∙ c.over-framing.ensures.chunked) (front-same _ _ c.stream.ensures.beside ∙ c.over-framing.ensures.front)
    (either (c.in-ShelfFault.ensures.body bytes) (λ none. ((c.in-ShelfFault.ensures.alone none).1 bytes).0) is) (λ body more told unfinished. c.in-Err-break_off.ensures.err body more told) in
    (part, cut, search (rules, appends))

pub returns-in-WriteFault-clause-puts : goal.returns-in-WriteFault-clause-puts
returns-in-WriteFault-clause-puts g c = λ bytes is.
    let (part, appends, cut) = stop-front _ _ _ _ _ _ _ _ _ _ _ c.over-framing.ensures.written c.over-framing.ensures.began (start-same _ _ c.stream.ensures.beside)
    (chunked-same _ _ c.stream.ensures.beside ∙ c.over-framing.ensures.chunked) (front-same _ _ c.stream.ensures.beside ∙ c.over-framing.ensures.front)
    (either (c.in-WriteFault.ensures.body bytes) (λ none. ((c.in-WriteFault.ensures.alone none).1 bytes).0) is) c.stop.ensures.proper in
    (part, cut, search (rules, appends))

pub returns-in-Ok-clause-grows : goal.returns-in-Ok-clause-grows
returns-in-Ok-clause-grows g c =
    let (put, appends) = since-start _ _ _ (start-same _ _ c.stream.ensures.beside ∙ c.over-framing.ensures.began) c.in-Ok.ensures.grown in
    (put, search (rules, appends))

pub returns-in-Err-clause-grows : goal.returns-in-Err-clause-grows
returns-in-Err-clause-grows g c =
    let (put, appends) = since-start _ _ _ (start-same _ _ c.stream.ensures.beside ∙ c.over-framing.ensures.began) c.in-Err.ensures.grown in
    (put, search (rules, appends))

pub returns-in-Ok-break_off-clause-grows : goal.returns-in-Ok-break_off-clause-grows
returns-in-Ok-break_off-clause-grows g c =
    let (put, appends) = since-start _ _ _ (start-same _ _ c.stream.ensures.beside ∙ c.over-framing.ensures.began) c.in-Ok-break_off.ensures.grown in
    (put, search (rules, appends))

pub returns-in-Err-break_off-clause-grows : goal.returns-in-Err-break_off-clause-grows
returns-in-Err-break_off-clause-grows g c =
    let (put, appends) = since-start _ _ _ (start-same _ _ c.stream.ensures.beside ∙ c.over-framing.ensures.began) c.in-Err-break_off.ensures.grown in
    (put, search (rules, appends))

pub returns-in-WriteFault-clause-grows : goal.returns-in-WriteFault-clause-grows
returns-in-WriteFault-clause-grows g c =
    let (put, appends) = since-start _ _ _ (start-same _ _ c.stream.ensures.beside ∙ c.over-framing.ensures.began) c.stop.ensures.grown in
    (put, search (rules, appends))
