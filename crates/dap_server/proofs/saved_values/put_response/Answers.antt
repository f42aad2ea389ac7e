use Rattle.std.proofs.Common.{◌∙◌, rules}
use Rattle.dap_http.proofs.Fronting.{chunked-same, end-front, end-whole, front-same, start-same, stop-front}
use Rattle.dap_server.proofs.saved_values.put_response.Goals as goal

pub returns-in-Ok-end-clause-puts : goal.returns-in-Ok-end-clause-puts
returns-in-Ok-end-clause-puts g c = λ text is.
    let put = end-whole _ _ _ _ _ _ _ _ _ _ _ c.over-framing.ensures.written c.over-framing.ensures.began (start-same _ _ c.stream.ensures.beside)
    (chunked-same _ _ c.stream.ensures.beside ∙ c.over-framing.ensures.chunked) (front-same _ _ c.stream.ensures.beside ∙ c.over-framing.ensures.front)
    (c.in-Ok.ensures.ok text is) c.in-Ok-end.ensures.ok in
    search (rules, put)

pub returns-in-Err-end-clause-puts : goal.returns-in-Err-end-clause-puts
returns-in-Err-end-clause-puts g c = λ text is.
    let (part, appends, cut) = end-front _ _ _ _ _ _ _ _ _ _ _ c.over-framing.ensures.written c.over-framing.ensures.began (start-same _ _ c.stream.ensures.beside)
    (chunked-same _ _ c.stream.ensures.beside ∙ c.over-framing.ensures.chunked) (front-same _ _ c.stream.ensures.beside ∙ c.over-framing.ensures.front)
    (c.in-Ok.ensures.ok text is) c.in-Err-end.ensures.err in
    (part, cut, search (rules, appends))

pub returns-in-Err-clause-puts : goal.returns-in-Err-clause-puts
returns-in-Err-clause-puts g c = λ text is.
    let (part, appends, cut) = stop-front _ _ _ _ _ _ _ _ _ _ _ c.over-framing.ensures.written c.over-framing.ensures.began (start-same _ _ c.stream.ensures.beside)
    (chunked-same _ _ c.stream.ensures.beside ∙ c.over-framing.ensures.chunked) (front-same _ _ c.stream.ensures.beside ∙ c.over-framing.ensures.front)
    (c.in-Err.ensures.err text is) c.stop.ensures.proper in
    (part, cut, search (rules, appends))
