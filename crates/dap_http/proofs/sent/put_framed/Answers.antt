use Rattle.std.proofs.Common.{◌∙◌, rules}
use Rattle.dap_http.proofs.Fronting.{chunked-same, end-front, end-whole, front-same, start-same, stop-front}
use Rattle.dap_http.proofs.sent.put_framed.Goals as goal

pub returns-in-Ok-end-clause-ok : goal.returns-in-Ok-end-clause-ok
returns-in-Ok-end-clause-ok g c =
    let same = c.put_all.ensures.beside in
    let all = end-whole _ _ _ _ _ _ _ _ _ _ c.args.body.now c.over-framing.ensures.written c.over-framing.ensures.began (start-same _ _ same)
    (chunked-same _ _ same ∙ c.over-framing.ensures.chunked) (front-same _ _ same ∙ c.over-framing.ensures.front) c.in-Ok.ensures.ok c.in-Ok-end.ensures.ok in
    search (rules, all)

pub returns-in-Err-end-clause-err : goal.returns-in-Err-end-clause-err
returns-in-Err-end-clause-err g c =
    let same = c.put_all.ensures.beside in
    let (part, appends, front) = end-front _ _ _ _ _ _ _ _ _ _ c.args.body.now c.over-framing.ensures.written c.over-framing.ensures.began (start-same _ _ same)
    (chunked-same _ _ same ∙ c.over-framing.ensures.chunked) (front-same _ _ same ∙ c.over-framing.ensures.front) c.in-Ok.ensures.ok c.in-Err-end.ensures.err in
    (part, search (rules, appends), front)

pub returns-in-Err-clause-err : goal.returns-in-Err-clause-err
returns-in-Err-clause-err g c =
    let same = c.put_all.ensures.beside in
    let (part, appends, front) = stop-front _ _ _ _ _ _ _ _ _ _ c.args.body.now c.over-framing.ensures.written c.over-framing.ensures.began (start-same _ _ same)
    (chunked-same _ _ same ∙ c.over-framing.ensures.chunked) (front-same _ _ same ∙ c.over-framing.ensures.front) c.in-Err.ensures.err c.stop.ensures.proper in
    (part, search (rules, appends), front)
