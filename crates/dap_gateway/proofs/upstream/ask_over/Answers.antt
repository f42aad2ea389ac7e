use Rattle.std.proofs.Common.{inr, ◌∙◌, sym}
use Rattle.dap_gateway.proofs.upstream.ask_over.Goals as goal

pub returns-in-Ok-clause-asked : goal.returns-in-Ok-clause-asked
returns-in-Ok-clause-asked g c =
    let left = g.met.L.Link.keeps_left _ _ c.put_all.ensures.beside in
    let takes = g.met.L.Link.keeps_take_faults _ _ c.put_all.ensures.beside in
    let written = g.met.L.Link.keeps_written _ _ c.read_body.ensures.beside in
    inr (record {
      sent = rw written c.in-Ok.ensures.ok;
      says = rw (sym left) c.read_body.ensures.says;
      most = rw (sym left) c.read_body.ensures.most;
      exact = λ reply is. record {
        too_large = λ body brings long. c.read_body.ensures.too_large reply body (left ∙ is) brings long;
        whole = λ body rest v delivers verdict few. c.read_body.ensures.whole_body reply body rest v (left ∙ is) delivers verdict few;
        broken = λ behind body coding wrong v coded breaks verdict few. c.read_body.ensures.broken_body reply behind body coding wrong v (left ∙ is) coded breaks verdict few;
      };
      fault = λ is. rw (sym takes) (c.read_body.ensures.read_fault is);
      kept_reading = λ other. c.read_body.ensures.kept other ∙ takes;
      kept_sending = g.met.L.Link.keeps_put_faults _ _ c.read_body.ensures.beside ∙ c.in-Ok.ensures.cause.kept;
    })
