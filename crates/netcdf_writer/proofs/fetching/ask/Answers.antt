use Rattle.std.proofs.Common.{inr, ◌∙◌, sym}
use Rattle.netcdf_writer.proofs.Bodies.{fault_told, read_told}
use Rattle.netcdf_writer.proofs.Becoming.{becomes_fault, no_link_fault}
use Rattle.netcdf_writer.proofs.fetching.ask.Goals as goal

pub returns-in-Ok-clause-asked : goal.returns-in-Ok-clause-asked
returns-in-Ok-clause-asked g c =
    let left = g.met.L.Link.keeps_left _ _ c.put_all.ensures.beside in
    let takes = g.met.L.Link.keeps_take_faults _ _ c.put_all.ensures.beside in
    let written = g.met.L.Link.keeps_written _ _ c.read_body.ensures.beside in
    inr (record {
      outcome = c.read_body.result;
      sent = rw written c.in-Ok.ensures.ok;
      says = rw (sym left) c.read_body.ensures.says;
      most = rw (sym left) c.read_body.ensures.most;
      exact = λ reply is. record {
        too_large = λ body brings long. c.read_body.ensures.too_large reply body (left ∙ is) brings long;
        whole = λ body rest v delivers verdict few. c.read_body.ensures.whole_body reply body rest v (left ∙ is) delivers verdict few;
        broken = λ behind body coding wrong v coded breaks verdict few. c.read_body.ensures.broken_body reply behind body coding wrong v (left ∙ is) coded breaks verdict few;
      };
      becomes = c.save_outcome.ensures.becomes;
      read_fault = λ is. rw (sym takes) (c.read_body.ensures.read_fault (read_told _ c.save_outcome.result c.save_outcome.ensures.read_fault is));
      write_fault = λ is. fault_told _ c.save_outcome.result c.save_outcome.ensures.write_fault is;
      kept_reading = λ other. c.read_body.ensures.kept (λ is. other (becomes_fault _ _ _ c.save_outcome.result is c.save_outcome.ensures.becomes)) ∙ takes;
      kept_writing = c.save_outcome.ensures.kept;
      kept_sending = g.met.L.Link.keeps_put_faults _ _ c.read_body.ensures.beside ∙ c.in-Ok.ensures.cause.kept;
    })

pub returns-in-Ok-clause-no_link : goal.returns-in-Ok-clause-no_link
returns-in-Ok-clause-no_link g c = λ is. no_link_fault _ _ _ c.save_outcome.result is c.save_outcome.ensures.becomes
