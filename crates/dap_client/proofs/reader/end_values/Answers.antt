use Rattle.std.proofs.Common.{⊎_elim}
use Rattle.dap_client.proofs.Ending.{cut_end, refused_end, whole_end}
use Rattle.dap_client.proofs.reader.end_values.Goals as goal

pub returns-in-Ok-clause-ended : goal.returns-in-Ok-clause-ended
returns-in-Ok-clause-ended c bytes put small none o = whole_end c.args.decoder bytes put small none o (c.in-Ok.ensures.ended o.begun.values o.begun.lines o.begun.stands)

pub returns-clause-ended : goal.returns-clause-ended
returns-clause-ended c bytes put small none o = ⊎_elim
    (λ wrong. absurd (refused_end c.args.decoder bytes put c.in-Err.field _ o wrong))
    (λ on. cut_end c.args.decoder bytes put c.in-Err.field small none o on.0 on.1)
    (c.in-Err.ensures.refused o.begun.values o.begun.lines o.begun.stands)
