use Rattle.both_ends.proofs.Replying as ends
use Rattle.both_ends.proofs.reply_is_judged.Goals as goal

pub returns : goal.returns
returns c = record { law = ends.reply_is_judged }
