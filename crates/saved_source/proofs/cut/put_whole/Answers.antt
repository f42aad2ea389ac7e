use Rattle.dap_outside.proofs.Passing.{puts_as}
use Rattle.saved_source.proofs.Putting.{elements_front}
use Rattle.saved_source.proofs.cut.put_whole.Goals as goal

pub returns-clause-puts : goal.returns-clause-puts
returns-clause-puts g c = λ vs rest long small st.
    puts_as c.put.result _ _ _ _ _ _ (elements_front c.args.base vs c.args.bytes.now rest c.behind-rest.result.now c.args.count c.saturating_sub.result long small st c.behind-rest.ensures c.saturating_sub.ensures) c.put.ensures.puts
