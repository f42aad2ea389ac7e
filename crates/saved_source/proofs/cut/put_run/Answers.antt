use Rattle.std.proofs.Common.{◌*◌, ap}
use Rattle.dap_model.specs.Cutting.{whole_slabs}
use Rattle.dap_outside.proofs.Passing.{puts_as}
use Rattle.saved_source.proofs.Cutting.{at_first, nested}
use Rattle.saved_source.proofs.Runs.{is_run}
use Rattle.saved_source.proofs.cut.put_run.Goals as goal

pub returns-clause-puts : goal.returns-clause-puts
returns-clause-puts g c = λ n ns t rest inner_is one st.
    let here = nested c.args.base n ns c.args.slab (whole_slabs ns) t c.args.bytes.now rest st in
    let at = at_first c.args.base n ns c.args.slab (whole_slabs ns) t c.args.bytes.now rest c.behind-first.result.now c.args.inner (c.from.result * c.args.inner) here inner_is (ap (λ k. k * c.args.inner) c.from.ensures) c.behind-first.ensures in
    let r = is_run c.args.base n ns c.args.slab t c.args.bytes.now rest c.behind-first.result.now c.args.inner (c.from-2.result * c.args.inner) here one inner_is (ap (λ k. k * c.args.inner) c.from-2.ensures) at in
    puts_as c.put_whole.result _ _ _ _ _ _ r.are_cut (c.put_whole.ensures.puts r.values r.rest r.long r.small r.stand)
