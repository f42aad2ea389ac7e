use Rattle.xdr_decode.proofs.Checks.{only_checked, small_checked, small_refused}
use Rattle.xdr_decode.proofs.check.check_all.Goals as goal

pub returns-clause-good : goal.returns-clause-good
returns-clause-good c = small_checked c.args.body.now c.check_front.result c.requires c.check_front.ensures.good

pub returns-clause-refused : goal.returns-clause-refused
returns-clause-refused c = small_refused c.args.body.now c.check_front.result c.requires c.check_front.ensures.refused

pub returns-clause-only : goal.returns-clause-only
returns-clause-only c =
    only_checked c.args.body.now c.check_front.result (small_checked c.args.body.now c.check_front.result c.requires c.check_front.ensures.good)
    (small_refused c.args.body.now c.check_front.result c.requires c.check_front.ensures.refused)
