use Rattle.dap_server.proofs.LargeResponses as large
use Rattle.dap_server.proofs.open_saved.open_saved.Goals as goal

pub returns-then-size-gt-SAVED_MAX-clause-refused : goal.returns-then-size-gt-SAVED_MAX-clause-refused
returns-then-size-gt-SAVED_MAX-clause-refused g c =
    large.too_long _ c.size-size.result c.args.name.now c.damaged.result c.size-size.ensures.told c.if-size-gt-SAVED_MAX.true c.damaged.ensures
