use Rattle.dap_server.proofs.OpeningLists as opening
use Rattle.dap_server.proofs.open_joined.open_list.Goals as goal

pub returns-then-size-gt-LIST_MAX-clause-refused : goal.returns-then-size-gt-LIST_MAX-clause-refused
returns-then-size-gt-LIST_MAX-clause-refused g c =
    opening.too_large _ c.size-size.result c.damaged.result c.size-size.ensures.told c.if-size-gt-LIST_MAX.true c.damaged.ensures
