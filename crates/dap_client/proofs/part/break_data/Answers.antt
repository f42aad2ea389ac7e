use Rattle.dap_client.proofs.Wrapped.{bad_broken, error_broken, whole_broken}
use Rattle.dap_client.proofs.part.break_data.Goals as goal

pub returns-in-Whole : goal.returns-in-Whole
returns-in-Whole c bytes put e shows none = whole_broken bytes put c.args.wrong (rw c.in-Whole.is at e) shows

pub returns-in-ServerError : goal.returns-in-ServerError
returns-in-ServerError c bytes put e shows none = error_broken bytes put c.args.wrong c.in-ServerError._object (rw c.in-ServerError.is at e) shows

pub returns-in-Bad : goal.returns-in-Bad
returns-in-Bad c bytes put e shows none = bad_broken bytes put c.in-Bad.field c.args.wrong c.first_wrong.result c.first_wrong.ensures (rw c.in-Bad.is at e)

pub returns-in-Memory : goal.returns-in-Memory
returns-in-Memory c bytes put e shows none = let (few, nothing) = rw c.in-Memory.is at e in (nothing, λ is. none nothing)

pub returns-in-WriteFault : goal.returns-in-WriteFault
returns-in-WriteFault c bytes put e shows none = absurd (c.requires c.in-WriteFault.is)
