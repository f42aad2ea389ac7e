use Rattle.std.proofs.Common.{sym, subst}
use Rattle.dap_types.specs.Model.{sequence}
use Rattle.xdr_decode.proofs.Moving.{moves_row}
use Rattle.xdr_decode.specs.inner.Moving.{Moves}
use Rattle.xdr_decode.specs.declared.place.Stage.TheVariants as stage
use Rattle.xdr_decode.proofs.place.behind_mark.Goals as goal

pub returns-in-Row-clause-moves : goal.returns-in-Row-clause-moves
returns-in-Row-clause-moves c = λ above name cs long early.
    subst (λ t. Moves above (sequence name cs) (stage.Rows c.args.row) t c.behind_cells.result) (sym c.in-Row.is)
    (moves_row above name cs c.args.row c.behind_cells.result (c.behind_cells.ensures.wants above name cs long early) (c.behind_cells.ensures.stage name cs long))
