use Rattle.std.proofs.Common.{sym, subst, arith}
use Rattle.dap_types.specs.Model.{sequence}
use Rattle.xdr_decode.proofs.Moving.{moves_cell, moves_start}
use Rattle.xdr_decode.specs.inner.Moving.{Moves}
use Rattle.xdr_decode.specs.inner.Places.{IsEarly, IsStage}
use Rattle.xdr_decode.proofs.place.behind_in_rows.Goals as goal

pub returns-in-Cells-clause-moves : goal.returns-in-Cells-clause-moves
returns-in-Cells-clause-moves c = λ above name cs long placed early.
    moves_cell above name cs c.args.stage c.behind_cells.result c.args.token c.in-Cells.row c.in-Cells.at c.saturating_add.result c.in-Cells.is placed
    (omega (arith, c.saturating_add.ensures, c.ranges.columns.fits, long, subst (IsStage (sequence name cs)) c.in-Cells.is placed))
    (c.behind_cells.ensures.wants above name cs long (subst IsEarly c.in-Cells.is early)) (c.behind_cells.ensures.stage name cs long)

pub returns-in-Rows-clause-moves : goal.returns-in-Rows-clause-moves
returns-in-Rows-clause-moves c = λ above name cs long placed early.
    subst (λ s. Moves above (sequence name cs) s c.args.token c.behind_mark.result) (sym c.in-Rows.is) (c.behind_mark.ensures.moves above name cs long (subst IsEarly c.in-Rows.is early))

pub returns-in_default : goal.returns-in_default
returns-in_default c = record {
  rank = c.behind_mark-in_default.ensures.rank;
  moves = λ above name cs long placed early.
      moves_start above name cs c.args.stage c.behind_mark-in_default.result c.args.token placed c.in_default.not-Rows c.in_default.not-Cells (c.behind_mark-in_default.ensures.moves above name cs long (omega arith));
  marks = λ n have. c.behind_mark-in_default.ensures.marks n (omega arith);
}
