use Rattle.std.proofs.Common.{}
use Rattle.netcdf_writer.proofs.Bodies.{taken_then}
use Rattle.netcdf_writer.proofs.saving.read_body.Goals as goal

pub returns-in_err-take_piece-clause-takes : goal.returns-in_err-take_piece-clause-takes
returns-in_err-take_piece-clause-takes g c =
    taken_then _ _ _ _ _ c.from_residual-in_err-take_piece.result c.from_residual-in_err-take_piece.ensures.0 c.loop-body.invariant.taken c.in_err-take_piece.ensures.takes
