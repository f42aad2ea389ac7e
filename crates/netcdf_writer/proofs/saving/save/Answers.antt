use Rattle.std.proofs.Common.{IsTrue}
use Rattle.netcdf_writer.proofs.Bodies.{saves_is}
use Rattle.netcdf_writer.proofs.saving.save.Goals as goal

pub returns-in-Ok-clause-saves : goal.returns-in-Ok-clause-saves
returns-in-Ok-clause-saves g c =
    let told = c.in-Ok.ensures.takes in
    saves_is (g.I.Source.left c.args.source.now) (g.I.Source.left c.read_body.new.source) (IsTrue (g.I.Source.ended c.read_body.new.source)) (g.O.Sink.written c.args.out.now) (g.O.Sink.written c.save_body.new.out)
    c.in-Ok.body.items c.save_body.result told.0 told.1 (rw c.as_slice.ensures.value at c.save_body.ensures.judges)
