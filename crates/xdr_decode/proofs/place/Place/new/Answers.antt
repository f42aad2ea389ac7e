use Rattle.std.proofs.Common.{refl}
use Rattle.xdr_decode.proofs.Moving.{placed_new}
use Rattle.xdr_decode.specs.declared.place.Stage.TheVariants as stage
use Rattle.xdr_decode.specs.declared.place.Text.TheVariants as text
use Rattle.xdr_decode.proofs.place.Place.new.Goals as goal

pub returns-clause-wants : goal.returns-clause-wants
returns-clause-wants c = λ room.
    (placed_new c.enter_first.result c.args.decls.now c.new-path.result.items c.enter_first.new.path.items (record { path = c.enter_first.new.path; stage = stage.Start; text = text.Nothing }) c.new-path.ensures refl refl refl c.enter_first.ensures room).0

pub returns-clause-placed : goal.returns-clause-placed
returns-clause-placed c = λ room.
    (placed_new c.enter_first.result c.args.decls.now c.new-path.result.items c.enter_first.new.path.items (record { path = c.enter_first.new.path; stage = stage.Start; text = text.Nothing }) c.new-path.ensures refl refl refl c.enter_first.ensures room).1
