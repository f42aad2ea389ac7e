use Rattle.std.proofs.Common.{sym, ◌∙◌}
use Rattle.netcdf_source.proofs.SameShapes.{shapes_are, shapes_same}
use Rattle.netcdf_source.proofs.file.Header.same_shape.Goals as goal

pub returns-clause-same : goal.returns-clause-same
returns-clause-same c = λ all.
    rw (← c.self.view_is, ← c.other.view_is) (shapes_are c.self.inside.contents c.other.inside.contents (sym c.have_same_shape.ensures ∙ all))

pub returns-clause-differ : goal.returns-clause-differ
returns-clause-differ c = rw (← c.self.view_is, ← c.other.view_is) (λ same. c.have_same_shape.ensures ∙ shapes_same c.self.inside.contents c.other.inside.contents same)
