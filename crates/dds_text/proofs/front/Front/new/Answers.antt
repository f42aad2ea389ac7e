use Rattle.std.proofs.Common.{refl, ap, [], ◌++◌}
use Rattle.dds_text.specs.inner.States.{begun}
use Rattle.dds_text.proofs.front.Front.new.Goals as goal

pub returns : goal.returns
returns c = (((begun, refl, c.new-2.ensures, ap (λ l. l ++ []) c.new.ensures.items), refl), refl)
