use Rattle.soak.proofs.Serving.{elements_are, elements_are_these}
use Rattle.soak.proofs.laws.elements_are_counted.Goals as goal

pub returns-clause-all : goal.returns-clause-all
returns-clause-all c = elements_are

pub returns-clause-these : goal.returns-clause-these
returns-clause-these c = elements_are_these
