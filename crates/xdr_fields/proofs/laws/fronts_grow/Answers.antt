use Rattle.xdr_fields.proofs.Growing.{fronts_grow}
use Rattle.xdr_fields.proofs.laws.fronts_grow.Goals as goal
use Rattle.xdr_fields.specs.Laws.{FrontsGrow}

law : FrontsGrow
law = fronts_grow

pub returns : goal.returns
returns c = record { law = law }
