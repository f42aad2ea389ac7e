use Rattle.dap_model.proofs.Spelling.{xdr_spells}
use Rattle.dap_model.proofs.laws.xdr_spells.Goals as goal
use Rattle.dap_model.specs.Laws.{XdrSpells}

law : XdrSpells
law = xdr_spells

pub returns : goal.returns
returns c = record { law = law }
