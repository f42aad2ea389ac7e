use Rattle.dap_model.proofs.FilteredWords.{constrained_has_words}
use Rattle.dap_model.proofs.picking_laws.constrained_has_words.Goals as goal
use Rattle.dap_model.specs.Picking.{ConstrainedHasWords}

law : ConstrainedHasWords
law = constrained_has_words

pub returns : goal.returns
returns c = record { law = law }
