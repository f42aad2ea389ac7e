use Rattle.dap_model.proofs.FilteredWords.{constrained_has_words}
use Rattle.dap_model.proofs.Limits.{sent_is_read}
use Rattle.dap_model.proofs.Filtering.{filtered_all_fit}
use Rattle.dap_model.proofs.Staying.{stays_well_formed}
use Rattle.dap_model.proofs.reading_laws.constrained_is_read.Goals as goal
use Rattle.dap_model.specs.Filter.{constrained, constrained_trees}
use Rattle.dap_model.specs.Reading.{ConstrainedIsRead}

law : ConstrainedIsRead
law marks keeps d ts words is suit fit none short =
    sent_is_read (constrained marks d) (constrained_trees marks keeps d ts) (constrained_has_words marks d words) (stays_well_formed marks d is suit)
    (filtered_all_fit marks keeps d.members 1 ts suit fit) none short

pub returns : goal.returns
returns c = record { law = law }
