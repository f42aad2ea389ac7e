use Rattle.dds_text.specs.After.{DdsStandsAfter, IsSpent}
use Rattle.dds_text.proofs.Said.{gives, gives_well_formed}
use Rattle.dds_text.proofs.reader.DdsReader.dataset.Goals as goal

pub returns-clause-dataset : goal.returns-clause-dataset
unfolding DdsStandsAfter
returns-clause-dataset c = λ bytes stands. rw c.dataset.ensures (gives c.args.self.start c.args.self.front c.args.self.verdict bytes stands)

pub returns-clause-well_formed : goal.returns-clause-well_formed
unfolding DdsStandsAfter
returns-clause-well_formed c = λ bytes stands. rw c.dataset.ensures (gives_well_formed c.args.self.start c.args.self.front c.args.self.verdict bytes stands)

pub returns-clause-spent : goal.returns-clause-spent
unfolding IsSpent
returns-clause-spent c = λ spent. rw (c.dataset.ensures, spent)
