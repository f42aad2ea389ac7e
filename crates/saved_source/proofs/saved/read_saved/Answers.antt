use Rattle.saved_source.proofs.OneAnswer.{only_refused, only_saved}
use Rattle.saved_source.proofs.saved.read_saved.Goals as goal

pub returns-clause-read : goal.returns-clause-read
returns-clause-read c = only_saved c.args.bytes.now c.args.file_name.now c.read.result c.read.ensures.saved c.read.ensures.refused

pub returns-clause-first : goal.returns-clause-first
returns-clause-first c = only_refused c.args.bytes.now c.args.file_name.now c.read.result c.read.ensures.saved c.read.ensures.refused
