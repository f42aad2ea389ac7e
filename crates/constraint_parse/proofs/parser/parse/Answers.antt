use Rattle.constraint_parse.proofs.Answer.{spelled_of, read_of, slabs_of, fault_of}
use Rattle.constraint_parse.proofs.parser.parse.Goals as goal

pub returns-clause-spelled : goal.returns-clause-spelled
returns-clause-spelled c = spelled_of c.args.text.now c.read.result c.read.ensures

pub returns-clause-read : goal.returns-clause-read
returns-clause-read c = read_of c.args.text.now c.read.result c.read.ensures

pub returns-clause-slabs : goal.returns-clause-slabs
returns-clause-slabs c = slabs_of c.args.text.now c.read.result c.read.ensures

pub returns-clause-fault : goal.returns-clause-fault
returns-clause-fault c = fault_of c.args.text.now c.read.result c.read.ensures
