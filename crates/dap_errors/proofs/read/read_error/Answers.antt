use Rattle.dap_errors.proofs.Answers.{read_of, refused_of, broken_off_of}
use Rattle.dap_errors.proofs.read.read_error.Goals as goal

pub returns-clause-read : goal.returns-clause-read
returns-clause-read c = read_of c.args.text.now c.read.result (record { object = c.read.ensures.object; bad = c.read.ensures.bad; cut = c.read.ensures.cut })

pub returns-clause-refused : goal.returns-clause-refused
returns-clause-refused c = refused_of c.args.text.now c.read.result (record { object = c.read.ensures.object; bad = c.read.ensures.bad; cut = c.read.ensures.cut })

pub returns-clause-broken_off : goal.returns-clause-broken_off
returns-clause-broken_off c = broken_off_of c.args.text.now c.read.result (record { object = c.read.ensures.object; bad = c.read.ensures.bad; cut = c.read.ensures.cut })
