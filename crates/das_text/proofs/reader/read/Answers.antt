use Rattle.das_text.proofs.Answered.{read_of, refused_of, followed_of, broken_off_of}
use Rattle.das_text.proofs.reader.read.Goals as goal

pub returns-clause-read : goal.returns-clause-read
returns-clause-read c = read_of c.args.text.now c.read_text.result (record { das = c.read_text.ensures.das; bad = c.read_text.ensures.bad; trailing = c.read_text.ensures.trailing; cut = c.read_text.ensures.cut })

pub returns-clause-refused : goal.returns-clause-refused
returns-clause-refused c = refused_of c.args.text.now c.read_text.result (record { das = c.read_text.ensures.das; bad = c.read_text.ensures.bad; trailing = c.read_text.ensures.trailing; cut = c.read_text.ensures.cut })

pub returns-clause-followed : goal.returns-clause-followed
returns-clause-followed c = followed_of c.args.text.now c.read_text.result (record { das = c.read_text.ensures.das; bad = c.read_text.ensures.bad; trailing = c.read_text.ensures.trailing; cut = c.read_text.ensures.cut })

pub returns-clause-broken_off : goal.returns-clause-broken_off
returns-clause-broken_off c = broken_off_of c.args.text.now c.read_text.result (record { das = c.read_text.ensures.das; bad = c.read_text.ensures.bad; trailing = c.read_text.ensures.trailing; cut = c.read_text.ensures.cut })
