use Rattle.std.proofs.Common.{[], sym}
use Rattle.error_word.proofs.InMemory.{error_here, no_error, no_error_here}
use Rattle.error_word.proofs.whole.says_error.Goals as goal

pub returns-in-Error : goal.returns-in-Error
returns-in-Error c = sym (error_here c.args.bytes.now (c.in-Error.ensures [] c.new.ensures))

pub returns-in-Open : goal.returns-in-Open
returns-in-Open c = let open_word = c.in-Open.ensures [] c.new.ensures in sym (no_error c.args.bytes.now open_word.no_token)

pub returns-in-Other : goal.returns-in-Other
returns-in-Other c = sym (no_error_here c.args.bytes.now (c.in-Other.ensures [] c.new.ensures))
