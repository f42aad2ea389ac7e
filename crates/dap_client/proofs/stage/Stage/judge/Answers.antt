use Rattle.std.proofs.Common.{◌++◌, [], None, refl}
use Rattle.dap_client.proofs.Waiting.{no_error_on}
use Rattle.dap_client.proofs.Quietly.{never_failed}
use Rattle.dap_client.proofs.stage.Stage.judge.Goals as goal

pub judge_values-requires-clause-stands : goal.judge_values-requires-clause-stands
judge_values-requires-clause-stands c = let (bytes, put, long, o) = c.requires.stands in let (none, values) = rw c.in-Values.is at o in (bytes, put, long, values.begun)

pub returns-in-Values-clause-stage : goal.returns-in-Values-clause-stage
returns-in-Values-clause-stage c bytes put long o =
    let (none, values) = rw c.in-Values.is at o in c.judge_values.ensures.stage bytes put long (no_error_on bytes c.args.piece.now none) values.begun

pub returns-in_default-clause-cause : goal.returns-in_default-clause-cause
returns-in_default-clause-cause c = never_failed c.read.result c.read.ensures.cause
