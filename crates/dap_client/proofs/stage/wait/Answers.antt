use Rattle.std.proofs.Common.{◌++◌, refl, ◌∙◌}
use Rattle.dap_client.proofs.Texts.{few_nothing, open_no_head}
use Rattle.dap_client.proofs.Waiting.{first_on}
use Rattle.dap_client.proofs.stage.wait.Goals as goal

pub returns-in-Ok-clause-stage : goal.returns-in-Ok-clause-stage
returns-in-Ok-clause-stage c bytes o kept had = (
  first_on c.push.new.self c.in-Ok.field-0 c.args.word c.args.front.items bytes c.args.piece.now o kept (c.in-Ok.ensures.stands bytes had.0) (c.in-Ok.ensures.done bytes had.0)
      (c.push.ensures.start ∙ had.1),
  refl,
)

pub returns-in-Err-clause-stage : goal.returns-in-Err-clause-stage
returns-in-Err-clause-stage c bytes o kept had = (few_nothing (bytes ++ c.args.piece.now) (open_no_head c.args.word (bytes ++ c.args.piece.now) o), refl)
