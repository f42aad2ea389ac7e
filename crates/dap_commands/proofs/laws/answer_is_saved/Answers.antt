use Rattle.dap_commands.proofs.SavedFiles.{answer_is_saved}
use Rattle.dap_commands.proofs.laws.answer_is_saved.Goals as goal

pub returns : goal.returns
returns c = record { law = answer_is_saved }
