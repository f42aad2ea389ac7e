use Rattle.std.proofs.Common.{◌∙◌}
use Rattle.dap_errors.proofs.Finding.{taken_code, taken_message, taken_other}
use Rattle.dap_errors.proofs.fields.is_taken.Goals as goal

pub returns-in-Code : goal.returns-in-Code
returns-in-Code c = λ done w k h. c.is_some.ensures ∙ taken_code c.args.found.now done w (k ∙ c.in-Code.is) h

pub returns-in-Message : goal.returns-in-Message
returns-in-Message c = λ done w k h. c.is_some-in-Message.ensures ∙ taken_message c.args.found.now done w (k ∙ c.in-Message.is) h

pub returns-in-Other : goal.returns-in-Other
returns-in-Other c = λ done w k h. taken_other done w (k ∙ c.in-Other.is)
