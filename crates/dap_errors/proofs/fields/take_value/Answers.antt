use Rattle.std.proofs.Common.{◌∙◌}
use Rattle.dap_errors.proofs.Finding.{code_kind, message_kind, other_kind}
use Rattle.dap_errors.proofs.fields.take_value.Goals as goal

pub returns-in-Code : goal.returns-in-Code
returns-in-Code c = record { takes = λ at done w t label st k n h may. c.code_field.ensures.takes at done w t (code_kind w (label ∙ c.in-Code.is)) st k n h may }

pub returns-in-Message : goal.returns-in-Message
returns-in-Message c = record {
  takes = λ at done w t label st k n h may.
      let (code, message) = message_kind w (label ∙ c.in-Message.is) in
      c.message_field.ensures.takes at done w t code message st k n h may;
}

pub returns-in-Other : goal.returns-in-Other
returns-in-Other c = record {
  takes = λ at done w t label st k n h may.
      let (code, message) = other_kind w (label ∙ c.in-Other.is) in
      c.other_field.ensures.takes at done w t code message st k n h;
}
