use Rattle.std.proofs.Common.{◌∙◌, ◌++◌, ap, false, true, inl, inr, [], length, Some, if◌then◌else◌}
use Rattle.dap_http.specs.Texts.{description_of, head_text}
use Rattle.dap_http.specs.declared.kind.Kind.TheVariants.{Ver}
use Rattle.dap_gateway.proofs.Sending.{puts-as}
use Rattle.dap_gateway.proofs.replies.put_version.Goals as goal

pub returns-in-Ok-clause-puts : goal.returns-in-Ok-clause-puts
returns-in-Ok-clause-puts g c =
    inl (puts-as _ _ 200 false _ _ c.put_whole.result
    (c.bytes.ensures ∙ c.in-Ok.ensures ∙ ap (λ t. head_text 200 (description_of Ver) (Some (length t)) false true ++ (if c.args.head_alone then [] else t)) c.version_text.ensures) c.put_whole.ensures.puts)

pub returns-in-Err-clause-puts : goal.returns-in-Err-clause-puts
returns-in-Err-clause-puts g c = inr c.put_memory.ensures.puts
