use Rattle.dap_outside.proofs.Passing.{front_first, puts_failed, puts_two}
use Rattle.xdr_decode.specs.inner.Lines.{stage_text}
use Rattle.dap_types.specs.Model.{sizes}
use Rattle.xdr_decode.proofs.line.put_element.Goals as goal

pub returns-in_err-put-clause-puts : goal.returns-in_err-put-clause-puts
returns-in_err-put-clause-puts g c =
    puts_failed c.from_residual.result _ _ _ _ _ c.from_residual.ensures.0
    (front_first _ _ _ c.args.decl.now.name (stage_text (sizes c.args.decl.now) c.args.stage) (rw c.bytes.ensures at c.in_err-put.ensures.puts))

pub returns-clause-puts : goal.returns-clause-puts
returns-clause-puts g c =
    puts_two c.put_stage.result _ _ _ _ _ _ c.args.decl.now.name (stage_text (sizes c.args.decl.now) c.args.stage) (rw c.bytes.ensures at c.in_ok-put.ensures.puts) (rw c.items.ensures at c.put_stage.ensures.puts)
