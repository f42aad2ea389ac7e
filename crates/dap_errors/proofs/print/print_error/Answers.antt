use Rattle.std.proofs.Common.{◌∙◌}
use Rattle.std.specs.Prelude.{codes}
use Rattle.std.specs.Fmt.{decimal}
use Rattle.viable.specs.Quoted.{escape}
use Rattle.dap_errors.proofs.Printing.{in_order, printed}
use Rattle.dap_errors.proofs.print.print_error.Goals as goal

pub returns : goal.returns
returns c =
    c.from_vec.ensures ∙ printed c.args.code c.args.message.now _ (in_order _ _ _ _ _ _ (codes "Error {\n    code = ") (decimal c.args.code) (codes ";\n    message = \"") (escape c.args.message.now) (codes "\";\n};\n")
    c.new-out.ensures.items c.in_ok-put.ensures c.in_ok-put_number.ensures c.in_ok-put-2.ensures c.in_ok-put_escaped.ensures c.in_ok-put-3.ensures)
