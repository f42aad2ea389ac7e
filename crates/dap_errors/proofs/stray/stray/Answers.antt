use Rattle.std.proofs.Common.{arith}
use Rattle.dap_errors.proofs.Strays.{semicolon_end_is, semicolon_stray_is}
use Rattle.dap_errors.proofs.stray.stray.Goals as goal

pub returns-then-end-text : goal.returns-then-end-text
returns-then-end-text c =
    semicolon_end_is c.args.text.now c.args.behind c.white_end-semicolon.result c.white_end-end.result c.white_end-semicolon.ensures.run c.white_end-end.ensures.run (omega arith) c.if-text-semicolon-ne59.false (omega arith)

pub returns : goal.returns
returns c =
    semicolon_stray_is c.args.text.now c.args.behind c.white_end-semicolon.result c.white_end-end.result c.white_end-semicolon.ensures.run c.white_end-end.ensures.run (omega arith) c.if-text-semicolon-ne59.false (omega arith)
