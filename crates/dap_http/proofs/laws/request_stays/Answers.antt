use Rattle.std.proofs.Common.{arith, length-append}
use Rattle.httparse.proofs.GrammarLemmas.{ReadsRequest-append}
use Rattle.dap_http.proofs.laws.request_stays.Goals as goal

pub returns : goal.returns
returns c = λ input rest more head first.
    ((ReadsRequest-append input head rest more first.0.0, first.0.1), omega (arith, first.1, length-append input more, length-append rest more))
