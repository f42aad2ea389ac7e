use Rattle.xdr_decode.proofs.FloatTexts.{text64}
use Rattle.xdr_decode.proofs.value_text.text64.Goals as goal

pub returns : goal.returns
returns c = text64 c.args.bits c.of64.result c.of64.ensures
