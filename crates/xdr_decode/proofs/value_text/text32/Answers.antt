use Rattle.xdr_decode.proofs.FloatTexts.{text32}
use Rattle.xdr_decode.proofs.value_text.text32.Goals as goal

pub returns : goal.returns
returns c = text32 c.args.bits c.of32.result c.of32.ensures
