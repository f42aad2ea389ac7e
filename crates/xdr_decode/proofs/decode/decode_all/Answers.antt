use Rattle.xdr_decode.proofs.Decoded.{answer_body}
use Rattle.xdr_decode.proofs.OneVerdict.{only_answer}
use Rattle.xdr_decode.proofs.decode.decode_all.Goals as goal

pub returns-clause-only : goal.returns-clause-only
returns-clause-only c = only_answer c.args.body.now c.decode_body.result c.decode_body.ensures.good c.decode_body.ensures.refused

pub returns-clause-body : goal.returns-clause-body
returns-clause-body c = answer_body c.args.body.now c.decode_body.result c.decode_body.ensures.good
