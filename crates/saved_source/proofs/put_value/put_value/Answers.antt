use Rattle.dap_outside.proofs.Passing.{puts_as}
use Rattle.xdr_values.proofs.Values.{byte_at, other_sent}
use Rattle.saved_source.proofs.put_value.put_value.Goals as goal

pub returns-in-Byte-clause-puts : goal.returns-in-Byte-clause-puts
returns-in-Byte-clause-puts g c = λ v is. puts_as c.put_word.result _ _ _ _ _ _ (byte_at c.args.base v c.args.own.now c.first_word.result c.in-Byte.is is c.first_word.ensures) c.put_word.ensures.puts

pub returns-in_default-clause-puts : goal.returns-in_default-clause-puts
returns-in_default-clause-puts g c = λ v is. puts_as c.put.result _ _ _ _ _ _ (other_sent c.args.base v c.args.own.now c.in_default.not-Byte is) c.put.ensures.puts
