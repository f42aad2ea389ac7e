use Rattle.std.proofs.Common.{sym}
use Rattle.dap_client.specs.After.{BodyStandsAfter, form_in}
use Rattle.dap_client.proofs.body.Body.break_off.Goals as goal

pub break_off-requires : goal.break_off-requires
unfolding BodyStandsAfter
break_off-requires c = let (bytes, put, stands) = c.requires in let (p, long, small) = stands in record { stands = (form_in c.args.self, bytes, put, p) }

pub returns : goal.returns
unfolding BodyStandsAfter
returns c bytes put (p, long, small) = c.break_off.ensures (form_in c.args.self) bytes put (sym long) small p
