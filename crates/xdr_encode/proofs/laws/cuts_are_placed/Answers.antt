use Rattle.xdr_encode.proofs.Placing.{cuts_are_placed, plans_cut}
use Rattle.xdr_encode.proofs.laws.cuts_are_placed.Goals as goal

pub returns : goal.returns
returns c = record { places = cuts_are_placed; positions = plans_cut }
