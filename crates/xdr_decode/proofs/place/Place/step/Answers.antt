use Rattle.std.proofs.Common.{refl}
use Rattle.dap_types.specs.View.{members_view}
use Rattle.xdr_decode.proofs.Moving.{not_stepped, stepped_padding}
use Rattle.xdr_decode.proofs.place.Place.step.Goals as goal

pub returns-in-Padding-clause-wants : goal.returns-in-Padding-clause-wants
returns-in-Padding-clause-wants c = λ w ws f room placed early first goes read.
    stepped_padding (members_view c.args.decls.now) c.args.self.now _ _ c.args.token w ws f c.in-Padding.is refl refl refl first goes

pub returns-in-Bytes-clause-wants : goal.returns-in-Bytes-clause-wants
returns-in-Bytes-clause-wants c = λ w ws f room placed early first goes read.
    absurd (not_stepped (members_view c.args.decls.now) c.args.self.now _ _ c.args.token w ws f c.in-Bytes.is first goes read)
