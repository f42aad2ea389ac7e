use Rattle.std.proofs.Common.{◌++◌}
use Rattle.dap_types.specs.Model.{sizes}
use Rattle.xdr_decode.proofs.Moving.{bytes_done, values_done}
use Rattle.xdr_decode.proofs.place.behind_elements.Goals as goal

pub returns-in-Byte-clause-wants : goal.returns-in-Byte-clause-wants
returns-in-Byte-clause-wants c = λ above le. bytes_done c.args.decl.now.base (above ++ c.args.decl.now.name) (sizes c.args.decl.now) c.args.at c.args.count c.in-Byte.is c.if-at-count.false

pub returns-in_default-clause-wants : goal.returns-in_default-clause-wants
returns-in_default-clause-wants c = λ above le. values_done c.args.decl.now.base (above ++ c.args.decl.now.name) (sizes c.args.decl.now) c.args.at c.args.count c.in_default.not-Byte c.if-at-count.false
