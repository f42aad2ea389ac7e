use Rattle.std.proofs.Common.{◌++◌, sym, subst, append_assoc}
use Rattle.dap_errors.specs.Reading.{IsBad}
use Rattle.dap_client.proofs.object.Object.read.Goals as goal

pub gather-requires : goal.gather-requires
gather-requires c = rw c.in-Front.is at c.requires.short

pub returns-in-Bad-clause-object : goal.returns-in-Bad-clause-object
returns-in-Bad-clause-object c bytes is o more = let bad = rw c.in-Bad.is at o in subst (λ l. IsBad l c.in-Bad.place) (sym (append_assoc bytes c.args.piece.now more)) (bad (c.args.piece.now ++ more))
