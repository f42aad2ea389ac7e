use Rattle.std.proofs.Common.{arith, ◌<◌, ap, sym, ◌∙◌}
use Rattle.std.proofs.lemmas.Bool.{ltb-true}
use Rattle.dap_http.specs.inner.Steps.{is_number}
use Rattle.dap_http.proofs.Lending.{lent-all, lent-some}
use Rattle.dap_http.proofs.unframer.Unframer.lend.Goals as goal

pub returns-then-left-most-clause-tracks : goal.returns-then-left-most-clause-tracks
returns-then-left-most-clause-tracks c = λ k bytes t long.
    let positive : 0 < c.args.left = ltb-true 0 c.args.left (sym (ap is_number c.requires.chunk) ∙ c.args.self.now.number) in
    lent-all c.args.self.now c.count.new.self k c.args.left bytes t c.requires.chunk long positive c.count.ensures.at c.count.ensures.used c.count.ensures.from c.count.ensures.lent

pub returns-clause-tracks : goal.returns-clause-tracks
returns-clause-tracks c = λ k bytes t long.
    lent-some c.args.self.now c.count-2.new.self k c.args.left c.args.most bytes t c.requires.chunk long c.requires.some (omega arith) c.count-2.ensures.at c.count-2.ensures.used c.count-2.ensures.from c.count-2.ensures.lent
