use Rattle.std.proofs.Common.{refl, sym, subst, arith}
use Rattle.dap_types.specs.View.{members_view}
use Rattle.xdr_decode.proofs.Moving.{settled_behind, settled_within}
use Rattle.xdr_decode.specs.inner.Moving.{IsSettled}
use Rattle.xdr_decode.specs.declared.place.Place.{Place}
use Rattle.xdr_decode.specs.declared.place.Stage.TheVariants as stage
use Rattle.xdr_decode.proofs.place.Place.settle.Goals as goal

pub returns-in-Behind-clause-settled : goal.returns-in-Behind-clause-settled
returns-in-Behind-clause-settled c = λ room.
    let next : Place = record { path = c.advance.new.path; stage = stage.Start; text = c.args.self.now.text } in
    subst (λ s. IsSettled (members_view c.args.decls.now) c.args.self.now s next) (sym c.in-Behind.is)
    (settled_behind c.advance.result (members_view c.args.decls.now) c.args.self.now next refl refl c.advance.ensures room)

pub returns-in_default : goal.returns-in_default
returns-in_default c = record {
  rank = omega arith;
  settled = λ room. settled_within (members_view c.args.decls.now) c.args.self.now _ c.args.stage c.in_default.not-Behind refl refl refl;
  marks = λ n have. have;
  text = refl;
}
