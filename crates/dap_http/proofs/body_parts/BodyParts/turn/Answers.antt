use Rattle.std.proofs.Common.{[], ◌++◌, inl, refl, subst}
use Rattle.std.proofs.KnownBytes.{Consumes-nil}
use Rattle.dap_http.proofs.InTime.{lent-short}
use Rattle.dap_http.proofs.Parts.{arrives-now}
use Rattle.dap_http.specs.inner.Parting.{TakesPiece, Turns}
use Rattle.dap_http.specs.declared.coding.Coding.{Coding}
use Rattle.dap_http.proofs.body_parts.BodyParts.turn.Goals as goal

pub returns-in-Some-clause-turns : goal.returns-in-Some-clause-turns
returns-in-Some-clause-turns g c = ([], Consumes-nil _, λ bytes body follows. (arrives-now c.unframe.new.self bytes body (g.I.Source.ended c.args.source.now) c.in-Some.arrived (c.in-Some.ensures.unframes bytes body follows (g.I.Source.ended c.args.source.now)), inl refl))

pub returns-in-None-clause-turns : goal.returns-in-None-clause-turns
returns-in-None-clause-turns g c =
    let (x, consumes, gives) = c.go_on.ensures.turns in
    (x, consumes, λ bytes body follows. subst (λ (d : Coding). Turns c.go_on.new.self (bytes ++ x) body (g.I.Source.ended c.go_on.new.source) c.go_on.result × TakesPiece d bytes body x) c.in-None.ensures.coding (gives bytes body (c.in-None.ensures.unframes bytes body follows)))

pub returns-in-Some-clause-ended : goal.returns-in-Some-clause-ended
returns-in-Some-clause-ended g c = λ bytes body rest follows whole. (c.in-Some.ensures.ended bytes body rest follows whole, refl)

pub returns-in-None-clause-ended : goal.returns-in-None-clause-ended
returns-in-None-clause-ended g c = λ bytes body rest follows whole. let clash = c.in-None.ensures.ended bytes body rest follows whole in absurd (cc)

pub go_on-requires : goal.go_on-requires
go_on-requires g c = record { none = c.in-None.ensures.used refl; short = lent-short c.args.self.now c.unframe.new.self c.requires c.in-None.ensures.unframes }
