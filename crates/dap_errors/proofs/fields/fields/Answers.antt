use Rattle.std.proofs.Common.{[], ◌∷◌, ◌++◌, ap, subst}
use Rattle.std.proofs.lemmas.Result.{err_from_is_err_and}
use Rattle.text_tokens.specs.Tokens.{Token, Next}
use Rattle.text_tokens.specs.Kinds.{IsKind}
use Rattle.text_tokens.specs.declared.tokens.Kind.{Kind}
use Rattle.dap_errors.specs.Object.{signs}
use Rattle.dap_errors.specs.inner.Machine.{Fields, field_of, step}
use Rattle.dap_errors.proofs.Moves.{stops_bad, stops_end}
use Rattle.dap_errors.proofs.Ending.{ended_at}
use Rattle.dap_errors.proofs.fields.fields.Goals as goal

pub returns-in_err-token-clause-stands : goal.returns-in_err-token-clause-stands
returns-in_err-token-clause-stands c = λ first.
    let (done, st, h) = c.names.invariant.stands first in
    let p = err_from_is_err_and c.from_residual.result c.from_residual.ensures.1 in
    let (end, none) = c.in_err-token.ensures.token in
    rw (p.1, p.2, end) (stops_end c.args.text.now c.names.at (Fields done) st none tt)

pub returns-in_err-next-in-Word-clause-stands : goal.returns-in_err-next-in-Word-clause-stands
returns-in_err-next-in-Word-clause-stands c = λ first.
    let (done, st, h) = c.names.invariant.stands first in
    let (t, k, n) = c.in_ok-token.ensures.token in
    let (bytes, t_is) = subst (λ (z : Kind). IsKind z t) c.in-Word.is k in
    let named = subst (λ (z : Token). Next signs c.args.text.now c.names.at c.in_ok-token.token.place c.in_ok-token.token.behind z) t_is n in
    let p = err_from_is_err_and c.from_residual-in_err-next-in-Word.result c.from_residual-in_err-next-in-Word.ensures.1 in
    rw (p.1, p.2) (c.in_err-next-in-Word.ensures.takes c.names.at done bytes st named h)

pub names-preserved : goal.names-preserved
names-preserved c = record {
  high = c.in_ok-next-in-Word.ensures.within.1;
  stands = λ first.
      let (done, st, h) = c.names.invariant.stands first in
      let (t, k, n) = c.in_ok-token.ensures.token in
      let (bytes, t_is) = subst (λ (z : Kind). IsKind z t) c.in-Word.is k in
      let named = subst (λ (z : Token). Next signs c.args.text.now c.names.at c.in_ok-token.token.place c.in_ok-token.token.behind z) t_is n in
      let (v, held, there) = c.in_ok-next-in-Word.ensures.takes c.names.at done bytes st named h in
      (done ++ field_of bytes v ∷ [], there, held);
}

pub returns-in-Sign-clause-stands : goal.returns-in-Sign-clause-stands
returns-in-Sign-clause-stands c = λ first.
    let (done, st, h) = c.names.invariant.stands first in
    let (t, k, n) = c.in_ok-token.ensures.token in
    let t_is = subst (λ (z : Kind). IsKind z t) c.in-Sign.is k in
    let named = subst (λ (z : Token). Next signs c.args.text.now c.names.at c.in_ok-token.token.place c.in_ok-token.token.behind z) t_is n in
    ended_at c.args.text.now c.names.at c.in_ok-token.token.place c.in_ok-token.token.behind c.in-Sign.sign done c.names.found c.ended.result st named h c.ended.ensures

pub returns-in-Quoted-clause-stands : goal.returns-in-Quoted-clause-stands
returns-in-Quoted-clause-stands c = λ first.
    let (done, st, h) = c.names.invariant.stands first in
    let (t, k, n) = c.in_ok-token.ensures.token in
    let (pieces, t_is) = subst (λ (z : Kind). IsKind z t) c.in-Quoted.is k in
    stops_bad c.args.text.now c.names.at c.in_ok-token.token.place c.in_ok-token.token.behind t (Fields done) st n tt (ap (step (Fields done)) t_is)
