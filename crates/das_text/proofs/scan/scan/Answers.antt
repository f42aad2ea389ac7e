use Rattle.std.proofs.lemmas.Result.{err_from_is_err_and}
use Rattle.das_text.specs.inner.Held.{state_view}
use Rattle.das_text.proofs.Scanning.{goes_on, stops, stops_end, is_open}
use Rattle.das_text.proofs.scan.scan.Goals as goal

pub returns-in_err-token : goal.returns-in_err-token
returns-in_err-token c = record {
  within = (let p = err_from_is_err_and c.from_residual.result c.from_residual.ensures.1 in rw p.1 tt);
  stands =
      let p = err_from_is_err_and c.from_residual.result c.from_residual.ensures.1 in
      let (end, none) = c.in_err-token.ensures.token in
      rw (p.1, p.2, end) (stops_end c.args.text.now c.tokens.at (state_view c.tokens.levels c.tokens.state) c.tokens.invariant.stands (is_open c.tokens.levels c.tokens.state c.in_default.not-Ended) none);
}

pub tokens-preserved : goal.tokens-preserved
tokens-preserved c = record {
  high = c.in_ok-token.ensures.within.2;
  stands =
      let (t, k, n) = c.in_ok-token.ensures.token in
      goes_on c.args.text.now c.tokens.at c.in_ok-token.token.place c.in_ok-token.token.behind t (state_view c.tokens.levels c.tokens.state) c.next_state.new.levels c.in-Some.next c.in_ok-next.field-0 c.tokens.invariant.stands n (c.in_ok-next.ensures t k n.token_at) c.in-Some.is;
}

pub returns-in-None : goal.returns-in-None
returns-in-None c = record {
  within = tt;
  stands =
      let (t, k, n) = c.in_ok-token.ensures.token in
      rw c.bad_token.ensures (stops c.args.text.now c.tokens.at c.in_ok-token.token.place c.in_ok-token.token.behind t (state_view c.tokens.levels c.tokens.state) c.next_state.new.levels c.in_ok-next.field-0 c.tokens.invariant.stands (is_open c.tokens.levels c.tokens.state c.in_default.not-Ended) n (c.in_ok-next.ensures t k n.token_at) c.in-None.is);
}
