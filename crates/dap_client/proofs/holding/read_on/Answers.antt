use Rattle.std.proofs.Common.{◌-◌, ◌^◌, ◌++◌, length, refl, sym, ap, subst, ◌∙◌, arith, length-take}
use Rattle.std.proofs.lemmas.Result.{err_from_is_err_and}
use Rattle.dap_client.specs.After.{form_in}
use Rattle.dap_client.specs.inner.Holding.{IsAfter}
use Rattle.dap_client.proofs.HeldPieces.{all-looked, counted-few, held-on, read-err}
use Rattle.dap_client.proofs.holding.read_on.Goals as goal

pub judge-requires-clause-stands : goal.judge-requires-clause-stands
judge-requires-clause-stands c = c.requires.stands

pub judge-requires-clause-within : goal.judge-requires-clause-within
judge-requires-clause-within c =
    let (body, after) = c.requires.stands in
    omega (arith, ap length c.looked_at-looked_at.ensures, length-take (2 ^ 40 - c.args.reader.taken) c.args.part.now, (counted-few c.args.reader body after).0, (counted-few c.args.reader body after).1)

pub judge-requires-clause-few : goal.judge-requires-clause-few
judge-requires-clause-few c =
    omega (arith, ap length c.looked_at-looked_at.ensures, length-take (2 ^ 40 - c.args.reader.taken) c.args.part.now, c.requires.few)

pub returns-in_err-reader : goal.returns-in_err-reader
returns-in_err-reader c body after full more =
    let p = err_from_is_err_and c.from_residual.result c.from_residual.ensures.1 in
    rw (p.1, p.2)
    (read-err (form_in c.args.reader) c.args.limit (2 ^ 40 - c.args.reader.taken) body c.args.part.now c.looked_at-looked_at.result.now c.in_err-reader.field-0.0 c.looked_at-looked_at.ensures full (c.in_err-reader.ensures.judged body after))

pub returns : goal.returns
returns c body after full more =
    let (stands, form) = c.in_ok-reader.ensures.judged body after in
    let all = all-looked c.args.reader c.in_ok-reader.reader body c.args.part.now c.looked_at-looked_at.result.now c.looked_at-looked_at.ensures after stands in
    record {
      after = subst (λ l. IsAfter c.in_ok-reader.reader (body ++ l)) all stands;
      is_form = form;
      is_limit = refl;
      held = held-on (form_in c.args.reader) c.args.limit body c.args.part.now full more;
      not_version = λ e. c.requires.kind (sym c.in_ok-reader.ensures.kind ∙ e);
    }
