use Rattle.std.proofs.Common.{◌+◌, [], take, ap, subst, ◌∙◌, arith}
use Rattle.std.proofs.lemmas.List.{length-take-le, take_all}
use Rattle.std.proofs.lemmas.List.Edits.{length-between}
use Rattle.std.proofs.lemmas.Result.{err_from_is_err_and}
use Rattle.dap_client.specs.After.{form_in}
use Rattle.dap_client.specs.Replies.{form_of}
use Rattle.dap_client.specs.inner.Holding.{IsAfter}
use Rattle.dap_client.proofs.HeldPieces.{counted-few, front-judged, take-between}
use Rattle.dap_client.proofs.holding.judge_again.Goals as goal

pub loop-at-init : goal.loop-at-init
loop-at-init c = record {
  within = omega arith;
  after = ([], c.new-reader.ensures.stands);
  kind = c.new-reader.ensures.kind;
}

pub judge-requires-clause-stands : goal.judge-requires-clause-stands
judge-requires-clause-stands c = (take c.loop-at.at c.args.bytes.now, c.loop-at.invariant.after)

pub judge-requires-clause-within : goal.judge-requires-clause-within
judge-requires-clause-within c =
    omega (
      arith,
      (counted-few c.loop-at.reader (take c.loop-at.at c.args.bytes.now) c.loop-at.invariant.after).0,
      length-take-le c.loop-at.at c.args.bytes.now c.loop-at.invariant.within,
      c.requires.few,
      length-between c.args.bytes.now c.loop-at.at (c.loop-at.at + c.min.result) (omega (arith, c.min.ensures)),
      c.min.ensures,
    )

pub returns-in_err-reader-clause-judged : goal.returns-in_err-reader-clause-judged
returns-in_err-reader-clause-judged c =
    let p = err_from_is_err_and c.from_residual.result c.from_residual.ensures.1 in
    rw (p.1, p.2)
    (front-judged (form_of c.args.kind) (form_in c.loop-at.reader) c.args.bytes.now c.loop-at.at (c.loop-at.at + c.min.result) c.in_err-reader.field-0.0 (omega arith) (ap form_of c.loop-at.invariant.kind)
    (c.in_err-reader.ensures.judged (take c.loop-at.at c.args.bytes.now) c.loop-at.invariant.after))

pub loop-at-preserved : goal.loop-at-preserved
loop-at-preserved c =
    let (stands, form) = c.in_ok-reader.ensures.judged (take c.loop-at.at c.args.bytes.now) c.loop-at.invariant.after in
    record {
      within = omega (arith, c.min.ensures, c.loop-at-test.true);
      after = subst (λ l. IsAfter c.in_ok-reader.reader l) (take-between c.args.bytes.now c.loop-at.at (c.loop-at.at + c.min.result) (omega arith)) stands;
      kind = c.in_ok-reader.ensures.kind ∙ c.loop-at.invariant.kind;
    }

pub returns-clause-judged : goal.returns-clause-judged
returns-clause-judged c =
    (subst (λ l. IsAfter c.loop-at.reader l) (take_all c.loop-at.at c.args.bytes.now c.loop-at-test.false) c.loop-at.invariant.after, ap form_of c.loop-at.invariant.kind)
