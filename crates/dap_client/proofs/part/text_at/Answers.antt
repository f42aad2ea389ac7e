use Rattle.std.proofs.Common.{◌<◌, refl, sym, subst, arith}
use Rattle.xdr_decode.specs.Verdict.{budget}
use Rattle.dap_client.proofs.Filling.{full_at, less_than_full, most_at}
use Rattle.dap_client.proofs.TextBodies.{full_stopped, wrong_stopped}
use Rattle.dap_client.proofs.Wrapped.{err_same}
use Rattle.dap_client.proofs.part.text_at.Goals as goal

pub returns-in-Wrong-clause-read : goal.returns-in-Wrong-clause-read
returns-in-Wrong-clause-read c form before bytes long most text s = wrong_stopped form c.in-Wrong.field before bytes (most_at _ c.args.taken long most) text (rw c.in-Wrong.is at s)

pub returns-then-taken-eq-BUDGET : goal.returns-then-taken-eq-BUDGET
returns-then-taken-eq-BUDGET c = record {
  read = λ form before bytes long most text s.
      full_stopped form before bytes c.break_text.result (full_at _ c.args.taken long c.if-taken-eq-BUDGET.true) text (c.break_text.ensures.first form bytes (c.ended.ensures form bytes long s));
  goes_on = λ le. tt;
  fault = λ is. c.break_text.ensures.fault (err_same _ _ is);
}

pub returns-else-taken-eq-BUDGET : goal.returns-else-taken-eq-BUDGET
returns-else-taken-eq-BUDGET c = record {
  read = λ form before bytes long most text s. ((text, s, refl), subst (λ n. n < budget) (sym long) (less_than_full c.args.taken most c.if-taken-eq-BUDGET.false));
  goes_on = λ le. omega (arith, le, c.if-taken-eq-BUDGET.false);
  fault = λ is. cc;
}
