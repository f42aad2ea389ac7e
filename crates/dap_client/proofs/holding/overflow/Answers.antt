use Rattle.std.proofs.Common.{◌++◌, Bool, true, false, Ok, Err, length, refl, sym, ap, subst, ◌∙◌, arith, append_assoc, length-append}
use Rattle.std.proofs.lemmas.Result.{err_from_is_err_and}
use Rattle.dap_client.specs.After.{form_in}
use Rattle.dap_client.specs.Verdict.{Form}
use Rattle.dap_client.specs.inner.Holding.{IsAfter, IsGoing, IsJudged}
use Rattle.dap_client.proofs.HeldBodies.{going-memory, memory-taken}
use Rattle.dap_client.proofs.HeldPieces.{counted-few, front-err, full-as, is-full, taken-as, too-long}
use Rattle.dap_client.proofs.holding.overflow.Goals as goal

pub judge-requires-clause-stands : goal.judge-requires-clause-stands
judge-requires-clause-stands c = (c.args.kept.items, c.requires.stands)

pub judge-requires-clause-within : goal.judge-requires-clause-within
judge-requires-clause-within c = omega (arith, (counted-few c.args.reader c.args.kept.items c.requires.stands).0, c.requires.full, c.ranges.limit.fits)

pub judge-requires-clause-few : goal.judge-requires-clause-few
judge-requires-clause-few c = omega (arith, c.requires.few)

pub returns-in_err-judged : goal.returns-in_err-judged
returns-in_err-judged c =
    let p = err_from_is_err_and c.from_residual.result c.from_residual.ensures.1 in
    rw (p.1, p.2)
    (front-err (form_in c.args.reader) c.args.limit c.args.kept.items c.args.front.now c.args.behind.now c.in_err-judged.field-0.0 c.requires.full (c.in_err-judged.ensures.judged c.args.kept.items c.requires.stands))

pub returns-in_err-full : goal.returns-in_err-full
returns-in_err-full c =
    let p = err_from_is_err_and c.from_residual-in_err-full.result c.from_residual-in_err-full.ensures.1 in
    rw (p.1, p.2) (memory-taken (form_in c.args.reader) c.args.limit (c.args.kept.items ++ (c.args.front.now ++ c.args.behind.now)) c.in_err-full.field-0.0 c.in_err-full.ensures.err)

pub is_going-requires : goal.is_going-requires
is_going-requires c = (c.args.kept.items ++ c.args.front.now, (c.in_ok-judged.ensures.judged c.args.kept.items c.requires.stands).0)

pub returns-in_err-going : goal.returns-in_err-going
returns-in_err-going c =
    let (stands, form) = c.in_ok-judged.ensures.judged c.args.kept.items c.requires.stands in
    let bytes = c.args.kept.items ++ c.args.front.now in
    let p = err_from_is_err_and c.from_residual-in_err-going.result c.from_residual-in_err-going.ensures.1 in
    rw (p.1, p.2)
    (memory-taken (form_in c.args.reader) c.args.limit (c.args.kept.items ++ (c.args.front.now ++ c.args.behind.now)) c.in_err-going.field-0.0
    (going-memory (form_in c.in_ok-judged.judged) bytes c.in_err-going.field-0.0 (c.in_err-going.ensures bytes stands)))

pub returns-then-going : goal.returns-then-going
returns-then-going c =
    let (stands, form) = c.in_ok-judged.ensures.judged c.args.kept.items c.requires.stands in
    let bytes = c.args.kept.items ++ c.args.front.now in
    too-long (form_in c.args.reader) c.args.limit c.args.kept.items c.args.front.now c.args.behind.now c.requires.full c.requires.some
    (subst (λ (f : Form). IsGoing f bytes (Ok true)) form (subst (λ (b : Bool). IsGoing (form_in c.in_ok-judged.judged) bytes (Ok b)) c.if-going.true (c.in_ok-going.ensures bytes stands)))

pub judge_again-requires-clause-few : goal.judge_again-requires-clause-few
judge_again-requires-clause-few c = omega (arith, ap length c.as_slice.ensures.value, ap length c.in_ok-full.ensures.ok, length-append c.args.kept.items c.args.front.now, c.requires.full, c.ranges.limit.fits)

pub returns-in_err-again : goal.returns-in_err-again
returns-in_err-again c =
    let p = err_from_is_err_and c.from_residual-in_err-again.result c.from_residual-in_err-again.ensures.1 in
    rw (p.1, p.2)
    (front-err (form_in c.args.reader) c.args.limit c.args.kept.items c.args.front.now c.args.behind.now c.in_err-again.field-0.0 c.requires.full
    (subst (λ l. IsJudged (form_in c.args.reader) l (Err c.in_err-again.field-0.0)) (c.as_slice.ensures.value ∙ c.in_ok-full.ensures.ok) c.in_err-again.ensures.judged))

pub read_on-requires-clause-kind : goal.read_on-requires-clause-kind
read_on-requires-clause-kind c = λ e. c.requires.kind (sym c.in_ok-again.ensures.kind ∙ e)

pub read_on-requires-clause-stands : goal.read_on-requires-clause-stands
read_on-requires-clause-stands c = (c.as_slice.result.now, c.in_ok-again.ensures.judged.0)

pub returns : goal.returns
returns c =
    let (stands, form) = c.in_ok-judged.ensures.judged c.args.kept.items c.requires.stands in
    let (again, same) = c.in_ok-again.ensures.judged in
    let bytes = c.args.kept.items ++ c.args.front.now in
    let going : IsGoing (form_in c.args.reader) bytes (Ok false) =
    subst (λ (f : Form). IsGoing f bytes (Ok false)) form (subst (λ (b : Bool). IsGoing (form_in c.in_ok-judged.judged) bytes (Ok b)) c.if-going.false (c.in_ok-going.ensures bytes stands)) in
    let full = is-full (form_in c.args.reader) c.args.limit bytes (omega (arith, length-append c.args.kept.items c.args.front.now, c.requires.full)) going in
    taken-as (form_in c.args.reader) (form_in c.in_ok-again.again) c.args.limit c.args.limit (c.args.kept.items ++ (c.args.front.now ++ c.args.behind.now)) (bytes ++ c.args.behind.now) c.read_on.result
    same refl (append_assoc c.args.kept.items c.args.front.now c.args.behind.now)
    (c.read_on.ensures bytes (subst (λ l. IsAfter c.in_ok-again.again l) (c.as_slice.ensures.value ∙ c.in_ok-full.ensures.ok) again)
    (full-as (form_in c.args.reader) (form_in c.in_ok-again.again) c.args.limit c.args.limit bytes same refl full)
    (omega (arith, length-append c.args.kept.items c.args.front.now, c.requires.full, c.requires.some)))
