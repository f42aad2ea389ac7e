use Rattle.std.proofs.Common.{◌≡◌, ◌∙◌, ap, sym, true, false, [], ◌∷◌, ◌++◌}
use Rattle.std.proofs.lemmas.Result.{err_from_is_err_and}
use Rattle.std.proofs.lemmas.Bool.{not-true, not-false}
use Rattle.text_tokens.specs.Tokens.{word}
use Rattle.dap_errors.specs.Object.{signs}
use Rattle.dap_errors.specs.inner.Machine.{Fields, Labelled, Assigned, Valued, field_of, step, may_label}
use Rattle.dap_errors.specs.inner.Standing.{label_kind}
use Rattle.text_tokens.proofs.Slices.{word_slice}
use Rattle.dap_errors.proofs.Live.{assigned_step}
use Rattle.dap_errors.proofs.Finding.{labelled_step, no_label}
use Rattle.dap_errors.proofs.Moves.{moves, stops_bad, stops_end, labelled_wants, valued_wants}
use Rattle.dap_errors.proofs.fields.field.Goals as goal

-- the kind of the name, and that it may stand there
pub returns-then-is_taken-clause-takes : goal.returns-then-is_taken-clause-takes
returns-then-is_taken-clause-takes c = λ at done w st n h.
    let slice = word_slice signs c.args.text.now c.args.name.now.place c.args.name.now.behind w n.token_at in
    let label : label_kind w ≡ c.label_of-label.result = sym (c.label_of-label.ensures ∙ ap label_kind slice) in
    let taken : may_label done w ≡ false = not-true _ (sym (c.is_taken.ensures done w label h) ∙ c.if-is_taken.true) in
    stops_bad c.args.text.now at c.args.name.now.place c.args.name.now.behind (word w) (Fields done) st n tt (no_label done w taken)

pub returns-in_err-at-clause-takes : goal.returns-in_err-at-clause-takes
returns-in_err-at-clause-takes c = λ at done w st n h.
    let slice = word_slice signs c.args.text.now c.args.name.now.place c.args.name.now.behind w n.token_at in
    let label : label_kind w ≡ c.label_of-label.result = sym (c.label_of-label.ensures ∙ ap label_kind slice) in
    let free : may_label done w ≡ true = not-false _ (sym (c.is_taken.ensures done w label h) ∙ c.if-is_taken.false) in
    let named = moves c.args.text.now at c.args.name.now.place c.args.name.now.behind (word w) (Fields done) (Labelled done w) st n (labelled_step done w free) in
    let p = err_from_is_err_and c.from_residual.result c.from_residual.ensures.1 in
    rw (p.1, p.2) (c.in_err-at.ensures.stands (Labelled done w) (Assigned done w) (labelled_wants done w) named)

pub returns-in_err-value-clause-takes : goal.returns-in_err-value-clause-takes
returns-in_err-value-clause-takes c = λ at done w st n h.
    let slice = word_slice signs c.args.text.now c.args.name.now.place c.args.name.now.behind w n.token_at in
    let label : label_kind w ≡ c.label_of-label.result = sym (c.label_of-label.ensures ∙ ap label_kind slice) in
    let free : may_label done w ≡ true = not-false _ (sym (c.is_taken.ensures done w label h) ∙ c.if-is_taken.false) in
    let named = moves c.args.text.now at c.args.name.now.place c.args.name.now.behind (word w) (Fields done) (Labelled done w) st n (labelled_step done w free) in
    let assigned = c.in_ok-at.ensures.stands (Labelled done w) (Assigned done w) (labelled_wants done w) named in
    let p = err_from_is_err_and c.from_residual-in_err-value.result c.from_residual-in_err-value.ensures.1 in
    let (end, none) = c.in_err-value.ensures.token in
    rw (p.1, p.2, end) (stops_end c.args.text.now c.in_ok-at.at (Assigned done w) assigned none tt)

pub returns-in_err-found-clause-takes : goal.returns-in_err-found-clause-takes
returns-in_err-found-clause-takes c = λ at done w st n h.
    let slice = word_slice signs c.args.text.now c.args.name.now.place c.args.name.now.behind w n.token_at in
    let label : label_kind w ≡ c.label_of-label.result = sym (c.label_of-label.ensures ∙ ap label_kind slice) in
    let free : may_label done w ≡ true = not-false _ (sym (c.is_taken.ensures done w label h) ∙ c.if-is_taken.false) in
    let named = moves c.args.text.now at c.args.name.now.place c.args.name.now.behind (word w) (Fields done) (Labelled done w) st n (labelled_step done w free) in
    let assigned = c.in_ok-at.ensures.stands (Labelled done w) (Assigned done w) (labelled_wants done w) named in
    let (t, k, m) = c.in_ok-value.ensures.token in
    let p = err_from_is_err_and c.from_residual-in_err-found.result c.from_residual-in_err-found.ensures.1 in
    rw (p.1, p.2) (c.in_err-found.ensures.takes c.in_ok-at.at done w t label assigned k m h free)

pub returns-in_err-behind-clause-takes : goal.returns-in_err-behind-clause-takes
returns-in_err-behind-clause-takes c = λ at done w st n h.
    let slice = word_slice signs c.args.text.now c.args.name.now.place c.args.name.now.behind w n.token_at in
    let label : label_kind w ≡ c.label_of-label.result = sym (c.label_of-label.ensures ∙ ap label_kind slice) in
    let free : may_label done w ≡ true = not-false _ (sym (c.is_taken.ensures done w label h) ∙ c.if-is_taken.false) in
    let named = moves c.args.text.now at c.args.name.now.place c.args.name.now.behind (word w) (Fields done) (Labelled done w) st n (labelled_step done w free) in
    let assigned = c.in_ok-at.ensures.stands (Labelled done w) (Assigned done w) (labelled_wants done w) named in
    let (t, k, m) = c.in_ok-value.ensures.token in
    let (v, t_is, holds, held) = c.in_ok-found.ensures.takes c.in_ok-at.at done w t label assigned k m h free in
    let valued = moves c.args.text.now c.in_ok-at.at c.in_ok-value.value.place c.in_ok-value.value.behind t (Assigned done w) (Valued done w v) assigned m (ap (step (Assigned done w)) (sym t_is) ∙ assigned_step done w v holds) in
    let p = err_from_is_err_and c.from_residual-in_err-behind.result c.from_residual-in_err-behind.ensures.1 in
    rw (p.1, p.2) (c.in_err-behind.ensures.stands (Valued done w v) (Fields (done ++ field_of w v ∷ [])) (valued_wants done w v) valued)

pub returns-clause-takes : goal.returns-clause-takes
returns-clause-takes c = λ at done w st n h.
    let slice = word_slice signs c.args.text.now c.args.name.now.place c.args.name.now.behind w n.token_at in
    let label : label_kind w ≡ c.label_of-label.result = sym (c.label_of-label.ensures ∙ ap label_kind slice) in
    let free : may_label done w ≡ true = not-false _ (sym (c.is_taken.ensures done w label h) ∙ c.if-is_taken.false) in
    let named = moves c.args.text.now at c.args.name.now.place c.args.name.now.behind (word w) (Fields done) (Labelled done w) st n (labelled_step done w free) in
    let assigned = c.in_ok-at.ensures.stands (Labelled done w) (Assigned done w) (labelled_wants done w) named in
    let (t, k, m) = c.in_ok-value.ensures.token in
    let (v, t_is, holds, held) = c.in_ok-found.ensures.takes c.in_ok-at.at done w t label assigned k m h free in
    let valued = moves c.args.text.now c.in_ok-at.at c.in_ok-value.value.place c.in_ok-value.value.behind t (Assigned done w) (Valued done w v) assigned m (ap (step (Assigned done w)) (sym t_is) ∙ assigned_step done w v holds) in
    (v, held, c.in_ok-behind.ensures.stands (Valued done w v) (Fields (done ++ field_of w v ∷ [])) (valued_wants done w v) valued)
