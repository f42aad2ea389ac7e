use Rattle.std.proofs.Common.{◌≡◌, ◌<◌, ◌≤◌, ◌∙◌, get_or, length, subst, sym}
use Rattle.dap_types.specs.Model.{many, trees_of}
use Rattle.saved_source.proofs.RowClauses.{all-kept, kept-one-more, not-kept}
use Rattle.saved_source.proofs.clauses.keep.Goals as goal

pub returns-then-not-keeps : goal.returns-then-not-keeps
returns-then-not-keeps c = λ cells rest st.
    let i = c.loop-test.test-index in
    let lt = subst (λ ts. i < length ts) c.items-test-items.ensures c.loop-test-test.true in
    let is = subst (λ ts. c.test-item.result ≡ get_or ts i c.test-item.result) c.items-test-items.ensures c.test-item.is in
    sym (not-kept c.args.sequence (many (trees_of cells)) c.args.tests.now.tests i c.test-item.result lt is (sym (c.keeps.ensures cells rest st) ∙ c.if-not-keeps.true))

pub loop-test-preserved : goal.loop-test-preserved
loop-test-preserved c = λ cells rest st.
    let i = c.loop-test.test-index in
    let lt = subst (λ ts. i < length ts) c.items-test-items.ensures c.loop-test-test.true in
    let is = subst (λ ts. c.test-item.result ≡ get_or ts i c.test-item.result) c.items-test-items.ensures c.test-item.is in
    kept-one-more c.args.sequence (many (trees_of cells)) c.args.tests.now.tests i c.test-item.result lt is (c.loop-test.invariant cells rest st) (sym (c.keeps.ensures cells rest st) ∙ c.if-not-keeps.false)

pub returns : goal.returns
returns c = λ cells rest st.
    let i = c.loop-test.test-index in
    let le = subst (λ ts. length ts ≤ i) c.items-test-items.ensures c.loop-test-test.false in
    sym (all-kept c.args.sequence (many (trees_of cells)) c.args.tests.now.tests i le (c.loop-test.invariant cells rest st))
