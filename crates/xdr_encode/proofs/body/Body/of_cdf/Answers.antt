use Rattle.std.proofs.Common.{◌≡◌, ◌≤◌, ◌++◌, codes, length, refl, ap, ◌∙◌, subst, append-nil}
use Rattle.dap_types.specs.View.{dataset_view}
use Rattle.dap_model.specs.Dds.{dds}
use Rattle.dap_model.specs.Filter.{constrained}
use Rattle.grid_projection.specs.Resolved.{marks_in}
use Rattle.xdr_encode.specs.Bodies.{MayAsk, text_in}
use Rattle.xdr_encode.specs.Begun.{HaveBegun}
use Rattle.xdr_encode.specs.Rows.{rows_text}
use Rattle.xdr_encode.specs.Sent.{leaves_xdr}
use Rattle.xdr_encode.proofs.CdfBodies.{cdf_text, small_head, suited_for}
use Rattle.xdr_encode.proofs.Gathering.{same_err}
use Rattle.xdr_encode.proofs.body.Body.of_cdf.Goals as goal

pub marked_leaves-requires : goal.marked_leaves-requires
marked_leaves-requires c = suited_for c.args.header.now.contents (marks_in c.args.marks.now) (dataset_view c.args.dataset.now) c.requires.dataset c.requires.suits

pub returns-in-Err-marked_leaves-clause-refused : goal.returns-in-Err-marked_leaves-clause-refused
returns-in-Err-marked_leaves-clause-refused c = λ leaf e.
    let short : length (dds (constrained (marks_in c.args.marks.now) (dataset_view c.args.dataset.now))) ≤ 16777216 = subst (λ t. length t ≤ 16777216) c.in-Ok.ensures.text c.in-Ok.ensures.short in
    small_head c.args.header.now.contents (marks_in c.args.marks.now) (dataset_view c.args.dataset.now) _ c.requires.dataset short (c.in-Err-marked_leaves.ensures.refused leaf (same_err c.in-Err-marked_leaves.refusal _ e))

pub returns-in-Ok-body_of-clause-text : goal.returns-in-Ok-body_of-clause-text
unfolding text_in
returns-in-Ok-body_of-clause-text c = λ file keeps h.
    cdf_text c.args.header.now.contents (marks_in c.args.marks.now) (dataset_view c.args.dataset.now) c.requires.dataset keeps file c.bytes.result.now _ _ _
    (c.bytes.ensures ∙ c.in-Ok.ensures.text) c.in-Ok-body_of.ensures.head c.in-Ok-body_of.ensures.rows (ap (λ ls. leaves_xdr ls file) c.in-Ok-body_of.ensures.leaves ∙ c.in-Ok-marked_leaves.ensures.text file h)

pub returns-in-Ok-body_of-clause-only_small : goal.returns-in-Ok-body_of-clause-only_small
returns-in-Ok-body_of-clause-only_small c = λ e.
    let short : length (dds (constrained (marks_in c.args.marks.now) (dataset_view c.args.dataset.now))) ≤ 16777216 = subst (λ t. length t ≤ 16777216) c.in-Ok.ensures.text c.in-Ok.ensures.short in
    small_head c.args.header.now.contents (marks_in c.args.marks.now) (dataset_view c.args.dataset.now) _ c.requires.dataset short (c.in-Ok-marked_leaves.ensures.ok refl)

pub returns-in-Ok-body_of-clause-asks : goal.returns-in-Ok-body_of-clause-asks
unfolding MayAsk
returns-in-Ok-body_of-clause-asks c = λ file h put asked may.
    let text : c.bytes.result.now ≡ dds (constrained (marks_in c.args.marks.now) (dataset_view c.args.dataset.now)) = c.bytes.ensures ∙ c.in-Ok.ensures.text in
    let front : length (c.in-Ok-body_of.body.head ++ rows_text c.in-Ok-body_of.body.rows) ≡ length (dds (constrained (marks_in c.args.marks.now) (dataset_view c.args.dataset.now)) ++ codes "Data:\n")
    = ap (λ rs. length (c.in-Ok-body_of.body.head ++ rs)) c.in-Ok-body_of.ensures.rows ∙ ap length (append-nil c.in-Ok-body_of.body.head) ∙ ap length c.in-Ok-body_of.ensures.head ∙ ap (λ t. length (t ++ codes "Data:\n")) text in
    c.in-Ok-marked_leaves.ensures.asks file h _ put asked
    (subst (λ n. HaveBegun c.in-Ok-marked_leaves.leaves file n put asked) front
    (subst (λ ls. HaveBegun ls file (length (c.in-Ok-body_of.body.head ++ rows_text c.in-Ok-body_of.body.rows)) put asked) c.in-Ok-body_of.ensures.leaves may))
