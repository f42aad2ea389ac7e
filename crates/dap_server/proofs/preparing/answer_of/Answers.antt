use Rattle.dap_http.specs.declared.kind.Kind.TheVariants.{Das, Dds, Dods, Ver}
use Rattle.std.proofs.Common.{◌∙◌, IfErr, ap, arith, refl, subst}
use Rattle.dap_server.proofs.AskedBefore.{nothing_to_bad, text_refuses}
use Rattle.dap_server.proofs.JoinsGiven.{for_err, for_ok, version_within}
use Rattle.dap_server.proofs.JoinsMade.{list_asked, list_told, made_for, text_no_files}
use Rattle.dap_server.proofs.Making as making
use Rattle.dap_server.specs.Costs.{IsAskedBefore, IsWithinBadLine}
use Rattle.dap_server.specs.Files.{form_of}
use Rattle.dap_server.specs.Prepared.{WhereRefuse}
use Rattle.dap_server.specs.inner.Opening.{WhereRefused}
use Rattle.dap_server.proofs.preparing.answer_of.Goals as goal

pub returns-in-Ver-clause-made : goal.returns-in-Ver-clause-made
returns-in-Ver-clause-made g c =
    making.text_for (g.S.Shelf.files c.args.shelf.now) _ _ c.args.target.now Ver c.as_str-name.result.now c.bytes-query.result.now _ c.version_answer.result c.text_prepared.result c.text_prepared.ensures c.in-Ver.is c.as_str-name.ensures
    c.bytes-query.ensures (making.no_data Ver tt) (making.version_given (g.S.Shelf.files c.args.shelf.now) c.as_str-name.result.now c.bytes-query.result.now c.version_answer.result c.version_answer.ensures.text)
    (making.no_refusal c.version_answer.result _ c.version_answer.ensures.refused)
    (making.no_fault c.version_answer.result _ c.version_answer.ensures.no_fault)

pub returns-in-Das-clause-made : goal.returns-in-Das-clause-made
returns-in-Das-clause-made g c =
    making.text_for (g.S.Shelf.files c.args.shelf.now) _ _ c.args.target.now Das c.as_str-name.result.now c.bytes-query.result.now _ c.das_by_form.result c.text_prepared-in-Das.result c.text_prepared-in-Das.ensures c.in-Das.is c.as_str-name.ensures
    c.bytes-query.ensures (making.no_data Das tt) (making.das_given (g.S.Shelf.files c.args.shelf.now) c.as_str-name.result.now c.bytes-query.result.now c.das_by_form.result c.das_by_form.ensures.text)
    (making.das_not_given (g.S.Shelf.files c.args.shelf.now) c.as_str-name.result.now c.bytes-query.result.now c.das_by_form.result c.das_by_form.ensures.refused)
    c.das_by_form.ensures.why

pub returns-in-Das-clause-untouched : goal.returns-in-Das-clause-untouched
returns-in-Das-clause-untouched g c = λ none. c.das_by_form.ensures.untouched (making.no_form c.args.target.now Das c.as_str-name.result.now c.in-Das.is c.as_str-name.ensures refl none)

pub returns-in-Dds-clause-made : goal.returns-in-Dds-clause-made
returns-in-Dds-clause-made g c =
    making.text_for (g.S.Shelf.files c.args.shelf.now) _ _ c.args.target.now Dds c.as_str-name.result.now c.bytes-query.result.now _ c.dds_by_form.result c.text_prepared-in-Dds.result c.text_prepared-in-Dds.ensures c.in-Dds.is c.as_str-name.ensures
    c.bytes-query.ensures (making.no_data Dds tt) c.dds_by_form.ensures.text
    c.dds_by_form.ensures.refused
    c.dds_by_form.ensures.why

pub returns-in-Dds-clause-untouched : goal.returns-in-Dds-clause-untouched
returns-in-Dds-clause-untouched g c = λ none. c.dds_by_form.ensures.untouched (making.no_form c.args.target.now Dds c.as_str-name.result.now c.in-Dds.is c.as_str-name.ensures refl none)

pub returns-in-Dods-clause-made : goal.returns-in-Dods-clause-made
returns-in-Dods-clause-made g c =
    made_for (g.S.Shelf.files c.args.shelf.now) _ _ c.args.target.now c.as_str-name.result.now c.bytes-query.result.now _ c.data_answer.result c.in-Dods.is c.as_str-name.ensures c.bytes-query.ensures c.data_answer.ensures.made

pub returns-in-Dods-clause-untouched : goal.returns-in-Dods-clause-untouched
returns-in-Dods-clause-untouched g c = λ none. c.data_answer.ensures.untouched (making.no_form c.args.target.now Dods c.as_str-name.result.now c.in-Dods.is c.as_str-name.ensures refl none)

pub returns-in-Ver-clause-kept : goal.returns-in-Ver-clause-kept
returns-in-Ver-clause-kept g c = making.text_stays Ver c.version_answer.result c.text_prepared.result _ _ c.text_prepared.ensures (making.still_stays c.version_answer.result _ _ refl)

pub returns-in-Das-clause-kept : goal.returns-in-Das-clause-kept
returns-in-Das-clause-kept g c = making.text_stays Das c.das_by_form.result c.text_prepared-in-Das.result _ _ c.text_prepared-in-Das.ensures c.das_by_form.ensures.stays

pub returns-in-Dds-clause-kept : goal.returns-in-Dds-clause-kept
returns-in-Dds-clause-kept g c = making.text_stays Dds c.dds_by_form.result c.text_prepared-in-Dds.result _ _ c.text_prepared-in-Dds.ensures c.dds_by_form.ensures.stays

pub returns-in-Ver-clause-asked_lines : goal.returns-in-Ver-clause-asked_lines
returns-in-Ver-clause-asked_lines g c = text_no_files _ Ver c.version_answer.result c.text_prepared.result c.text_prepared.ensures

pub returns-in-Das-clause-asked_lines : goal.returns-in-Das-clause-asked_lines
returns-in-Das-clause-asked_lines g c = text_no_files _ Das c.das_by_form.result c.text_prepared-in-Das.result c.text_prepared-in-Das.ensures

pub returns-in-Dds-clause-asked_lines : goal.returns-in-Dds-clause-asked_lines
returns-in-Dds-clause-asked_lines g c = text_no_files _ Dds c.dds_by_form.result c.text_prepared-in-Dds.result c.text_prepared-in-Dds.ensures

pub returns-in-Dods-clause-asked_lines : goal.returns-in-Dods-clause-asked_lines
returns-in-Dods-clause-asked_lines g c = c.data_answer.ensures.asked_lines

pub returns-in-Ver-clause-asked_before : goal.returns-in-Ver-clause-asked_before
returns-in-Ver-clause-asked_before g c = λ form.
    text_refuses (λ cause. IsAskedBefore (g.S.Shelf.files c.args.shelf.now) c.args.target.now.name cause (g.S.Shelf.asked c.args.shelf.now) (g.S.Shelf.asked c.args.shelf.now)) Ver c.version_answer.result c.text_prepared.result c.text_prepared.ensures
    (making.no_refusal c.version_answer.result _ c.version_answer.ensures.refused)

pub returns-in-Das-clause-asked_before : goal.returns-in-Das-clause-asked_before
returns-in-Das-clause-asked_before g c = λ form.
    text_refuses (λ cause. IsAskedBefore (g.S.Shelf.files c.args.shelf.now) c.args.target.now.name cause (g.S.Shelf.asked c.args.shelf.now) (g.S.Shelf.asked c.das_by_form.new.shelf)) Das c.das_by_form.result c.text_prepared-in-Das.result c.text_prepared-in-Das.ensures
    (subst (λ n. IfErr c.das_by_form.result (WhereRefused (λ cause. IsAskedBefore (g.S.Shelf.files c.args.shelf.now) n cause (g.S.Shelf.asked c.args.shelf.now) (g.S.Shelf.asked c.das_by_form.new.shelf)))) c.as_str-name.ensures
    (c.das_by_form.ensures.asked_before (ap form_of c.as_str-name.ensures ∙ form)))

pub returns-in-Dds-clause-asked_before : goal.returns-in-Dds-clause-asked_before
returns-in-Dds-clause-asked_before g c = λ form.
    text_refuses (λ cause. IsAskedBefore (g.S.Shelf.files c.args.shelf.now) c.args.target.now.name cause (g.S.Shelf.asked c.args.shelf.now) (g.S.Shelf.asked c.dds_by_form.new.shelf)) Dds c.dds_by_form.result c.text_prepared-in-Dds.result c.text_prepared-in-Dds.ensures
    (subst (λ n. IfErr c.dds_by_form.result (WhereRefused (λ cause. IsAskedBefore (g.S.Shelf.files c.args.shelf.now) n cause (g.S.Shelf.asked c.args.shelf.now) (g.S.Shelf.asked c.dds_by_form.new.shelf)))) c.as_str-name.ensures
    (c.dds_by_form.ensures.asked_before (ap form_of c.as_str-name.ensures ∙ form)))

pub returns-in-Dods-clause-asked_before : goal.returns-in-Dods-clause-asked_before
returns-in-Dods-clause-asked_before g c = λ form.
    subst (λ n. WhereRefuse c.data_answer.result (λ cause. IsAskedBefore (g.S.Shelf.files c.args.shelf.now) n cause (g.S.Shelf.asked c.args.shelf.now) (g.S.Shelf.asked c.data_answer.new.shelf))) c.as_str-name.ensures
    (c.data_answer.ensures.asked_before (ap form_of c.as_str-name.ensures ∙ form))

pub returns-in-Ver-clause-of_list : goal.returns-in-Ver-clause-of_list
returns-in-Ver-clause-of_list g c = λ form.
    list_asked _ c.args.target.now Ver c.as_str-name.result.now c.bytes-query.result.now _ _ c.text_prepared.result c.in-Ver.is c.as_str-name.ensures c.bytes-query.ensures
    (list_told _ Ver c.version_answer.result c.text_prepared.result c.text_prepared.ensures
    (version_within (g.S.Shelf.files c.args.shelf.now) c.as_str-name.result.now c.bytes-query.result.now _ c.version_answer.result c.version_answer.ensures.text)
    (making.no_refusal c.version_answer.result _ c.version_answer.ensures.refused))

pub returns-in-Das-clause-of_list : goal.returns-in-Das-clause-of_list
returns-in-Das-clause-of_list g c = λ form.
    list_asked _ c.args.target.now Das c.as_str-name.result.now c.bytes-query.result.now _ _ c.text_prepared-in-Das.result c.in-Das.is c.as_str-name.ensures c.bytes-query.ensures
    (list_told _ Das c.das_by_form.result c.text_prepared-in-Das.result c.text_prepared-in-Das.ensures
    (for_ok (λ text given. given c.bytes-query.result.now) c.das_by_form.result (c.das_by_form.ensures.list_text (ap form_of c.as_str-name.ensures ∙ form)))
    (for_err (λ why given. given c.bytes-query.result.now) c.das_by_form.result (c.das_by_form.ensures.list_refused (ap form_of c.as_str-name.ensures ∙ form))))

pub returns-in-Dds-clause-of_list : goal.returns-in-Dds-clause-of_list
returns-in-Dds-clause-of_list g c = λ form.
    list_asked _ c.args.target.now Dds c.as_str-name.result.now c.bytes-query.result.now _ _ c.text_prepared-in-Dds.result c.in-Dds.is c.as_str-name.ensures c.bytes-query.ensures
    (list_told _ Dds c.dds_by_form.result c.text_prepared-in-Dds.result c.text_prepared-in-Dds.ensures
    (c.dds_by_form.ensures.list_text (ap form_of c.as_str-name.ensures ∙ form))
    (c.dds_by_form.ensures.list_refused (ap form_of c.as_str-name.ensures ∙ form)))

pub returns-in-Dods-clause-of_list : goal.returns-in-Dods-clause-of_list
returns-in-Dods-clause-of_list g c = λ form.
    list_asked _ c.args.target.now Dods c.as_str-name.result.now c.bytes-query.result.now _ _ c.data_answer.result c.in-Dods.is c.as_str-name.ensures c.bytes-query.ensures
    (c.data_answer.ensures.of_list (ap form_of c.as_str-name.ensures ∙ form))

pub returns-in-Ver-clause-before_bad : goal.returns-in-Ver-clause-before_bad
returns-in-Ver-clause-before_bad g c = λ form. nothing_to_bad (g.S.Shelf.files c.args.shelf.now) c.args.target.now.name _ _ (omega arith)

pub returns-in-Das-clause-before_bad : goal.returns-in-Das-clause-before_bad
returns-in-Das-clause-before_bad g c = λ form.
    subst (λ n. IsWithinBadLine (g.S.Shelf.files c.args.shelf.now) n (g.S.Shelf.asked c.args.shelf.now) (g.S.Shelf.asked c.das_by_form.new.shelf)) c.as_str-name.ensures
    (c.das_by_form.ensures.before_bad (ap form_of c.as_str-name.ensures ∙ form))

pub returns-in-Dds-clause-before_bad : goal.returns-in-Dds-clause-before_bad
returns-in-Dds-clause-before_bad g c = λ form.
    subst (λ n. IsWithinBadLine (g.S.Shelf.files c.args.shelf.now) n (g.S.Shelf.asked c.args.shelf.now) (g.S.Shelf.asked c.dds_by_form.new.shelf)) c.as_str-name.ensures
    (c.dds_by_form.ensures.before_bad (ap form_of c.as_str-name.ensures ∙ form))

pub returns-in-Dods-clause-before_bad : goal.returns-in-Dods-clause-before_bad
returns-in-Dods-clause-before_bad g c = λ form.
    subst (λ n. IsWithinBadLine (g.S.Shelf.files c.args.shelf.now) n (g.S.Shelf.asked c.args.shelf.now) (g.S.Shelf.asked c.data_answer.new.shelf)) c.as_str-name.ensures
    (c.data_answer.ensures.before_bad (ap form_of c.as_str-name.ensures ∙ form))
