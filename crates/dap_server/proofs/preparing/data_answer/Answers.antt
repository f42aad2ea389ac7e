use Rattle.std.proofs.Common.{◌∙◌, ◌+◌, ◌≤◌, length, sym}
use Rattle.dap_server.proofs.AskedBefore.{join_refuses}
use Rattle.dap_server.proofs.JoinsGiven.{for_err}
use Rattle.dap_server.proofs.JoinsMade.{body_no_files, join_files, join_made, join_stays, list_given, with_form}
use Rattle.dap_server.proofs.ListForms.{list_form, no_list_form, not_formless}
use Rattle.dap_server.proofs.Making as making
use Rattle.dap_server.specs.Costs.{IsAskedBefore, most_of_joined}
use Rattle.dap_server.specs.Files.{form_of}
use Rattle.dap_server.proofs.preparing.data_answer.Goals as goal

pub joined_dods-requires : goal.joined_dods-requires
joined_dods-requires g c = record { form = list_form (form_of c.args.name.now) (sym c.is_list.ensures ∙ c.if-is_list.true) }

pub dods_answer-requires-clause-no_list : goal.dods_answer-requires-clause-no_list
dods_answer-requires-clause-no_list g c lifetimes outlive = no_list_form (form_of c.args.name.now) (sym c.is_list.ensures ∙ c.if-is_list.false)

pub returns-then-is_list-clause-made : goal.returns-then-is_list-clause-made
returns-then-is_list-clause-made g c =
    join_made (g.S.Shelf.files c.args.shelf.now) _ _ c.args.name.now c.args.query.now _ c.joined_dods.result c.join_prepared.result c.join_prepared.ensures c.joined_dods.ensures.body
    (for_err (λ why (files, may, answers, asked). (files, may, answers)) c.joined_dods.result c.joined_dods.ensures.refused)
    (with_form (form_of c.args.name.now) _ c.joined_dods.result (list_form (form_of c.args.name.now) (sym c.is_list.ensures ∙ c.if-is_list.true)) c.joined_dods.ensures.why)

pub returns-then-is_list-clause-kept : goal.returns-then-is_list-clause-kept
returns-then-is_list-clause-kept g c = join_stays c.joined_dods.result c.join_prepared.result _ _ c.join_prepared.ensures c.joined_dods.ensures.stays

pub returns-then-is_list-clause-untouched : goal.returns-then-is_list-clause-untouched
returns-then-is_list-clause-untouched g c = λ none. not_formless (form_of c.args.name.now) (list_form (form_of c.args.name.now) (sym c.is_list.ensures ∙ c.if-is_list.true)) none

pub returns-clause-made : goal.returns-clause-made
returns-clause-made g c =
    making.body_made (g.S.Shelf.files c.args.shelf.now) _ _ c.args.name.now c.args.query.now _ c.dods_answer.result c.body_prepared.result c.body_prepared.ensures
    c.dods_answer.ensures.body c.dods_answer.ensures.sends c.dods_answer.ensures.of_saved c.dods_answer.ensures.accepted c.dods_answer.ensures.of_file c.dods_answer.ensures.tells c.dods_answer.ensures.alone c.dods_answer.ensures.fits
    c.dods_answer.ensures.cost c.dods_answer.ensures.cost_at c.dods_answer.ensures.refused c.dods_answer.ensures.why

pub returns-clause-kept : goal.returns-clause-kept
returns-clause-kept g c = making.body_stays c.dods_answer.result c.body_prepared.result _ _ c.body_prepared.ensures c.dods_answer.ensures.stays

pub returns-then-is_list-clause-asked_lines : goal.returns-then-is_list-clause-asked_lines
returns-then-is_list-clause-asked_lines g c =
    join_files (λ files. g.S.Shelf.asked c.joined_dods.new.shelf ≤ g.S.Shelf.asked c.args.shelf.now + most_of_joined (length files)) c.joined_dods.result c.join_prepared.result c.join_prepared.ensures c.joined_dods.ensures.asked_lines

pub returns-clause-asked_lines : goal.returns-clause-asked_lines
returns-clause-asked_lines g c = body_no_files _ c.dods_answer.result c.body_prepared.result c.body_prepared.ensures

pub returns-then-is_list-clause-asked_before : goal.returns-then-is_list-clause-asked_before
returns-then-is_list-clause-asked_before g c = λ form.
    join_refuses (λ cause. IsAskedBefore (g.S.Shelf.files c.args.shelf.now) c.args.name.now cause (g.S.Shelf.asked c.args.shelf.now) (g.S.Shelf.asked c.joined_dods.new.shelf)) c.joined_dods.result c.join_prepared.result c.join_prepared.ensures c.joined_dods.ensures.asked_before

pub returns-clause-asked_before : goal.returns-clause-asked_before
returns-clause-asked_before g c = λ form. absurd (no_list_form (form_of c.args.name.now) (sym c.is_list.ensures ∙ c.if-is_list.false) form)

pub returns-then-is_list-clause-of_list : goal.returns-then-is_list-clause-of_list
returns-then-is_list-clause-of_list g c = λ form. list_given _ c.joined_dods.result c.join_prepared.result c.join_prepared.ensures c.joined_dods.ensures.of_list c.joined_dods.ensures.refused

pub returns-clause-of_list : goal.returns-clause-of_list
returns-clause-of_list g c = λ form. absurd (no_list_form (form_of c.args.name.now) (sym c.is_list.ensures ∙ c.if-is_list.false) form)

pub returns-then-is_list-clause-before_bad : goal.returns-then-is_list-clause-before_bad
returns-then-is_list-clause-before_bad g c = λ form. c.joined_dods.ensures.before_bad

pub returns-clause-before_bad : goal.returns-clause-before_bad
returns-clause-before_bad g c = λ form. absurd (no_list_form (form_of c.args.name.now) (sym c.is_list.ensures ∙ c.if-is_list.false) form)
