use Rattle.std.proofs.Common.{sym, ◌∙◌}
use Rattle.dap_server.proofs.JoinsGiven.{for_err, for_ok}
use Rattle.dap_server.proofs.JoinsMade.{with_form}
use Rattle.dap_server.proofs.ListForms.{list_form, no_list_form, not_formless}
use Rattle.dap_server.specs.Files.{form_of}
use Rattle.dap_server.proofs.by_form.das_by_form.Goals as goal

pub joined_das-requires : goal.joined_das-requires
joined_das-requires g c = record { form = list_form (form_of c.args.name.now) (sym c.is_list.ensures ∙ c.if-is_list.true) }

pub das_answer-requires : goal.das_answer-requires
das_answer-requires g c = record { no_list = no_list_form (form_of c.args.name.now) (sym c.is_list.ensures ∙ c.if-is_list.false) }

pub returns-then-is_list-clause-why : goal.returns-then-is_list-clause-why
returns-then-is_list-clause-why g c = with_form (form_of c.args.name.now) _ c.joined_das.result (list_form (form_of c.args.name.now) (sym c.is_list.ensures ∙ c.if-is_list.true)) c.joined_das.ensures.why

pub returns-then-is_list-clause-untouched : goal.returns-then-is_list-clause-untouched
returns-then-is_list-clause-untouched g c = λ none. not_formless (form_of c.args.name.now) (list_form (form_of c.args.name.now) (sym c.is_list.ensures ∙ c.if-is_list.true)) none

pub returns-then-is_list-clause-asked_before : goal.returns-then-is_list-clause-asked_before
returns-then-is_list-clause-asked_before g c = λ form. c.joined_das.ensures.asked_before

pub returns-clause-asked_before : goal.returns-clause-asked_before
returns-clause-asked_before g c = λ form. absurd (no_list_form (form_of c.args.name.now) (sym c.is_list.ensures ∙ c.if-is_list.false) form)

pub returns-then-is_list-clause-text : goal.returns-then-is_list-clause-text
returns-then-is_list-clause-text g c = for_ok (λ text given. λ query. (let (files, may, answers, asked) = given query in (files, may, answers))) c.joined_das.result c.joined_das.ensures.text

pub returns-then-is_list-clause-refused : goal.returns-then-is_list-clause-refused
returns-then-is_list-clause-refused g c = for_err (λ why given. λ query. (let (files, may, answers, asked) = given query in (files, may, answers))) c.joined_das.result c.joined_das.ensures.refused

pub returns-then-is_list-clause-list_text : goal.returns-then-is_list-clause-list_text
returns-then-is_list-clause-list_text g c = λ form. c.joined_das.ensures.text

pub returns-then-is_list-clause-list_refused : goal.returns-then-is_list-clause-list_refused
returns-then-is_list-clause-list_refused g c = λ form. c.joined_das.ensures.refused

pub returns-clause-list_text : goal.returns-clause-list_text
returns-clause-list_text g c = λ form. absurd (no_list_form (form_of c.args.name.now) (sym c.is_list.ensures ∙ c.if-is_list.false) form)

pub returns-clause-list_refused : goal.returns-clause-list_refused
returns-clause-list_refused g c = λ form. absurd (no_list_form (form_of c.args.name.now) (sym c.is_list.ensures ∙ c.if-is_list.false) form)

pub returns-then-is_list-clause-before_bad : goal.returns-then-is_list-clause-before_bad
returns-then-is_list-clause-before_bad g c = λ form. c.joined_das.ensures.before_bad

pub returns-clause-before_bad : goal.returns-clause-before_bad
returns-clause-before_bad g c = λ form. absurd (no_list_form (form_of c.args.name.now) (sym c.is_list.ensures ∙ c.if-is_list.false) form)
