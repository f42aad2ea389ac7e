use Rattle.std.proofs.Common.{refl, sym, subst}
use Rattle.das_text.specs.View.{attributes_view}
use Rattle.dap_types.specs.View.{dataset_view}
use Rattle.dap_client.specs.Verdict.{Form, Judges, bad, good_das, good_dds, server_error}
use Rattle.dap_client.proofs.part.break_text.Goals as goal

pub returns-in-Dds-clause-first : goal.returns-in-Dds-clause-first
returns-in-Dds-clause-first c form bytes e =
    let (same, judged) = rw c.in-Dds.is at e in
    (good_dds (dataset_view c.in-Dds.field-0), subst (λ (f : Form). Judges f bytes (good_dds (dataset_view c.in-Dds.field-0))) (sym same) judged, refl)

pub returns-in-Das-clause-first : goal.returns-in-Das-clause-first
returns-in-Das-clause-first c form bytes e =
    let (same, judged) = rw c.in-Das.is at e in
    (good_das (attributes_view c.in-Das.field-0), subst (λ (f : Form). Judges f bytes (good_das (attributes_view c.in-Das.field-0))) (sym same) judged, refl)

pub returns-in-ServerError-clause-first : goal.returns-in-ServerError-clause-first
returns-in-ServerError-clause-first c form bytes e = (server_error c.in-ServerError._object, rw c.in-ServerError.is at e, refl)

pub returns-in-Bad-clause-first : goal.returns-in-Bad-clause-first
returns-in-Bad-clause-first c form bytes e = (bad c.in-Bad.field.kind c.in-Bad.field.place, rw c.in-Bad.is at e, c.first_wrong.ensures)
