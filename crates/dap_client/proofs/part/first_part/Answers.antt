use Rattle.std.proofs.Common.{[], sym, subst}
use Rattle.dap_http.specs.declared.kind.Kind.{Kind}
use Rattle.dap_client.specs.After.{IsPart}
use Rattle.dap_client.specs.Replies.{form_of}
use Rattle.dap_client.proofs.part.first_part.Goals as goal

pub returns-in-Dds : goal.returns-in-Dds
returns-in-Dds c = subst (λ (k : Kind). IsPart (form_of k) c.first_dds.result [] []) (sym c.in-Dds.is) c.first_dds.ensures

pub returns-in-Das : goal.returns-in-Das
returns-in-Das c = subst (λ (k : Kind). IsPart (form_of k) c.first_das.result [] []) (sym c.in-Das.is) c.first_das.ensures

pub returns-in-Dods : goal.returns-in-Dods
returns-in-Dods c = subst (λ (k : Kind). IsPart (form_of k) c.first_data.result [] []) (sym c.in-Dods.is) c.first_data.ensures

pub returns-in-Ver : goal.returns-in-Ver
returns-in-Ver c = subst (λ (k : Kind). IsPart (form_of k) c.first_data-in-Ver.result [] []) (sym c.in-Ver.is) c.first_data-in-Ver.ensures
