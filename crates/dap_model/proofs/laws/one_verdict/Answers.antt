use Rattle.dap_model.proofs.OneVerdict.{one_bad, bad_not_open, ended_not_bad, ended_not_open}
use Rattle.dap_model.proofs.laws.one_verdict.Goals as goal
use Rattle.dap_model.specs.Laws.{OneVerdict}

law : OneVerdict
law d bs = (λ f g p q. one_bad d bs f g p q, λ f p. bad_not_open d bs f p, λ ts n f p. ended_not_bad d ts bs n f p, λ ts n. ended_not_open d ts bs n)

pub returns : goal.returns
returns c = record { law = law }
