use Rattle.dap_types.specs.View.{dataset_view}
use Rattle.dap_client.proofs.DdsBodies.{just_ended}
use Rattle.dap_client.proofs.dds_body.end_text.Goals as goal

pub returns : goal.returns
returns c = record { body = λ bytes is ends. c.read_white.ensures.body bytes is (just_ended bytes (dataset_view c.in-Some.dataset) (c.in-Some.ensures.dataset bytes ends.0)) }
