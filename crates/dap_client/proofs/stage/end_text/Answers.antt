use Rattle.dap_types.specs.View.{dataset_view}
use Rattle.dap_client.proofs.Texts.{text_ended}
use Rattle.dap_client.proofs.stage.end_text.Goals as goal

pub returns-clause-stage : goal.returns-clause-stage
returns-clause-stage g c bytes long none o =
    c.read_line.ensures.stage bytes long none (text_ended (dataset_view c.in-Some.dataset) c.new.result bytes (c.in-Some.ensures.dataset bytes o.0) c.new.ensures (c.in-Some.ensures.well_formed bytes o.0))

pub read_line-requires-clause-stands : goal.read_line-requires-clause-stands
read_line-requires-clause-stands g c =
    let (bytes, long, o) = c.requires.stands in
    (bytes, long, text_ended (dataset_view c.in-Some.dataset) c.new.result bytes (c.in-Some.ensures.dataset bytes o.0) c.new.ensures (c.in-Some.ensures.well_formed bytes o.0))
