use Rattle.dap_model.proofs.Limits.{sent_is_read}
use Rattle.dap_model.proofs.reading_laws.sent_is_read.Goals as goal
use Rattle.dap_model.specs.Reading.{SentIsRead}

law : SentIsRead
law = sent_is_read

pub returns : goal.returns
returns c = record { law = law }
