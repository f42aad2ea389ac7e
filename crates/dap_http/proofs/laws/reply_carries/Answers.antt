use Rattle.dap_http.proofs.Carrying.{carries-data, carries-text}
use Rattle.dap_http.proofs.laws.reply_carries.Goals as goal

pub returns-clause-data : goal.returns-clause-data
returns-clause-data c = carries-data

pub returns-clause-text : goal.returns-clause-text
returns-clause-text c = carries-text
