use Rattle.dap_server.proofs.Targets as targets
use Rattle.dap_server.proofs.laws.worked_targets.Goals as goal

pub returns-clause-call : goal.returns-clause-call
returns-clause-call c = targets.call

pub returns-clause-escaped : goal.returns-clause-escaped
returns-clause-escaped c = targets.escaped

pub returns-clause-no_such_file : goal.returns-clause-no_such_file
returns-clause-no_such_file c = targets.no_such_file

pub returns-clause-no_kind : goal.returns-clause-no_kind
returns-clause-no_kind c = targets.no_kind

pub returns-clause-any_version : goal.returns-clause-any_version
returns-clause-any_version c = targets.any_version

pub returns-clause-forms : goal.returns-clause-forms
returns-clause-forms c = targets.forms
