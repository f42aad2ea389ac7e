use Rattle.dap_http.proofs.HeadReading.{too-long-still}
use Rattle.dap_http.proofs.laws.no_request.Goals as goal

pub returns-clause-bad : goal.returns-clause-bad
returns-clause-bad c = λ bytes more bad head rest first. bad.never more head rest first.0

pub returns-clause-too_long : goal.returns-clause-too_long
returns-clause-too_long c = λ bytes more long head rest first. too-long-still bytes more rest head long first

pub returns-clause-gone : goal.returns-clause-gone
returns-clause-gone c = λ bytes gone head rest first. gone.none head rest first.0
