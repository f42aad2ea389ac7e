use Rattle.std.proofs.Common.{◌++◌, ℕ, List, sym, ap, subst, ◌∙◌, append_assoc}
use Rattle.dap_client.proofs.Lasts.{at-end}
use Rattle.dap_http.proofs.HeadReading.{left-behind}
use Rattle.dap_http.specs.Delivered.{HasCoding}
use Rattle.dap_http.specs.Reading.{rest_of}
use Rattle.dap_client.proofs.Only.{only_told}
use Rattle.dap_client.specs.Replies.{IsReplyVerdict, form_of}
use Rattle.dap_client.proofs.replies.Replies.next.Goals as goal

pub returns-clause-only : goal.returns-clause-only
returns-clause-only g c none left behind coding n v is has given =
    let (t, x, before, put, told, stops) = c.read_one-outcome.ensures.tells in
    let form = form_of c.args.kind in
    let (more, now, whole) = left-behind _ _ left t is before in
    let all = ap (λ l. rest_of c.args.self.now.heads ++ l) whole ∙ sym (append_assoc (rest_of c.args.self.now.heads) t more) in
    only_told form (rest_of c.args.self.now.heads ++ t) more coding behind (rest_of c.read_one-outcome.new.heads) x (g.I.Source.ended c.read_one-outcome.new.source) n v c.read_one-outcome.result
    (λ e. at-end _ more now (g.met.I.Source.ended_empty c.read_one-outcome.new.source e))
    (subst (λ (l : List ℕ). HasCoding l coding behind) all has) (subst (λ (l : List ℕ). IsReplyVerdict form l n v) all given) told
