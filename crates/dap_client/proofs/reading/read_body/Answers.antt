use Rattle.std.proofs.Common.{◌++◌, ℕ, List, [], true, subst, arith}
use Rattle.std.proofs.KnownBytes.{Consumes-nil}
use Rattle.dap_client.proofs.Lasts.{at-end}
use Rattle.dap_http.proofs.HeadReading.{left-behind}
use Rattle.dap_http.specs.Delivered.{BreaksOff, Delivers, HasCoding}
use Rattle.dap_client.specs.Held.{Says}
use Rattle.dap_client.specs.Replies.{BringsFirst, StopsInTime, form_of}
use Rattle.dap_client.proofs.HeldReplies.{told-broken, told-large, told-whole}
use Rattle.dap_client.proofs.InTime.{stops-short}
use Rattle.dap_client.proofs.reading.read_body.Goals as goal

pub returns-in_default-clause-says : goal.returns-in_default-clause-says
returns-in_default-clause-says g c = ([], Consumes-nil _, tt)

pub returns-clause-says : goal.returns-clause-says
returns-clause-says g c =
    let (t, before, says, stops) = c.read_held.ensures.says in
    (t, before, subst (λ (l : List ℕ). Says (form_of c.args.kind) c.args.limit (l ++ t) (g.I.Source.ended c.read_held.new.source) c.read_held.result) c.in-Ok.ensures says)

pub returns-clause-too_large : goal.returns-clause-too_large
returns-clause-too_large g c reply body left brings long =
    let (t, before, says, stops) = c.read_held.ensures.says in
    let form = form_of c.args.kind in
    let ended = g.I.Source.ended c.read_held.new.source in
    let (more, now, whole) = left-behind _ _ reply t left before in
    told-large form c.args.limit t more ended c.read_held.result body (λ e. at-end _ more now (g.met.I.Source.ended_empty c.read_held.new.source e)) (subst (λ (l : List ℕ). BringsFirst l body) whole brings) long
    (subst (λ (l : List ℕ). Says form c.args.limit (l ++ t) ended c.read_held.result) c.in-Ok.ensures says)

pub returns-clause-whole_body : goal.returns-clause-whole_body
returns-clause-whole_body g c reply body rest v left delivers is short =
    let (t, before, says, stops) = c.read_held.ensures.says in
    let form = form_of c.args.kind in
    let ended = g.I.Source.ended c.read_held.new.source in
    let (more, now, whole) = left-behind _ _ reply t left before in
    told-whole form c.args.limit t more ended c.read_held.result body rest v (λ e. at-end _ more now (g.met.I.Source.ended_empty c.read_held.new.source e))
    (subst (λ (l : List ℕ). Delivers l true body rest) whole delivers) is short
    (subst (λ (l : List ℕ). Says form c.args.limit (l ++ t) ended c.read_held.result) c.in-Ok.ensures says)

pub returns-clause-broken_body : goal.returns-clause-broken_body
returns-clause-broken_body g c reply behind body coding wrong v left has breaks is short =
    let (t, before, says, stops) = c.read_held.ensures.says in
    let form = form_of c.args.kind in
    let ended = g.I.Source.ended c.read_held.new.source in
    let (more, now, whole) = left-behind _ _ reply t left before in
    told-broken form c.args.limit t more ended c.read_held.result behind body coding wrong v (λ e. at-end _ more now (g.met.I.Source.ended_empty c.read_held.new.source e))
    (subst (λ (l : List ℕ). HasCoding l coding behind) whole has) (subst (λ (l : List ℕ). BreaksOff l true body wrong) whole breaks) is short
    (subst (λ (l : List ℕ). Says form c.args.limit (l ++ t) ended c.read_held.result) c.in-Ok.ensures says)

pub returns-in_default-clause-most : goal.returns-in_default-clause-most
returns-in_default-clause-most g c = ([], Consumes-nil _, stops-short (form_of c.args.kind) [] (omega arith))

pub returns-clause-most : goal.returns-clause-most
returns-clause-most g c =
    let (t, before, says, stops) = c.read_held.ensures.says in
    (t, before, subst (λ (l : List ℕ). StopsInTime (form_of c.args.kind) (l ++ t)) c.in-Ok.ensures stops)
