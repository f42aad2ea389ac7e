use Rattle.std.proofs.Common.{◌++◌, ℕ, List, [], subst, arith}
use Rattle.std.proofs.KnownBytes.{Appends-nil, Consumes-nil}
use Rattle.dap_client.proofs.Lasts.{at-end}
use Rattle.dap_http.proofs.HeadReading.{left-behind}
use Rattle.dap_http.specs.Reading.{rest_of}
use Rattle.dap_client.specs.Answered.{Tells}
use Rattle.dap_client.specs.Replies.{IsReplyVerdict, StopsInTime, form_of}
use Rattle.dap_client.proofs.InTime.{stops-short}
use Rattle.dap_client.proofs.Lifted.{memory-told}
use Rattle.dap_client.proofs.Only.{only_told}
use Rattle.dap_http.specs.Delivered.{HasCoding}
use Rattle.dap_client.proofs.reply.read_reply.Goals as goal

pub returns-in_default-clause-tells : goal.returns-in_default-clause-tells
returns-in_default-clause-tells g c =
    ([], [], [], Consumes-nil _, Appends-nil _, memory-told (form_of c.args.kind) [] [] (g.I.Source.ended c.args.source.now) (omega arith))

pub returns-clause-tells : goal.returns-clause-tells
returns-clause-tells g c =
    let (t, x, before, put, told, stops) = c.read_one.ensures.tells in (
      t,
      x,
      rest_of c.read_one.new.heads,
      before,
      put,
      subst (λ (l : List ℕ). Tells (form_of c.args.kind) (l ++ t) (g.I.Source.ended c.read_one.new.source) (rest_of c.read_one.new.heads) x c.read_one.result) c.in-Ok.ensures told,
    )

pub returns-clause-only : goal.returns-clause-only
returns-clause-only g c reply behind coding n v left has given =
    let (t, x, before, put, told, stops) = c.read_one.ensures.tells in
    let form = form_of c.args.kind in
    let (more, now, whole) = left-behind _ _ reply t left before in
    only_told form t more coding behind (rest_of c.read_one.new.heads) x (g.I.Source.ended c.read_one.new.source) n v c.read_one.result
    (λ e. at-end _ more now (g.met.I.Source.ended_empty c.read_one.new.source e))
    (subst (λ (l : List ℕ). HasCoding l coding behind) whole has) (subst (λ (l : List ℕ). IsReplyVerdict form l n v) whole given)
    (subst (λ (l : List ℕ). Tells form (l ++ t) (g.I.Source.ended c.read_one.new.source) (rest_of c.read_one.new.heads) x c.read_one.result) c.in-Ok.ensures told)

pub returns-in_default-clause-most : goal.returns-in_default-clause-most
returns-in_default-clause-most g c = ([], Consumes-nil _, stops-short (form_of c.args.kind) [] (omega arith))

pub returns-clause-most : goal.returns-clause-most
returns-clause-most g c =
    let (t, x, before, put, told, stops) = c.read_one.ensures.tells in
    (t, before, subst (λ (l : List ℕ). StopsInTime (form_of c.args.kind) (l ++ t)) c.in-Ok.ensures stops)
