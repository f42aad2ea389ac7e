use Rattle.std.proofs.Common.{◌≤◌, ◌++◌, [], length, refl, sym, ap, ◌∙◌, arith, length-append}
use Rattle.std.proofs.KnownBytes.{Appends-nil, Consumes-nil}
use Rattle.dap_http.specs.Following.{body_coding, waiting}
use Rattle.dap_http.specs.Reading.{rest_of}
use Rattle.dap_client.specs.After.{form_in}
use Rattle.dap_client.specs.Replies.{form_of}
use Rattle.dap_client.proofs.Behind.{part-room}
use Rattle.dap_client.proofs.InTime.{line-begun, stops-as, stops-begun, time-as}
use Rattle.dap_client.proofs.Lifted.{told-as}
use Rattle.dap_client.proofs.reply.read_body.Goals as goal

pub new-requires : goal.new-requires
new-requires g c = omega (arith, ap length c.rest.ensures, c.args.heads.now.few)

pub returns-in_default-clause-tells : goal.returns-in_default-clause-tells
returns-in_default-clause-tells g c =
    let room : length (rest_of c.args.heads.now ++ []) ≤ 65536 = omega (arith, c.args.heads.now.few, length-append (rest_of c.args.heads.now) []) in
    ([], [], Consumes-nil _, Appends-nil _, (refl, λ is. line-begun c.args.coding (rest_of c.args.heads.now ++ []) room), stops-begun (form_of c.args.kind) c.args.coding (rest_of c.args.heads.now ++ []) room)

pub replace-requires : goal.replace-requires
replace-requires g c = omega (arith, ap length c.rest-2.ensures, part-room c.read_parts-outcome.new.parts)

pub returns-clause-tells : goal.returns-clause-tells
returns-clause-tells g c =
    let (t, x, before, put, told) = c.read_parts-outcome.ensures.tells in
    let (tells, stops) = told c.rest.result.now c.in-Ok.ensures.follows (time-as c.args.coding (body_coding c.in-Ok.parts) c.rest.result.now [] (sym c.in-Ok.ensures.coding) c.in-Ok.ensures.in_time) in (
      t,
      x,
      before,
      put,
      told-as (form_in c.new-2.result) (form_of c.args.kind) (body_coding c.in-Ok.parts) c.args.coding (c.rest.result.now ++ t) (rest_of c.args.heads.now ++ t)
          (waiting c.read_parts-outcome.new.parts) (rest_of c.replace.new.heads) x (g.I.Source.ended c.read_parts-outcome.new.source) c.read_parts-outcome.result
          (ap form_of c.new-2.ensures.kind) c.in-Ok.ensures.coding (ap (λ l. l ++ t) c.rest.ensures) (sym (c.replace.ensures ∙ c.rest-2.ensures))
          tells,
      stops-as _ _ _ _ _ _ (ap form_of c.new-2.ensures.kind) c.in-Ok.ensures.coding (ap (λ l. l ++ t) c.rest.ensures) stops,
    )
