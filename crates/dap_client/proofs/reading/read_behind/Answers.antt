use Rattle.std.proofs.Common.{◌++◌, [], refl, sym, arith, length-append}
use Rattle.std.proofs.KnownBytes.{Consumes-nil}
use Rattle.dap_http.specs.Following.{body_coding}
use Rattle.dap_client.specs.Replies.{form_of}
use Rattle.dap_client.proofs.HeldReplies.{behind-as}
use Rattle.dap_client.proofs.InTime.{stops-as, stops-begun, time-as}
use Rattle.dap_client.proofs.reading.read_behind.Goals as goal

pub read_parts-requires-clause-holds : goal.read_parts-requires-clause-holds
read_parts-requires-clause-holds g c = (form_of c.args.kind, c.args.limit, c.new-2.ensures)

pub read_parts-requires-clause-follows : goal.read_parts-requires-clause-follows
read_parts-requires-clause-follows g c = (c.args.first.now, c.in-Ok.ensures.follows)

pub returns-in_default-clause-says : goal.returns-in_default-clause-says
returns-in_default-clause-says g c = ([], Consumes-nil _, tt, stops-begun (form_of c.args.kind) c.args.coding (c.args.first.now ++ []) (omega (arith, c.requires.few, length-append c.args.first.now [])))

pub returns-clause-says : goal.returns-clause-says
returns-clause-says g c =
    let (t, before, says, stops) = c.read_parts.ensures.says in
    let form = form_of c.args.kind in (
      t,
      before,
      behind-as form c.args.limit (body_coding c.in-Ok.parts) c.args.coding (c.args.first.now ++ t) (g.I.Source.ended c.read_parts.new.source) c.read_parts.result c.in-Ok.ensures.coding
          (says form c.args.limit c.args.first.now c.new-2.ensures c.in-Ok.ensures.follows),
      stops-as _ _ _ _ _ _ refl c.in-Ok.ensures.coding refl
          (stops form c.args.limit c.args.first.now c.new-2.ensures c.in-Ok.ensures.follows (time-as c.args.coding (body_coding c.in-Ok.parts) c.args.first.now [] (sym c.in-Ok.ensures.coding) c.in-Ok.ensures.in_time)),
    )
