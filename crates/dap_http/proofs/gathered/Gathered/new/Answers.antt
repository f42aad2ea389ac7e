use Rattle.std.proofs.Common.{◌≡◌, ap, arith, length, length-append}
use Rattle.dap_http.specs.inner.UnderWay.{head_of}
use Rattle.dap_http.proofs.Gathering.{begun_so, front-first, room-small}
use Rattle.dap_http.proofs.gathered.Gathered.new.Goals as goal

pub invariant_of-result : goal.invariant_of-result
invariant_of-result c =
    let m = c.args.chunked in
    let frame = c.in_ok-frame.frame.items in
    let is = c.in_ok-frame.ensures.head in
    let from = c.len-from.result in
    record {
      under_way = begun_so m c.new.result.items c.args.front.now frame from c.new.ensures is (omega (arith, c.len-from.ensures));
      gathers = room-small m from (length frame) (omega (arith, c.len-from.ensures));
      headed = omega (arith, c.len-from.ensures);
      behind = omega (arith, c.len-from.ensures, ap length is, length-append c.args.front.now (head_of m));
      within = omega arith;
      room = omega (arith, c.in_ok-frame.ensures.room, c.len-from.ensures);
    }

pub returns-clause-front : goal.returns-clause-front
returns-clause-front c = front-first c.args.chunked c.new.result.items c.args.front.now c.in_ok-frame.frame.items c.len-from.result c.new.ensures c.in_ok-frame.ensures.head (omega (arith, c.len-from.ensures))
