use Rattle.std.proofs.Common.{◌≡◌, ◌≢◌, length, arith}
use Rattle.std.proofs.lemmas.Bool.Decides.{nat_tests}
use Rattle.join_source.proofs.Files.{on_ok-map}
use Rattle.join_source.proofs.Putting.{array-put, scalar-put}
use Rattle.join_source.proofs.pieces.push_whole.Goals as goal

pub returns-then-is_empty : goal.returns-then-is_empty
returns-then-is_empty c =
    let none : length c.args.slabs.now ≡ 0 = grind (arith, nat_tests, c.is_empty.ensures, c.if-is_empty.true) in
    record {
      pushed = on_ok-map c.push-then-is_empty.result (scalar-put c.args.pieces.now c.push.new.self c.push-then-is_empty.new.self c.args.header.now c.args.leaf c.args.base c.args.slabs.now c.in_ok-plan.plan c.in_ok-before_scalar.field-0
          none c.in_ok-plan.ensures.plan c.in_ok-before_scalar.ensures c.in_ok-push.ensures.ok) c.push-then-is_empty.ensures.ok;
    }

pub returns : goal.returns
returns c =
    let some : length c.args.slabs.now ≢ 0 = grind (arith, nat_tests, c.is_empty.ensures, c.if-is_empty.false) in
    record {
      pushed = on_ok-map c.push-4.result (array-put c.args.pieces.now c.push-2.new.self c.push-3.new.self c.push-4.new.self c.args.header.now c.args.leaf c.args.base c.args.slabs.now c.in_ok-plan.plan c.args.count c.in_ok-counts.field-0 c.in_ok-filler.field-0
          some c.in_ok-plan.ensures.plan c.requires.count c.in_ok-counts.ensures c.in_ok-filler.ensures c.in_ok-push-2.ensures.ok c.in_ok-push-3.ensures.ok) c.push-4.ensures.ok;
    }
