use Rattle.std.proofs.Common.{◌≤◌, drop, length, length-drop, ap, arith, sym, ◌∙◌, rules}
use Rattle.dap_types.proofs.Escapes.{rest_is}
use Rattle.netcdf_writer.specs.inner.Undoing.{first_byte}
use Rattle.netcdf_writer.proofs.Undoing.{undo_more, undo_stops, undo_ends}
use Rattle.netcdf_writer.proofs.names.undo.Goals as goal

pub returns-in_default : goal.returns-in_default
returns-in_default c =
    let rest = rest_is c.args.name.now c.loop-at.at in
    undo_stops c.args.name.now c.loop-at.room.items c.loop-at.at c.loop-at.invariant.so (omega (arith, length-drop c.loop-at.at c.args.name.now, c.loop-at-test.true))
    (ap first_byte (sym rest) ∙ search (rules, c.in_default.ensures.first, c.in_default.not-Some, c.in_default.is, c.first_byte.ensures.first))

pub loop-at-preserved : goal.loop-at-preserved
loop-at-preserved c =
    let rest = rest_is c.args.name.now c.loop-at.at in
    let within : c.in-Some.count ≤ length (drop c.loop-at.at c.args.name.now) = rw rest at c.in-Some.ensures.within in
    record {
      so = undo_more c.args.name.now c.loop-at.room.items c.push.new.self.items c.loop-at.at c.in-Some.byte c.in-Some.count c.loop-at.invariant.so (ap first_byte (sym rest) ∙ sym c.in-Some.ensures.first) c.in_ok-push.ensures.items;
      within = omega (arith, within, length-drop c.loop-at.at c.args.name.now, c.loop-at-test.true);
    }

pub returns : goal.returns
returns c = undo_ends c.args.name.now c.loop-at.room.items c.loop-at.at c.loop-at.invariant.so (omega (arith, c.loop-at-test.false))
