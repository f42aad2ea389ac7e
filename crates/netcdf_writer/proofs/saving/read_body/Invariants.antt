use Rattle.std.proofs.Common.{◌≡◌, ◌-◌, ◌≤◌, length}
use Rattle.std.specs.Io.KnownBytes.{Consumes}
use Rattle.netcdf_writer.proofs.saving.read_body.Given as goal

abbrev pub invariant-loop-body : goal.invariant-loop-body
invariant-loop-body g l =
    let source = g.I.Source in
    record {
      taken : Consumes (source.left l.fn.source) (source.left l.source) l.body.items;
      room : length l.room.items ≡ 65536;
      within : length l.body.items ≤ 16777217;
      count : source.take_faults l.source ≡ source.take_faults l.fn.source;
      whole : source.whole l.source ≡ source.whole l.fn.source;
      beside : source.beside_reading l.source ≡ source.beside_reading l.fn.source;
    }

abbrev pub decreases-loop-body : goal.decreases-loop-body
decreases-loop-body g l = 16777217 - length l.body.items
