use Rattle.std.proofs.Common.{◌<◌, ◌^◌, ◌++◌, [], arith, sym, ap, ◌∙◌, append-nil, flat_map, take}
use Rattle.netcdf_writer.specs.File.{version_if}
use Rattle.netcdf_writer.specs.Printer.{variable_bytes}
use Rattle.netcdf_writer.specs.Variables.{room_by_itself, room_in_record}
use Rattle.netcdf_writer.specs.inner.Tables.{variable_view, variable_views}
use Rattle.netcdf_writer.proofs.Headers.{begins, fixed_summed, no_trees, one_more_put, placed_is, records_summed, room_within}
use Rattle.netcdf_writer.proofs.Listing.{views_more}
use Rattle.netcdf_writer.proofs.header.put_variables.Goals as goal

pub loop-variable-init : goal.loop-variable-init
loop-variable-init c = record {
  fixed = omega arith;
  records = let e = c.fixed_bytes.ensures in omega (arith, e);
  out = sym (append-nil c.args.out.now.items) ∙ ap (λ l. c.args.out.now.items ++ flat_map (variable_bytes (version_if c.args.is_five)) l) (sym (no_trees c.args.front (variable_views c.args.variables.now) []));
}

pub overflow_add-fixed : goal.overflow_add-fixed
overflow_add-fixed c =
    let sum = fixed_summed c.args.variables.now c.loop-variable.variable-index c.variable-item.result c.loop-variable-test.true c.variable-item.is in
    let records = records_summed c.args.variables.now c.loop-variable.variable-index c.variable-item.result c.loop-variable-test.true c.variable-item.is in
    let few : room_by_itself (variable_view c.variable-item.result) < 2 ^ 32 = omega (arith, sum.1, c.requires.fixed) in
    let same = c.room_by_itself-fixed.ensures few in
    let little : room_in_record (variable_view c.variable-item.result) < 2 ^ 32 = omega (arith, records.1, c.requires.records) in
    omega (arith, sum.1, c.requires.fixed, c.requires.front, same, c.loop-variable.invariant.fixed)

pub overflow_add-records-in-loop-variable : goal.overflow_add-records-in-loop-variable
overflow_add-records-in-loop-variable c =
    let sum = fixed_summed c.args.variables.now c.loop-variable.variable-index c.variable-item.result c.loop-variable-test.true c.variable-item.is in
    let records = records_summed c.args.variables.now c.loop-variable.variable-index c.variable-item.result c.loop-variable-test.true c.variable-item.is in
    let few : room_by_itself (variable_view c.variable-item.result) < 2 ^ 32 = omega (arith, sum.1, c.requires.fixed) in
    let same = c.room_by_itself-fixed.ensures few in
    let little : room_in_record (variable_view c.variable-item.result) < 2 ^ 32 = omega (arith, records.1, c.requires.records) in
    let equal = c.room_in_record-records.ensures.few little in
    omega (arith, records.1, c.requires.fixed, c.requires.records, c.requires.front, equal, c.loop-variable.invariant.records)

pub loop-variable-preserved : goal.loop-variable-preserved
loop-variable-preserved c =
    let sum = fixed_summed c.args.variables.now c.loop-variable.variable-index c.variable-item.result c.loop-variable-test.true c.variable-item.is in
    let records = records_summed c.args.variables.now c.loop-variable.variable-index c.variable-item.result c.loop-variable-test.true c.variable-item.is in
    let few : room_by_itself (variable_view c.variable-item.result) < 2 ^ 32 = omega (arith, sum.1, c.requires.fixed) in
    let same = c.room_by_itself-fixed.ensures few in
    let little : room_in_record (variable_view c.variable-item.result) < 2 ^ 32 = omega (arith, records.1, c.requires.records) in
    let equal = c.room_in_record-records.ensures.few little in
    let all = variable_views c.args.variables.now in
    let earlier = variable_views (take c.loop-variable.variable-index c.args.variables.now) in
    let v = variable_view c.variable-item.result in
    record {
      fixed = omega (arith, sum.0, same, c.loop-variable.invariant.fixed);
      records = omega (arith, records.0, equal, c.loop-variable.invariant.records);
      out = one_more_put c.args.is_five c.args.front all earlier _ v c.args.out.now.items c.loop-variable.out.items c.put_variable.new.out.items _ c.loop-variable.invariant.out c.in_ok-put_variable.ensures
          (placed_is c.args.is_five c.args.numbers.now c.args.front all earlier v c.placed-place.result c.requires.dims (c.placed-place.ensures.size (room_within v few little))
          (begins c.args.front all earlier v c.loop-variable.fixed c.loop-variable.records c.placed-place.result.begin c.loop-variable.invariant.fixed c.loop-variable.invariant.records c.placed-place.ensures.begin))
          (views_more c.args.variables.now c.loop-variable.variable-index c.variable-item.result c.loop-variable-test.true c.variable-item.is);
    }
