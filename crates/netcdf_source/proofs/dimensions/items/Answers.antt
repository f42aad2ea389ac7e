use Rattle.std.proofs.Common.{◌≡◌, [], Ok, map, subst, sym, ◌∙◌}
use Rattle.std.specs.List.{list_any}
use Rattle.std.proofs.lemmas.Result.{err_from_is_err_and}
use Rattle.std.proofs.lemmas.List.{map_push}
use Rattle.netcdf_source.specs.Grammar.{is_record_dimension}
use Rattle.netcdf_source.specs.inner.Reading.{Fails, next_dimension, times}
use Rattle.netcdf_source.proofs.Lists.{list_any-push}
use Rattle.dap_types.proofs.NameSets.{behind}
use Rattle.netcdf_source.proofs.NewNames.{same_dimension}
use Rattle.netcdf_source.proofs.Times.{goes_on, ends, is_done}
use Rattle.netcdf_source.proofs.dimensions.items.Goals as goal

pub returns-in_err-dimension : goal.returns-in_err-dimension
returns-in_err-dimension c =
    let p = err_from_is_err_and c.from_residual-in_err-dimension.result c.from_residual-in_err-dimension.ensures.1 in
    let inv = c.loop.invariant in
    let same = same_dimension c.args.width c.loop.names (map (λ b. b.name) c.loop.dimensions) inv.1 (list_any is_record_dimension c.loop.dimensions) c.loop.rest.now in
    let read : Fails c.in_err-dimension.field-0.0 (next_dimension c.args.width c.loop.dimensions c.loop.rest.now) = subst (Fails c.in_err-dimension.field-0.0) same (rw (← inv.2) c.in_err-dimension.ensures.reading) in
    rw (p.1, p.2) (ends (next_dimension c.args.width) c.in_err-dimension.field-0.0 c.loop.dimensions c.args.count c.loop.counter c.loop.rest.now (times (next_dimension c.args.width) c.args.count [] c.args.bytes.now) c.loop-test.true read inv.0)

pub loop-preserved : goal.loop-preserved
loop-preserved c =
    let inv = c.loop.invariant in
    let d = c.in_ok-dimension.dimension in
    let same = same_dimension c.args.width c.loop.names (map (λ b. b.name) c.loop.dimensions) inv.1 (list_any is_record_dimension c.loop.dimensions) c.loop.rest.now in
    let read : next_dimension c.args.width c.loop.dimensions c.loop.rest.now ≡ Ok (d, c.in_ok-dimension.after.now) = sym same ∙ rw (← inv.2) c.in_ok-dimension.ensures.reading in
    rw c.in_ok-push.ensures.ok (
      goes_on (next_dimension c.args.width) c.loop.dimensions c.args.count c.loop.counter c.loop.rest.now d c.in_ok-dimension.after.now (times (next_dimension c.args.width) c.args.count [] c.args.bytes.now) c.loop-test.true read inv.0,
      rw (map_push (λ b. b.name) c.loop.dimensions d) (behind c.loop.names c.dimension.new.names (map (λ b. b.name) c.loop.dimensions) d.name c.in_ok-dimension.ensures.names inv.1),
      rw (list_any-push is_record_dimension c.loop.dimensions d, ← inv.2) c.with_records-has_records.ensures,
    )

pub returns : goal.returns
returns c = is_done (next_dimension c.args.width) c.loop.dimensions c.args.count c.loop.counter c.loop.rest.now (times (next_dimension c.args.width) c.args.count [] c.args.bytes.now) c.loop-test.false c.loop.invariant.0
