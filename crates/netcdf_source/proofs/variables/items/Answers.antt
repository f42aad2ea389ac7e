use Rattle.std.proofs.Common.{◌≡◌, [], rules, Ok, map, subst, sym, ◌∙◌}
use Rattle.std.proofs.lemmas.Result.{err_from_is_err_and}
use Rattle.std.proofs.lemmas.List.{map_push}
use Rattle.netcdf_source.specs.Parts.{shares}
use Rattle.netcdf_source.specs.inner.Reading.{Fails, next_variable, times}
use Rattle.netcdf_source.proofs.Lists.{shares-push}
use Rattle.dap_types.proofs.NameSets.{behind}
use Rattle.netcdf_source.proofs.NewNames.{same_variable}
use Rattle.netcdf_source.proofs.Times.{goes_on, ends, is_done}
use Rattle.netcdf_source.proofs.variables.items.Goals as goal

pub loop-init : goal.loop-init
unfolding shares
loop-init c = rw (c.in_ok-variables.ensures, c.new-names.ensures) (search rules)

pub returns-in_err-variable : goal.returns-in_err-variable
returns-in_err-variable c =
    let p = err_from_is_err_and c.from_residual-in_err-variable.result c.from_residual-in_err-variable.ensures.1 in
    let inv = c.loop.invariant in
    let same = same_variable c.args.version c.loop.names (map (λ b. b.name) c.loop.variables) inv.1 c.args.dimensions.now (shares c.args.dimensions.now c.loop.variables) c.loop.rest.now in
    let read : Fails c.in_err-variable.field-0.0 (next_variable c.args.version c.args.dimensions.now c.loop.variables c.loop.rest.now) = subst (Fails c.in_err-variable.field-0.0) same (rw (← inv.2) c.in_err-variable.ensures.reading) in
    rw (p.1, p.2) (ends (next_variable c.args.version c.args.dimensions.now) c.in_err-variable.field-0.0 c.loop.variables c.args.count c.loop.counter c.loop.rest.now (times (next_variable c.args.version c.args.dimensions.now) c.args.count [] c.args.bytes.now) c.loop-test.true read inv.0)

pub loop-preserved : goal.loop-preserved
loop-preserved c =
    let inv = c.loop.invariant in
    let v = c.in_ok-variable.variable in
    let same = same_variable c.args.version c.loop.names (map (λ b. b.name) c.loop.variables) inv.1 c.args.dimensions.now (shares c.args.dimensions.now c.loop.variables) c.loop.rest.now in
    let read : next_variable c.args.version c.args.dimensions.now c.loop.variables c.loop.rest.now ≡ Ok (v, c.in_ok-variable.after.now) = sym same ∙ rw (← inv.2) c.in_ok-variable.ensures.reading in
    rw c.in_ok-push.ensures.ok (
      goes_on (next_variable c.args.version c.args.dimensions.now) c.loop.variables c.args.count c.loop.counter c.loop.rest.now v c.in_ok-variable.after.now (times (next_variable c.args.version c.args.dimensions.now) c.args.count [] c.args.bytes.now) c.loop-test.true read inv.0,
      rw (map_push (λ b. b.name) c.loop.variables v) (behind c.loop.names c.variable.new.names (map (λ b. b.name) c.loop.variables) v.name c.in_ok-variable.ensures.names inv.1),
      rw (shares-push c.args.dimensions.now c.loop.variables v, ← inv.2) c.in_ok-variable.ensures.sum.0,
      c.in_ok-variable.ensures.sum.1,
    )

pub returns : goal.returns
returns c = is_done (next_variable c.args.version c.args.dimensions.now) c.loop.variables c.args.count c.loop.counter c.loop.rest.now (times (next_variable c.args.version c.args.dimensions.now) c.args.count [] c.args.bytes.now) c.loop-test.false c.loop.invariant.0
