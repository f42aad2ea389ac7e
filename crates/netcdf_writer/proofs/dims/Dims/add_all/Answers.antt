use Rattle.std.proofs.Common.{◌+◌, ◌++◌, ◌∷◌, not, take, drop, sym, ap, ◌∙◌, true≢false, append-nil, append_assoc, subst, take_all}
use Rattle.std.proofs.lemmas.Grind.{flat_map-append}
use Rattle.netcdf_writer.specs.Causes.{dims_clash}
use Rattle.netcdf_writer.specs.Variables.{all_dims}
use Rattle.netcdf_writer.specs.inner.Planned.{AreDims}
use Rattle.netcdf_writer.specs.inner.Tables.{variable_view, variable_views}
use Rattle.netcdf_writer.proofs.Dimensions.{dims_clash_more, no_dims_clash}
use Rattle.netcdf_writer.proofs.Listing.{views_more}
use Rattle.netcdf_writer.proofs.Records.{dims_more}
use Rattle.netcdf_writer.proofs.Walks.{found, passed, views_split, not_yes, not_no}
use Rattle.netcdf_writer.proofs.dims.Dims.add_all.Goals as goal

pub loop-variable-init : goal.loop-variable-init
loop-variable-init c earlier so = (no_dims_clash earlier, subst (AreDims c.args.self.now) (sym (append-nil earlier)) so)

pub loop-variable-preserved : goal.loop-variable-preserved
loop-variable-preserved c earlier so =
    let kept = c.loop-variable.invariant earlier so in
    let views = variable_views (take c.loop-variable.variable-index c.args.variables.now) in
    let front = all_dims views in
    let v = variable_view c.variable-item.result in
    let more = ap all_dims (views_more c.args.variables.now c.loop-variable.variable-index c.variable-item.result c.loop-variable-test.true c.variable-item.is) ∙ dims_more views v in
    let step = c.in_ok-add_each.ensures (earlier ++ front) kept.1 in (
      passed dims_clash dims_clash_more earlier front v.dims _ more kept.0 (not_yes _ (sym c.if-not-branch.false ∙ step.0)),
      subst (AreDims c.add_each.new.self) (append_assoc earlier front v.dims ∙ ap (λ l. earlier ++ l) (sym more)) (step.1 c.if-not-branch.false),
    )

pub returns-then-not-branch : goal.returns-then-not-branch
returns-then-not-branch c earlier so =
    let kept = c.loop-variable.invariant earlier so in
    let views = variable_views (take c.loop-variable.variable-index c.args.variables.now) in
    let behind = variable_views (drop (c.loop-variable.variable-index + 1) c.args.variables.now) in
    let front = all_dims views in
    let v = variable_view c.variable-item.result in
    let parts = ap all_dims (views_split c.args.variables.now c.loop-variable.variable-index c.variable-item.result c.loop-variable-test.true c.variable-item.is)
    ∙ flat_map-append (λ w. w.dims) views (v ∷ behind) in
    let step = c.in_ok-add_each.ensures (earlier ++ front) kept.1 in (
      sym (ap not (found dims_clash dims_clash_more earlier front v.dims (all_dims behind) _ parts kept.0 (not_no _ (sym c.if-not-branch.true ∙ step.0)))),
      λ e. absurd (true≢false (sym e)),
    )

pub returns : goal.returns
returns c earlier so =
    let kept = c.loop-variable.invariant earlier so in
    let all = ap (λ l. all_dims (variable_views l)) (take_all c.loop-variable.variable-index c.args.variables.now c.loop-variable-test.false) in
    (sym (ap not (ap (dims_clash earlier) (sym all) ∙ kept.0)), λ _. subst (λ l. AreDims c.loop-variable.self (earlier ++ l)) all kept.1)
