use Rattle.std.proofs.Common.{◌+◌, ◌++◌, ◌∷◌, [], not, take, drop, sym, ap, ◌∙◌, true≢false, append-nil, append_assoc, subst, take_all}
use Rattle.netcdf_writer.specs.Causes.{records_clash}
use Rattle.netcdf_writer.specs.inner.Planned.{IsRecord}
use Rattle.netcdf_writer.specs.inner.Tables.{variable_view, variable_views}
use Rattle.netcdf_writer.proofs.Listing.{views_more}
use Rattle.netcdf_writer.proofs.Records.{clash_more, none_clash}
use Rattle.netcdf_writer.proofs.Walks.{found, passed, views_split, not_yes, not_no}
use Rattle.netcdf_writer.proofs.plan.Record.add_all.Goals as goal

pub loop-variable-init : goal.loop-variable-init
loop-variable-init c earlier so = (none_clash earlier, subst (IsRecord c.args.self.now) (sym (append-nil earlier)) so)

pub loop-variable-preserved : goal.loop-variable-preserved
loop-variable-preserved c earlier so =
    let kept = c.loop-variable.invariant earlier so in
    let front = variable_views (take c.loop-variable.variable-index c.args.variables.now) in
    let one = variable_view c.variable-item.result ∷ [] in
    let more = views_more c.args.variables.now c.loop-variable.variable-index c.variable-item.result c.loop-variable-test.true c.variable-item.is in
    let step = c.add.ensures (earlier ++ front) kept.1 in (
      passed records_clash clash_more earlier front one _ more kept.0 (not_yes _ (sym c.if-not-add.false ∙ step.0)),
      subst (IsRecord c.add.new.self) (append_assoc earlier front one ∙ ap (λ l. earlier ++ l) (sym more)) (step.1 c.if-not-add.false),
    )

pub returns-then-not-add : goal.returns-then-not-add
returns-then-not-add c earlier so =
    let kept = c.loop-variable.invariant earlier so in
    let front = variable_views (take c.loop-variable.variable-index c.args.variables.now) in
    let step = c.add.ensures (earlier ++ front) kept.1 in (
      sym (ap not (found records_clash clash_more earlier front (variable_view c.variable-item.result ∷ []) (variable_views (drop (c.loop-variable.variable-index + 1) c.args.variables.now)) _
          (views_split c.args.variables.now c.loop-variable.variable-index c.variable-item.result c.loop-variable-test.true c.variable-item.is) kept.0 (not_no _ (sym c.if-not-add.true ∙ step.0)))),
      λ e. absurd (true≢false (sym e)),
    )

pub returns : goal.returns
returns c earlier so =
    let kept = c.loop-variable.invariant earlier so in
    let all = ap variable_views (take_all c.loop-variable.variable-index c.args.variables.now c.loop-variable-test.false) in
    (sym (ap not (ap (records_clash earlier) (sym all) ∙ kept.0)), λ _. subst (λ l. IsRecord c.loop-variable.self (earlier ++ l)) all kept.1)
