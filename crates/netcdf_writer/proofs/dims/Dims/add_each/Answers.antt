use Rattle.std.proofs.Common.{◌≡◌, ◌+◌, ◌++◌, ◌∷◌, [], not, take, drop, sym, ap, ◌∙◌, true≢false, append-nil, append_assoc, subst, take_all}
use Rattle.std.proofs.lemmas.List.{take_more}
use Rattle.netcdf_writer.specs.Causes.{dims_clash}
use Rattle.netcdf_writer.specs.inner.Planned.{AreDims}
use Rattle.netcdf_writer.proofs.Dimensions.{dims_clash_more, no_dims_clash}
use Rattle.netcdf_writer.proofs.Walks.{found, passed, split, not_yes, not_no}
use Rattle.netcdf_writer.proofs.dims.Dims.add_each.Goals as goal

pub loop-dim-init : goal.loop-dim-init
loop-dim-init c earlier so = (no_dims_clash earlier, subst (AreDims c.args.self.now) (sym (append-nil earlier)) so)

pub loop-dim-preserved : goal.loop-dim-preserved
loop-dim-preserved c earlier so =
    let kept = c.loop-dim.invariant earlier so in
    let front = take c.loop-dim.dim-index c.args.dims.now in
    let one = c.dim-item.result ∷ [] in
    let more : take (c.loop-dim.dim-index + 1) c.args.dims.now ≡ front ++ one =
    take_more c.args.dims.now c.loop-dim.dim-index c.dim-item.result c.loop-dim-test.true ∙ ap (λ x. front ++ x ∷ []) (sym c.dim-item.is) in
    let step = c.in_ok-add.ensures (earlier ++ front) kept.1 in (
      passed dims_clash dims_clash_more earlier front one _ more kept.0 (not_yes _ (sym c.if-not-branch.false ∙ step.0)),
      subst (AreDims c.add.new.self) (append_assoc earlier front one ∙ ap (λ l. earlier ++ l) (sym more)) (step.1 c.if-not-branch.false),
    )

pub returns-then-not-branch : goal.returns-then-not-branch
returns-then-not-branch c earlier so =
    let kept = c.loop-dim.invariant earlier so in
    let front = take c.loop-dim.dim-index c.args.dims.now in
    let step = c.in_ok-add.ensures (earlier ++ front) kept.1 in (
      sym (ap not (found dims_clash dims_clash_more earlier front (c.dim-item.result ∷ []) (drop (c.loop-dim.dim-index + 1) c.args.dims.now) _
          (split c.args.dims.now c.loop-dim.dim-index c.dim-item.result c.loop-dim-test.true c.dim-item.is) kept.0 (not_no _ (sym c.if-not-branch.true ∙ step.0)))),
      λ e. absurd (true≢false (sym e)),
    )

pub returns : goal.returns
returns c earlier so =
    let kept = c.loop-dim.invariant earlier so in
    let all = take_all c.loop-dim.dim-index c.args.dims.now c.loop-dim-test.false in
    (sym (ap not (ap (dims_clash earlier) (sym all) ∙ kept.0)), λ _. subst (λ l. AreDims c.loop-dim.self (earlier ++ l)) all kept.1)
