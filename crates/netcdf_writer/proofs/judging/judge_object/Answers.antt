use Rattle.std.proofs.Common.{length, refl, subst, sym}
use Rattle.dap_errors.specs.Reading.{IsBad, IsCut}
use Rattle.netcdf_writer.specs.inner.Judged.{IsJudged}
use Rattle.netcdf_writer.proofs.Bodies.{bad_object_judged, cut_object_judged, object_judged}
use Rattle.netcdf_writer.proofs.judging.judge_object.Goals as goal

pub returns-in-Ok : goal.returns-in-Ok
returns-in-Ok c = object_judged c.args.body.now c.in-Ok.object c.requires.few c.requires.error c.in-Ok.ensures.object

pub returns-in-Err-Bad : goal.returns-in-Err-Bad
returns-in-Err-Bad c =
    let told : IsBad c.args.body.now c.in-Err-Bad.place = rw c.in-Err-Bad.field-0-is at c.in-Err-Bad.ensures.bad in
    subst (IsJudged c.args.body.now) (sym c.bad.ensures) (bad_object_judged c.args.body.now c.in-Err-Bad.place c.requires.few c.requires.error told)

pub returns-in-Err-Cut : goal.returns-in-Err-Cut
returns-in-Err-Cut c =
    let told : IsCut c.args.body.now = rw c.in-Err-Cut.field-0-is at c.in-Err-Cut.ensures.cut in
    subst (IsJudged c.args.body.now) (sym c.bad-in-Err-Cut.ensures) (cut_object_judged c.args.body.now (length c.args.body.now) c.requires.few c.requires.error told refl)
