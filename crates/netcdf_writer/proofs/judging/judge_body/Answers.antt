use Rattle.std.proofs.Common.{◌∙◌, subst, sym}
use Rattle.xdr_decode.specs.Verdict.{IsRefusal}
use Rattle.netcdf_writer.proofs.Bodies.{refusal_judged}
use Rattle.netcdf_writer.proofs.judging.judge_body.Goals as goal

pub returns-in-Err-Refused : goal.returns-in-Err-Refused
returns-in-Err-Refused c =
    refusal_judged c.args.body.now c.in-Err-Refused.field.kind c.in-Err-Refused.field.place c.requires (sym c.says_error.ensures ∙ c.if-says_error.false)
    (subst (IsRefusal c.args.body.now) c.in-Err-Refused.field-0-is c.in-Err-Refused.ensures.refused)
