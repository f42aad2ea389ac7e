use Rattle.std.proofs.Common.{◌++◌, sym, subst, append_assoc}
use Rattle.dap_client.specs.Verdict.{JudgesDds, bad}
use Rattle.dap_client.proofs.dds_body.DdsBody.read.Goals as goal

pub returns-in-Wrong : goal.returns-in-Wrong
returns-in-Wrong c = record {
  body = λ bytes is o more.
      (let stays = rw c.in-Wrong.is at o in
      subst (λ l. JudgesDds l (bad c.in-Wrong.field.kind c.in-Wrong.field.place)) (sym (append_assoc bytes c.args.piece.now more)) (stays (c.args.piece.now ++ more)));
}
