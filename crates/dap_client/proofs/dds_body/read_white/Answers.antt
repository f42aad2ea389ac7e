use Rattle.std.proofs.Common.{◌+◌, ◌++◌, ap, subst, sym}
use Rattle.reply_faults.specs.declared.bad.Bad.TheVariants.{Trailing}
use Rattle.dap_client.proofs.DdsBodies.{stray_on, white_on}
use Rattle.dap_types.specs.View.{dataset_view}
use Rattle.dap_client.specs.Verdict.{JudgesDds, bad}
use Rattle.dap_client.specs.inner.DdsBodies.{IsDdsBody}
use Rattle.dap_client.proofs.dds_body.read_white.Goals as goal

pub returns-in-None : goal.returns-in-None
returns-in-None c = record { body = λ bytes is o. white_on bytes c.args.piece.now (dataset_view c.args.dataset) o (rw c.in-None.is at c.first_other.ensures) }

pub returns-in-Some : goal.returns-in-Some
returns-in-Some c = record {
  body = λ bytes is o.
      (let found = rw c.in-Some.is at c.first_other.ensures in
      subst (IsDdsBody (bytes ++ c.args.piece.now)) (sym c.wrong.ensures)
      (λ more. subst (λ n. JudgesDds ((bytes ++ c.args.piece.now) ++ more) (bad Trailing n)) (ap (λ n. n + c.in-Some.at) is)
      (stray_on bytes c.args.piece.now (dataset_view c.args.dataset) c.in-Some.at o found.within found.white found.other more)));
}
