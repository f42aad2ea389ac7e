use Rattle.std.proofs.Common.{◌++◌, [], refl, sym, ap, subst, ◌∙◌}
use Rattle.dap_client.proofs.Filling.{first_bad, full_bad, unfinished_not_full}
use Rattle.dap_client.proofs.Texts.{done_token, few_nothing, open_no_head}
use Rattle.dap_client.specs.inner.Stages.{IsStage}
use Rattle.dap_model.specs.Tokens.{tokens_of}
use Rattle.std.proofs.Common.{append-nil}
use Rattle.dds_text.specs.Reading.{IsUnfinished}
use Rattle.dap_client.proofs.stage.fill_first.Goals as goal

pub returns-in-Ok-Bad-clause-stage : goal.returns-in-Ok-Bad-clause-stage
returns-in-Ok-Bad-clause-stage c bytes full word o had =
    let (p, is, bad) = rw c.in-Ok-Bad.field-0-is at (c.in-Ok-Bad.ensures.bad bytes had.0) in
    let (judged, shows) = first_bad word bytes c.in-Ok-Bad.place p _ o had.1 is bad in
    subst (λ s. IsStage s bytes []) (sym c.full.ensures) (full_bad bytes [] c.in-Ok-Bad.place full judged shows)

pub returns-in-Ok-More-clause-stage : goal.returns-in-Ok-More-clause-stage
returns-in-Ok-More-clause-stage c bytes full word o had =
    absurd (unfinished_not_full bytes full (subst IsUnfinished (append-nil bytes) (rw c.in-Ok-More.field-0-is at (c.in-Ok-More.ensures.more bytes had.0))))

pub returns-in-Ok-Done-clause-stage : goal.returns-in-Ok-Done-clause-stage
returns-in-Ok-Done-clause-stage c bytes full word o had =
    let (le, (d, done)) = rw c.in-Ok-Done.field-0-is at (c.in-Ok-Done.ensures.done bytes had.0) in absurd (done_token (bytes ++ []) _ d done (ap tokens_of (append-nil bytes) ∙ o.no_token))

pub returns-clause-stage : goal.returns-clause-stage
returns-clause-stage c bytes full word o had = (few_nothing bytes (open_no_head word bytes o), refl)
